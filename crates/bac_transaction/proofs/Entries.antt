-- The reply table after an entry was put.
use Rattle.std.proofs.Common.{◌≡◌, ℕ, Bool, true, false, List, Option, Some, None, if◌then◌else◌, refl, ap, ◌∙◌}
use Rattle.bac_protocol.specs.Server.{ServerTransaction, is_live, live_entry, is_none_live}
use Rattle.bac_slots.specs.Slots.{value_at, keep, IsDistinct}
use Rattle.bac_transaction.specs.Keys.{PeerKey, same_key}
use Rattle.bac_transaction.specs.Ends.{ServerSlot, set_or_put, put_entry}
use Rattle.bac_transaction.proofs.KeyedSlots.{EachSlot, passing, passing_value, passing_distinct, with_same}
use Rattle.bac_transaction.proofs.KeyedSlots.{with_other, with_distinct, put_same, put_other, put_distinct}
use Rattle.bac_transaction.proofs.KeyedSlots.{each_with, each_passing, each_put}

-- an entry that is live is left
pub live_kept : (now : ℕ) (o : Option ServerTransaction) → live_entry now (keep (is_live now) o) ≡ live_entry now o
live_kept now None = refl
live_kept now (Some e) = go (is_live now e) refl
  where
    go : (b : Bool) → is_live now e ≡ b → live_entry now (if b then Some e else None) ≡ (if b then Some e else None)
    go true is = ap (λ b. if b then Some e else None) is
    go false is = refl

none_kept : (now : ℕ) (o : Option ServerTransaction) → is_none_live now o ≡ true → keep (is_live now) o ≡ None
none_kept now None is = refl
none_kept now (Some e) is = go (is_live now e) is
  where
    go : (b : Bool) → (if b then false else true) ≡ true → (if b then Some e else None) ≡ None
    go true e = absurd cc
    go false e = refl

some_there : (now : ℕ) (o : Option ServerTransaction) → is_none_live now o ≡ false → (e : ServerTransaction) × (o ≡ Some e)
some_there now None is = absurd cc
some_there now (Some e) is = (e, refl)

module _ (now : ℕ) (p : PeerKey) (slots : List ServerSlot) (distinct : IsDistinct same_key slots) where
  gone : is_none_live now (value_at same_key p slots) ≡ true → value_at same_key p (passing ServerTransaction (is_live now) slots) ≡ None
  gone dead = passing_value ServerTransaction (is_live now) p slots distinct ∙ none_kept now (value_at same_key p slots) dead

  -- what is found where a live entry was set or put
  pub set_here : (d : ServerTransaction) (b : Bool) → is_none_live now (value_at same_key p slots) ≡ b → value_at same_key p (set_or_put now p d slots b) ≡ Some d
  set_here d true dead = put_same ServerTransaction p d.begin d (passing ServerTransaction (is_live now) slots) (gone dead)
  set_here d false live =
      let e = some_there now (value_at same_key p slots) live in with_same ServerTransaction p d e.0 slots e.1

  set_there : (d : ServerTransaction) (q : PeerKey) → (p ≡ q → ⊥) → (b : Bool)
      → live_entry now (value_at same_key q (set_or_put now p d slots b)) ≡ live_entry now (value_at same_key q slots)
  set_there d q ne true = ap (live_entry now) (put_other ServerTransaction p q d.begin d (passing ServerTransaction (is_live now) slots) ne
      ∙ passing_value ServerTransaction (is_live now) q slots distinct) ∙ live_kept now (value_at same_key q slots)
  set_there d q ne false = ap (live_entry now) (with_other ServerTransaction p q d slots ne)

  set_distinct : (d : ServerTransaction) (b : Bool) → is_none_live now (value_at same_key p slots) ≡ b → IsDistinct same_key (set_or_put now p d slots b)
  set_distinct d true dead =
      put_distinct ServerTransaction p d.begin d (passing ServerTransaction (is_live now) slots) (passing_distinct ServerTransaction (is_live now) slots distinct) (gone dead)
  set_distinct d false live = with_distinct ServerTransaction p d slots distinct

  set_each : (P : PeerKey → ServerTransaction → Type 0) (d : ServerTransaction) → P p d → EachSlot ServerTransaction P slots → (b : Bool) → EachSlot ServerTransaction P (set_or_put now p d slots b)
  set_each P d h k true =
      each_put ServerTransaction P p d.begin d (passing ServerTransaction (is_live now) slots) h (each_passing ServerTransaction P (is_live now) slots k)
  set_each P d h k false = each_with ServerTransaction P p d slots h k

  -- what is found where the entry was put, and elsewhere
  pub entry_here : (o : Option ServerTransaction) → (live_entry now o ≡ None → live_entry now (value_at same_key p slots) ≡ None)
      → live_entry now (value_at same_key p (put_entry now p o slots)) ≡ live_entry now o
  entry_here None none = none refl
  entry_here (Some d) none = go (is_live now d) refl none
    where
      go : (b : Bool) → is_live now d ≡ b → ((if b then Some d else None) ≡ None → live_entry now (value_at same_key p slots) ≡ None)
          → live_entry now (value_at same_key p (if b then set_or_put now p d slots (is_none_live now (value_at same_key p slots)) else slots))
          ≡ (if b then Some d else None)
      go true is none = ap (live_entry now) (set_here d (is_none_live now (value_at same_key p slots)) refl) ∙ ap (λ b. if b then Some d else None) is
      go false is none = none refl

  pub entry_there : (o : Option ServerTransaction) (q : PeerKey) → (p ≡ q → ⊥)
      → live_entry now (value_at same_key q (put_entry now p o slots)) ≡ live_entry now (value_at same_key q slots)
  entry_there None q ne = refl
  entry_there (Some d) q ne = go (is_live now d)
    where
      go : (b : Bool) → live_entry now (value_at same_key q (if b then set_or_put now p d slots (is_none_live now (value_at same_key p slots)) else slots))
          ≡ live_entry now (value_at same_key q slots)
      go true = set_there d q ne (is_none_live now (value_at same_key p slots))
      go false = refl

  pub entry_distinct : (o : Option ServerTransaction) → IsDistinct same_key (put_entry now p o slots)
  entry_distinct None = distinct
  entry_distinct (Some d) = go (is_live now d)
    where
      go : (b : Bool) → IsDistinct same_key (if b then set_or_put now p d slots (is_none_live now (value_at same_key p slots)) else slots)
      go true = set_distinct d (is_none_live now (value_at same_key p slots)) refl
      go false = distinct

  pub entry_each : (P : PeerKey → ServerTransaction → Type 0) (o : Option ServerTransaction) → ((d : ServerTransaction) → P p d) → EachSlot ServerTransaction P slots
      → EachSlot ServerTransaction P (put_entry now p o slots)
  entry_each P None h k = k
  entry_each P (Some d) h k = go (is_live now d)
    where
      go : (b : Bool) → EachSlot ServerTransaction P (if b then set_or_put now p d slots (is_none_live now (value_at same_key p slots)) else slots)
      go true = set_each P d (h d) k (is_none_live now (value_at same_key p slots))
      go false = k
