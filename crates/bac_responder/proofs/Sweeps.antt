-- What entering and putting back make of the slots of the server's end.
use Rattle.std.proofs.Common.{◌≡◌, ℕ, ◌<◌, Bool, true, false, not, List, [], ◌∷◌, ◌++◌, filter, count_by, Option, Some, None, if◌then◌else◌, nat_lt}
use Rattle.std.proofs.Common.{refl, ap, sym, ◌∙◌, arith}
use Rattle.std.proofs.lemmas.Bool.Decides.{nat_tests}
use Rattle.bac_slots.specs.declared.slot.Slot.{Slot}
use Rattle.bac_slots.specs.Slots.{with_value, keep}
use Rattle.bac_protocol.specs.Server.{ServerTransaction, is_live, is_none_live}
use Rattle.bac_transaction.specs.Ends.{is_free, is_slot_live, set_or_put}
use Rattle.bac_transaction.specs.Views.{peer_key_view, slots_view, code_same_key}
use Rattle.bac_transaction.specs.declared.peer_key.PeerKey.{PeerKey as CodeKey}
use Rattle.bac_transaction.proofs.ServerTables.{has_space}
use Rattle.bac_transaction.proofs.Keyed.{put_viewed, filter_viewed, with_value_viewed}
use Rattle.bac_transaction.proofs.Viewed.{count_viewed}
use Rattle.bac_responder.specs.Views.{end_of}

abbrev Slots : Type 0
Slots = List (Slot CodeKey ServerTransaction)

pub none_live : (now : ℕ) (d : ServerTransaction) → is_none_live now (Some d) ≡ not (is_live now d)
none_live now d = go (is_live now d)
  where
    go : (b : Bool) → (if b then false else true) ≡ not b
    go true = refl
    go false = refl

pub keep_none : (now : ℕ) (o : Option ServerTransaction) → is_none_live now o ≡ true → keep (is_live now) o ≡ None
keep_none now None e = refl
keep_none now (Some d) e = go (is_live now d) e
  where
    go : (b : Bool) → (if b then false else true) ≡ true → (if b then Some d else None) ≡ None
    go true e = absurd cc
    go false e = refl

-- where a slot is free in the end, one has no live entry in the table
pub room : (now capacity : ℕ) (restart : Option ℕ) (slots : Slots) → is_free now (end_of slots capacity restart) ≡ true
    → count_by (λ s. is_live now s.value) slots < capacity
room now capacity restart slots free =
    let space : nat_lt (count_by (is_slot_live now) (slots_view slots)) capacity ≡ true = has_space now (end_of slots capacity restart) free in
    let lt : count_by (is_slot_live now) (slots_view slots) < capacity = grind (arith, nat_tests, space) in
    let same : count_by (is_slot_live now) (slots_view slots) ≡ count_by (λ s. is_live now s.value) slots = count_viewed ServerTransaction (is_live now) slots in
    omega (arith, lt, same)

-- what entering and putting back make of the end's slots

pub entered : (now : ℕ) (key : CodeKey) (d : ServerTransaction) (old new : Slots) → d.begin ≡ now
    → new ≡ filter (λ s. is_live now s.value) old ++ record { key = key; begin = now; value = d } ∷ []
    → slots_view new ≡ set_or_put now (peer_key_view key) d (slots_view old) true
entered now key d old new begin is =
    ap slots_view (is ∙ ap (λ (k : ℕ). filter (λ s. is_live now s.value) old ++ record { key = key; begin = k; value = d } ∷ []) (sym begin))
    ∙ put_viewed ServerTransaction (filter (λ s. is_live now s.value) old) (record { key = key; begin = d.begin; value = d })
    ∙ ap (λ l. l ++ record { key = peer_key_view key; begin = d.begin; value = d } ∷ []) (filter_viewed ServerTransaction (is_live now) old)

pub set_there : (now : ℕ) (key : CodeKey) (d : ServerTransaction) (old new : Slots) → new ≡ with_value code_same_key key d old
    → slots_view new ≡ set_or_put now (peer_key_view key) d (slots_view old) false
set_there now key d old new set = ap slots_view set ∙ with_value_viewed ServerTransaction key d old

pub same_end : (a b : Slots) (m n : ℕ) (restart : Option ℕ) → a ≡ b → m ≡ n → end_of a m restart ≡ end_of b n restart
same_end a b m n restart e f = ap (λ (k : ℕ). end_of a k restart) f ∙ ap (λ (l : Slots). end_of l n restart) e
