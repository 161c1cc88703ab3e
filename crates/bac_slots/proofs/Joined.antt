-- Keys and entries as the slots that they make, and keys alone as slots.
use Rattle.std.proofs.Common.{◌≡◌, ℕ, zero, suc, ◌+◌, ◌<◌, ◌≤◌, Bool, true, false, List, [], ◌∷◌, ◌++◌, length, Option, Some, None, slice_get, get_or}
use Rattle.std.proofs.Common.{if◌then◌else◌, refl, ap, sym, ◌∙◌, arith, cond}
use Rattle.std.specs.Cmp.{IsTotalOrder}
use Rattle.std.specs.Ordering.{is_eq}
use Rattle.std.specs.List.{slice_set, remove}
use Rattle.std.specs.declared.cmp.Ordering.{Ordering}
use Rattle.std.proofs.lemmas.List.{length-map, map-append}
use Rattle.std.proofs.lemmas.Option.{slice_get-map, slice_get_read, slice_get_past}
use Rattle.std.specs.Option.{option_map, IsSome, OnSome}
use Rattle.bac_slots.specs.declared.slot.Slot.{Slot}
use Rattle.bac_slots.specs.declared.index_slots.Entry.{Entry}
use Rattle.bac_slots.specs.Slots.{is_less, rank, nth_by_key, in_order, value_at, with_value, IsApart, IsDistinct, IsAt}
use Rattle.bac_slots.specs.Indexes.{bare, joined, keyed, IsIndex}
use Rattle.bac_slots.proofs.KeyOrder.{length_in_order, rank_more, rank_sorted, rank_in_order, sorted_in_order, place_ranked, in_place, are_apart}
use Rattle.bac_slots.proofs.Indexes.{index_at, index_within, nth_at}

-- a fact that holds if there is a value holds, since there is one
pub when_some : {X : Type 0} (o : Option X) (P : Type 0) → IsSome o → OnSome o P → P
when_some None P is p = absurd cc
when_some (Some x) P is p = p

-- ---- keys as slots

pub keyed_length : {K : Type 0} (keys : List K) → length (keyed keys) ≡ length keys
keyed_length keys = length-map keys bare

pub keyed_put : {K : Type 0} (keys : List K) (k : K) → keyed (keys ++ k ∷ []) ≡ keyed keys ++ bare k ∷ []
keyed_put keys k = map-append bare keys (k ∷ [])

pub keyed_remove : {K : Type 0} (keys : List K) (n : ℕ) → keyed (remove keys n) ≡ remove (keyed keys) n
keyed_remove [] zero = refl
keyed_remove [] (suc n) = refl
keyed_remove (k ∷ keys) zero = refl
keyed_remove (k ∷ keys) (suc n) = ap (λ l. bare k ∷ l) (keyed_remove keys n)

pub keyed_within : {K : Type 0} (keys : List K) (n : ℕ) → n < length (keyed keys) → n < length keys
keyed_within keys n l = let long = keyed_length keys in omega (arith, l, long)

pub keyed_read : {K : Type 0} (keys : List K) (n : ℕ) (k : K) → n < length (keyed keys) → k ≡ get_or keys n k → slice_get (keyed keys) n ≡ Some (bare k)
keyed_read keys n k l e =
    slice_get-map bare keys n ∙ ap (option_map bare) (slice_get_read keys _ n k refl (keyed_within keys n l) e)

-- ---- the slots of keys and entries

pub joined_length : {K T : Type 0} (keys : List K) (entries : List (Entry T)) → length keys ≡ length entries → length (joined keys entries) ≡ length keys
joined_length [] entries e = refl
joined_length (k ∷ keys) [] e = absurd (omega (arith, e))
joined_length (k ∷ keys) (x ∷ entries) e = ap suc (joined_length keys entries (omega (arith, e)))

pub joined_get : {K T : Type 0} (keys : List K) (entries : List (Entry T)) (n : ℕ) (k : K) (x : Entry T) → slice_get keys n ≡ Some k
    → slice_get entries n ≡ Some x → slice_get (joined keys entries) n ≡ Some (record { key = k; begin = x.begin; value = x.value })
joined_get [] entries n k x e f = absurd cc
joined_get (j ∷ keys) [] n k x e f = absurd cc
joined_get (j ∷ keys) (y ∷ entries) zero k x e f =
    let one : j ≡ k = cc in
    let other : y ≡ x = cc in
    ap (λ i. Some (record { key = i; begin = y.begin; value = y.value })) one ∙ ap (λ z. Some (record { key = k; begin = z.begin; value = z.value })) other
joined_get (j ∷ keys) (y ∷ entries) (suc n) k x e f = joined_get keys entries n k x e f

pub joined_past : {K T : Type 0} (keys : List K) (entries : List (Entry T)) (n : ℕ) → length keys ≡ length entries → length keys ≤ n
    → slice_get (joined keys entries) n ≡ None
joined_past keys entries n e l = let long = joined_length keys entries e in slice_get_past (joined keys entries) n (omega (arith, l, long))

pub joined_put : {K T : Type 0} (keys : List K) (entries : List (Entry T)) (k : K) (x : Entry T) → length keys ≡ length entries
    → joined (keys ++ k ∷ []) (entries ++ x ∷ []) ≡ joined keys entries ++ record { key = k; begin = x.begin; value = x.value } ∷ []
joined_put [] [] k x e = refl
joined_put [] (y ∷ entries) k x e = absurd (omega (arith, e))
joined_put (j ∷ keys) [] k x e = absurd (omega (arith, e))
joined_put (j ∷ keys) (y ∷ entries) k x e =
    ap (λ l. record { key = j; begin = y.begin; value = y.value } ∷ l) (joined_put keys entries k x (omega (arith, e)))

joined_none : {K T : Type 0} (keys : List K) (entries : List (Entry T)) → entries ≡ [] → joined keys entries ≡ []
joined_none [] entries e = refl
joined_none (k ∷ keys) [] e = refl
joined_none (k ∷ keys) (x ∷ entries) e = absurd cc

pub joined_remove : {K T : Type 0} (keys : List K) (entries : List (Entry T)) (n : ℕ)
    → joined (remove keys n) (remove entries n) ≡ remove (joined keys entries) n
joined_remove [] entries zero = refl
joined_remove [] entries (suc n) = refl
joined_remove (k ∷ keys) [] zero = joined_none keys [] refl
joined_remove (k ∷ keys) [] (suc n) = refl
joined_remove (k ∷ keys) (x ∷ entries) zero = refl
joined_remove (k ∷ keys) (x ∷ entries) (suc n) =
    ap (λ l. record { key = k; begin = x.begin; value = x.value } ∷ l) (joined_remove keys entries n)

-- ---- what depends on the keys alone

pub joined_IsAt : {K T : Type 0} (eq : K → K → Bool) (key : K) (n : ℕ) (keys : List K) (entries : List (Entry T)) → length keys ≡ length entries
    → IsAt eq key n (keyed keys) → IsAt eq key n (joined keys entries)
joined_IsAt eq key n [] entries e at = absurd at
joined_IsAt eq key n (k ∷ keys) [] e at = absurd (omega (arith, e))
joined_IsAt eq key zero (k ∷ keys) (x ∷ entries) e at = at
joined_IsAt eq key (suc n) (k ∷ keys) (x ∷ entries) e at = (at.0, joined_IsAt eq key n keys entries (omega (arith, e)) at.1)

pub joined_absent : {K T : Type 0} (eq : K → K → Bool) (key : K) (keys : List K) (entries : List (Entry T)) → value_at eq key (keyed keys) ≡ None
    → value_at eq key (joined keys entries) ≡ None
joined_absent eq key [] entries e = refl
joined_absent eq key (k ∷ keys) [] e = refl
joined_absent eq key (k ∷ keys) (x ∷ entries) e = go (eq k key) e (λ f. joined_absent eq key keys entries f)
  where
    go : (b : Bool) → (if b then Some tt else value_at eq key (keyed keys)) ≡ None
        → (value_at eq key (keyed keys) ≡ None → value_at eq key (joined keys entries) ≡ None)
        → (if b then Some x.value else value_at eq key (joined keys entries)) ≡ None
    go true e again = absurd cc
    go false e again = again e

pub keyed_absent : {K T : Type 0} (eq : K → K → Bool) (key : K) (keys : List K) (entries : List (Entry T)) → length keys ≡ length entries
    → value_at eq key (joined keys entries) ≡ None → value_at eq key (keyed keys) ≡ None
keyed_absent eq key [] entries l e = refl
keyed_absent eq key (k ∷ keys) [] l e = absurd (omega (arith, l))
keyed_absent eq key (k ∷ keys) (x ∷ entries) l e = go (eq k key) e (λ f. keyed_absent eq key keys entries (omega (arith, l)) f)
  where
    go : (b : Bool) → (if b then Some x.value else value_at eq key (joined keys entries)) ≡ None
        → (value_at eq key (joined keys entries) ≡ None → value_at eq key (keyed keys) ≡ None)
        → (if b then Some tt else value_at eq key (keyed keys)) ≡ None
    go true e again = absurd cc
    go false e again = again e

joined_IsApart : {K T : Type 0} (eq : K → K → Bool) (key : K) (keys : List K) (entries : List (Entry T)) → IsApart eq key (keyed keys)
    → IsApart eq key (joined keys entries)
joined_IsApart eq key [] entries a = tt
joined_IsApart eq key (k ∷ keys) [] a = tt
joined_IsApart eq key (k ∷ keys) (x ∷ entries) a = (a.0, joined_IsApart eq key keys entries a.1)

pub joined_IsDistinct : {K T : Type 0} (eq : K → K → Bool) (keys : List K) (entries : List (Entry T)) → IsDistinct eq (keyed keys)
    → IsDistinct eq (joined keys entries)
joined_IsDistinct eq [] entries d = tt
joined_IsDistinct eq (k ∷ keys) [] d = tt
joined_IsDistinct eq (k ∷ keys) (x ∷ entries) d = (joined_IsApart eq k keys entries d.0, joined_IsDistinct eq keys entries d.1)

-- the entry at the place of a key has another value
with_value_joined : {K T : Type 0} (eq : K → K → Bool) (key : K) (v : T) (n : ℕ) (keys : List K) (entries : List (Entry T)) (d : Entry T)
    → length keys ≡ length entries → IsAt eq key n (keyed keys)
    → with_value eq key v (joined keys entries) ≡ joined keys (slice_set entries n (record (get_or entries n d) { value = v }))
with_value_joined eq key v n [] entries d e at = absurd at
with_value_joined eq key v n (k ∷ keys) [] d e at = absurd (omega (arith, e))
with_value_joined eq key v zero (k ∷ keys) (x ∷ entries) d e at = rw at refl
with_value_joined eq key v (suc n) (k ∷ keys) (x ∷ entries) d e at =
    rw at.0 (ap (λ l. record { key = k; begin = x.begin; value = x.value } ∷ l) (with_value_joined eq key v n keys entries d (omega (arith, e)) at.1))

pub joined_set : {K T : Type 0} (eq : K → K → Bool) (key : K) (v w : T) (n : ℕ) (keys : List K) (entries : List (Entry T)) (d : Entry T)
    → length keys ≡ length entries → IsAt eq key n (keyed keys) → d ≡ get_or entries n d → w ≡ v
    → joined keys (slice_set entries n (record d { value = w })) ≡ with_value eq key v (joined keys entries)
joined_set eq key v w n keys entries d e at is same =
    ap (λ x. joined keys (slice_set entries n (record d { value = x }))) same
    ∙ ap (λ x. joined keys (slice_set entries n (record x { value = v }))) is
    ∙ sym (with_value_joined eq key v n keys entries d e at)

pub joined_value : {K T : Type 0} (eq : K → K → Bool) (key : K) (n : ℕ) (keys : List K) (entries : List (Entry T)) (d : Entry T)
    → length keys ≡ length entries → IsAt eq key n (keyed keys) → d ≡ get_or entries n d → value_at eq key (joined keys entries) ≡ Some d.value
joined_value {K} {T} eq key n keys entries d e at is = go n keys entries e at ∙ ap (λ x. Some x.value) (sym is)
  where
    go : (n : ℕ) (keys : List K) (entries : List (Entry T)) → length keys ≡ length entries → IsAt eq key n (keyed keys)
        → value_at eq key (joined keys entries) ≡ Some (get_or entries n d).value
    go n [] entries e at = absurd at
    go n (k ∷ keys) [] e at = absurd (omega (arith, e))
    go zero (k ∷ keys) (x ∷ entries) e at = rw at refl
    go (suc n) (k ∷ keys) (x ∷ entries) e at = rw at.0 (go n keys entries (omega (arith, e)) at.1)

-- ---- key order

get_inside : {X : Type 0} (xs : List X) (n : ℕ) → n < length xs → (x : X) × (slice_get xs n ≡ Some x)
get_inside [] n l = absurd (omega (arith, l))
get_inside (x ∷ xs) zero l = (x, refl)
get_inside (x ∷ xs) (suc n) l = get_inside xs n (omega (arith, l))

module _ (K T : Type 0) (cmp : K → K → Ordering) (total : IsTotalOrder cmp) (eq : K → K → Bool) (matches : (x y : K) → eq x y ≡ is_eq (cmp x y)) where
  pub joined_rank : (key : K) (keys : List K) (entries : List (Entry T)) → length keys ≡ length entries
      → rank cmp key (joined keys entries) ≡ rank cmp key (keyed keys)
  joined_rank key [] entries e = refl
  joined_rank key (k ∷ keys) [] e = absurd (omega (arith, e))
  joined_rank key (k ∷ keys) (x ∷ entries) e =
      rank_more K T cmp total key (record { key = k; begin = x.begin; value = x.value }) (joined keys entries)
      ∙ ap (λ n. cond (is_less (cmp k key)) 1 0 + n) (joined_rank key keys entries (omega (arith, e)))
      ∙ sym (rank_more K (Unit {0}) cmp total key (bare k) (keyed keys))

  -- the slot at the n-th place of an index of the keys is the n-th by key
  pub joined_nth : (keys : List K) (entries : List (Entry T)) (places : List ℕ) (n p : ℕ) → length keys ≡ length entries → IsDistinct eq (keyed keys)
      → IsIndex cmp places (keyed keys) → slice_get places n ≡ Some p → nth_by_key cmp n (joined keys entries) ≡ slice_get (joined keys entries) p
  joined_nth keys entries places n p e d i f =
      let slots : List (Slot K T) = joined keys entries in
      let within = keyed_within keys p (index_within K (Unit {0}) cmp total eq matches (keyed keys) places n p i f) in
      let key = get_inside keys p within in
      let entry = get_inside entries p (omega (arith, e, within)) in
      let k : K = key.0 in
      let x : Entry T = entry.0 in
      let s : Slot K T = record { key = k; begin = x.begin; value = x.value } in
      let distinct : IsDistinct eq slots = joined_IsDistinct eq keys entries d in
      let here : slice_get (in_order cmp (keyed keys)) n ≡ Some (bare k) =
      index_at K (Unit {0}) cmp total eq matches (keyed keys) places n p i f ∙ slice_get-map bare keys p ∙ ap (option_map bare) key.1 in
      let ranked : rank cmp k slots ≡ n =
      joined_rank k keys entries e ∙ sym (rank_in_order K (Unit {0}) cmp total k (keyed keys))
      ∙ rank_sorted K (Unit {0}) cmp total (in_order cmp (keyed keys)) n (bare k)
      (sorted_in_order K (Unit {0}) cmp total (keyed keys) (are_apart K (Unit {0}) cmp total eq matches (keyed keys) d)) here in
      let there : slice_get slots p ≡ Some s = joined_get keys entries p k x key.1 entry.1 in
      nth_at K T cmp total eq matches slots n (Some s) distinct
      (ap (λ m. slice_get (in_order cmp slots) m) (sym ranked)
      ∙ place_ranked K T cmp total slots s (are_apart K T cmp total eq matches slots distinct) (in_place K T cmp total slots p s there))
      ∙ sym there

  pub joined_nth_past : (keys : List K) (entries : List (Entry T)) (n : ℕ) → length keys ≡ length entries → IsDistinct eq (keyed keys) → length keys ≤ n
      → nth_by_key cmp n (joined keys entries) ≡ None
  joined_nth_past keys entries n e d l =
      let slots : List (Slot K T) = joined keys entries in
      let long = joined_length keys entries e in
      let all = length_in_order K T cmp total slots in
      nth_at K T cmp total eq matches slots n None (joined_IsDistinct eq keys entries d)
      (slice_get_past (in_order cmp slots) n (omega (arith, long, all, l)))
