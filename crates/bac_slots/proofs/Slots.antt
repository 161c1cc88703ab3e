-- The list of slots after the calls of a table.
use Rattle.std.proofs.Common.{◌≡◌, ℕ, zero, suc, Bool, true, false, List, [], ◌∷◌, ◌++◌, length, Option, Some, None, refl, ap, sym, subst, ◌∙◌, arith}
use Rattle.std.proofs.Common.{if◌then◌else◌, ◌<◌, ◌≤◌, ◌+◌, not, cond, nat_lt, nat_eq, drop, get_or}
use Rattle.std.specs.Prelude.{MatchOption}
use Rattle.std.specs.List.{prefix_len, position, slice_set, remove}
use Rattle.std.specs.declared.cmp.Ordering.{Ordering}
use Rattle.std.proofs.lemmas.Grind.{common_steps}
use Rattle.std.proofs.lemmas.Bool.Decides.{nat_tests}
use Rattle.std.proofs.lemmas.List.{drop_more}
use Rattle.bac_slots.specs.declared.slot.Slot.{Slot}
use Rattle.bac_slots.specs.Slots.{value_at, with_value, without, rank, of_rank, IsApart, IsDistinct, IsAt}

-- ---- a key that is absent

pub with_value-none : {K T : Type 0} (eq : K → K → Bool) (key : K) (v : T) (slots : List (Slot K T)) → value_at eq key slots ≡ None
    → with_value eq key v slots ≡ slots
with_value-none eq key v [] e = refl
with_value-none eq key v (s ∷ slots) e = grind (arith, common_steps, with_value-none eq key v slots)

pub without-none : {K T : Type 0} (eq : K → K → Bool) (key : K) (slots : List (Slot K T)) → value_at eq key slots ≡ None → without eq key slots ≡ slots
without-none eq key [] e = refl
without-none eq key (s ∷ slots) e = grind (arith, common_steps, without-none eq key slots)

-- ---- a key's place in order of putting

pub value_at-IsAt : {K T : Type 0} (eq : K → K → Bool) (key : K) (n : ℕ) (slots : List (Slot K T)) (d : Slot K T) → IsAt eq key n slots
    → value_at eq key slots ≡ Some (get_or slots n d).value
value_at-IsAt eq key n [] d at = absurd at
value_at-IsAt eq key zero (s ∷ slots) d at = rw at refl
value_at-IsAt eq key (suc n) (s ∷ slots) d at = rw at.0 (value_at-IsAt eq key n slots d at.1)

with_value-IsAt : {K T : Type 0} (eq : K → K → Bool) (key : K) (v : T) (n : ℕ) (slots : List (Slot K T)) (d : Slot K T) → IsAt eq key n slots
    → with_value eq key v slots ≡ slice_set slots n (record (get_or slots n d) { value = v })
with_value-IsAt eq key v n [] d at = absurd at
with_value-IsAt eq key v zero (s ∷ slots) d at = rw at refl
with_value-IsAt eq key v (suc n) (s ∷ slots) d at = rw at.0 (ap (λ l. s ∷ l) (with_value-IsAt eq key v n slots d at.1))

pub without-IsAt : {K T : Type 0} (eq : K → K → Bool) (key : K) (n : ℕ) (slots : List (Slot K T)) → IsAt eq key n slots → without eq key slots ≡ remove slots n
without-IsAt eq key n [] at = absurd at
without-IsAt eq key zero (s ∷ slots) at = rw at refl
without-IsAt eq key (suc n) (s ∷ slots) at = rw at.0 (ap (λ l. s ∷ l) (without-IsAt eq key n slots at.1))

-- the slot there, rebuilt with another value
pub set_is : {K T : Type 0} (eq : K → K → Bool) (key : K) (v w : T) (n : ℕ) (slots : List (Slot K T)) (d : Slot K T) → IsAt eq key n slots
    → d ≡ get_or slots n d → w ≡ v → slice_set slots n (record d { value = w }) ≡ with_value eq key v slots
set_is eq key v w n slots d at is same =
    ap (λ x. slice_set slots n (record d { value = x })) same ∙ ap (λ x. slice_set slots n (record x { value = v })) is
    ∙ sym (with_value-IsAt eq key v n slots d at)

IsAt-prefix : {K T : Type 0} (eq : K → K → Bool) (key : K) (slots : List (Slot K T)) → prefix_len (λ s. not (eq s.key key)) slots < length slots
    → IsAt eq key (prefix_len (λ s. not (eq s.key key)) slots) slots
IsAt-prefix eq key [] lt = absurd (omega arith)
IsAt-prefix eq key (s ∷ slots) lt =
    (elim (eq s.key key) as (λ b. eq s.key key ≡ b → IsAt eq key (prefix_len (λ s. not (eq s.key key)) (s ∷ slots)) (s ∷ slots)) [
      | true ↦ λ k. rw k k
      | false ↦ λ k.
          let m = rw k at lt in
          let e : 1 + prefix_len (λ x. not (eq x.key key)) slots ≡ suc (prefix_len (λ x. not (eq x.key key)) slots) = omega arith in
          rw (k, e) (k, IsAt-prefix eq key slots (omega arith))
    ]) refl

value_at-prefix : {K T : Type 0} (eq : K → K → Bool) (key : K) (slots : List (Slot K T)) → length slots ≤ prefix_len (λ s. not (eq s.key key)) slots
    → value_at eq key slots ≡ None
value_at-prefix eq key [] le = refl
value_at-prefix eq key (s ∷ slots) le =
    (elim (eq s.key key) as (λ b. eq s.key key ≡ b → value_at eq key (s ∷ slots) ≡ None) [
      | true ↦ λ k. let m = rw k at le in absurd (omega arith)
      | false ↦ λ k. let m = rw k at le in rw k (value_at-prefix eq key slots (omega arith))
    ]) refl

pub place_of : {K T : Type 0} (eq : K → K → Bool) (key : K) (slots : List (Slot K T)) (o : Option ℕ) → o ≡ position (λ s. eq s.key key) slots
    → MatchOption o (value_at eq key slots ≡ None) (λ n. (n < length slots) × IsAt eq key n slots)
place_of {K} {T} eq key slots o e =
    let len : ℕ = prefix_len (λ s. not (eq s.key key)) slots in
    let P : Option ℕ → Type 0 = λ x. MatchOption x (value_at eq key slots ≡ None) (λ n. (n < length slots) × IsAt eq key n slots) in
    subst P (sym e) ((elim (nat_lt len (length slots)) as (λ b. nat_lt len (length slots) ≡ b → P (cond b (Some len) None)) [
      | true ↦ λ k. let lt : len < length slots = grind (arith, nat_tests) in (lt, IsAt-prefix eq key slots lt)
      | false ↦ λ k. value_at-prefix eq key slots (grind (arith, nat_tests))
    ]) refl)

-- a key that is present has a value
pub value_at-some : {K T : Type 0} (eq : K → K → Bool) (key : K) (n : ℕ) (slots : List (Slot K T)) → IsAt eq key n slots → value_at eq key slots ≡ None → ⊥
value_at-some eq key n [] at e = at
value_at-some eq key zero (s ∷ slots) at e = let some = rw at at e in cc
value_at-some eq key (suc n) (s ∷ slots) at e = value_at-some eq key n slots at.1 (rw at.0 at e)

-- ---- the keys stay distinct

IsApart-with_value : {K T : Type 0} (eq : K → K → Bool) (k key : K) (v : T) (slots : List (Slot K T)) → IsApart eq k slots
    → IsApart eq k (with_value eq key v slots)
IsApart-with_value eq k key v [] a = a
IsApart-with_value eq k key v (s ∷ slots) a =
    elim (eq s.key key) as (λ b. IsApart eq k (if b then record s { value = v } ∷ slots else s ∷ with_value eq key v slots))
    [ true ↦ a | false ↦ (a.0, IsApart-with_value eq k key v slots a.1) ]

pub IsDistinct-with_value : {K T : Type 0} (eq : K → K → Bool) (key : K) (v : T) (slots : List (Slot K T)) → IsDistinct eq slots
    → IsDistinct eq (with_value eq key v slots)
IsDistinct-with_value eq key v [] d = d
IsDistinct-with_value eq key v (s ∷ slots) d =
    elim (eq s.key key) as (λ b. IsDistinct eq (if b then record s { value = v } ∷ slots else s ∷ with_value eq key v slots))
    [ true ↦ d | false ↦ (IsApart-with_value eq s.key key v slots d.0, IsDistinct-with_value eq key v slots d.1) ]

IsApart-without : {K T : Type 0} (eq : K → K → Bool) (k key : K) (slots : List (Slot K T)) → IsApart eq k slots → IsApart eq k (without eq key slots)
IsApart-without eq k key [] a = a
IsApart-without eq k key (s ∷ slots) a = elim (eq s.key key) as (λ b. IsApart eq k (if b then slots else s ∷ without eq key slots))
    [ true ↦ a.1 | false ↦ (a.0, IsApart-without eq k key slots a.1) ]

pub IsDistinct-without : {K T : Type 0} (eq : K → K → Bool) (key : K) (slots : List (Slot K T)) → IsDistinct eq slots → IsDistinct eq (without eq key slots)
IsDistinct-without eq key [] d = d
IsDistinct-without eq key (s ∷ slots) d =
    elim (eq s.key key) as (λ b. IsDistinct eq (if b then slots else s ∷ without eq key slots))
    [ true ↦ d.1 | false ↦ (IsApart-without eq s.key key slots d.0, IsDistinct-without eq key slots d.1) ]

IsApart-push : {K T : Type 0} (eq : K → K → Bool) (k : K) (slots : List (Slot K T)) (x : Slot K T) → IsApart eq k slots → eq k x.key ≡ false
    → IsApart eq k (slots ++ x ∷ [])
IsApart-push eq k [] x a e = (e, tt)
IsApart-push eq k (s ∷ slots) x a e = (a.0, IsApart-push eq k slots x a.1 e)

pub IsDistinct-push : {K T : Type 0} (eq : K → K → Bool) (slots : List (Slot K T)) (x : Slot K T) → IsDistinct eq slots → value_at eq x.key slots ≡ None
    → IsDistinct eq (slots ++ x ∷ [])
IsDistinct-push eq [] x d e = (tt, tt)
IsDistinct-push eq (s ∷ slots) x d e =
    (elim (eq s.key x.key) as (λ b. eq s.key x.key ≡ b → (if b then Some s.value else value_at eq x.key slots) ≡ None → IsDistinct eq (s ∷ (slots ++ x ∷ []))) [
      | true ↦ λ k v. absurd (cc)
      | false ↦ λ k v. (IsApart-push eq s.key slots x d.0 k, IsDistinct-push eq slots x d.1 v)
    ]) refl e

-- ---- key order

nat_eq-refl : (n : ℕ) → nat_eq n n ≡ true
nat_eq-refl n = grind (arith, nat_tests)

-- the visit has come to the slot whose place is n
pub of_rank-here : {K T : Type 0} (cmp : K → K → Ordering) (n i : ℕ) (all xs : List (Slot K T)) (s : Slot K T) → xs ≡ all → i < length xs
    → s ≡ get_or xs i s → rank cmp s.key all ≡ n → of_rank cmp n all all ≡ of_rank cmp n all (drop i all) → of_rank cmp n all all ≡ Some s
of_rank-here cmp n i all xs s same lt is here walked =
    let rest : drop i all ≡ s ∷ drop (i + 1) xs = ap (λ y. drop i y) (sym same) ∙ drop_more xs i s lt ∙ ap (λ y. y ∷ drop (i + 1) xs) (sym is) in
    let found : nat_eq (rank cmp s.key all) n ≡ true = ap (λ k. nat_eq k n) here ∙ nat_eq-refl n in
    walked ∙ ap (λ y. of_rank cmp n all y) rest ∙ rw found refl
