-- Counts of failures and lists of calls, one send after the other.
use Rattle.std.proofs.Common.{◌≡◌, ℕ, zero, suc, ◌+◌, ◌≤◌, ◌<◌, min, nat_le, Bool, true, false, List, [], ◌∷◌, ◌++◌, map, take, length, get_or, Some, None}
use Rattle.std.proofs.Common.{refl, ap, sym, ◌∙◌, arith, append_assoc, add-zero, add-suc}
use Rattle.std.proofs.lemmas.Bool.Decides.{nat_tests}
use Rattle.std.proofs.lemmas.List.{take_more, map-append}
use Rattle.std.proofs.lemmas.Grind.{common_steps}
use Rattle.bac_driver.specs.Calls.{Call, Calls, MOST, one_more, with_call}
use Rattle.bac_driver.specs.Turns.{counted, with_calls}

pub counted_more : (failures a b : ℕ) → counted (counted failures a) b ≡ counted failures (a + b)
counted_more failures a zero = rw (add-zero a) refl
counted_more failures a (suc b) = rw (add-suc a b) (ap one_more (counted_more failures a b))

-- more failures after so many
pub counted_next : (failures lost more before now : ℕ) → before ≡ counted failures lost → now ≡ counted before more → now ≡ counted failures (lost + more)
counted_next failures lost more before now first second = second ∙ ap (λ f. counted f more) first ∙ counted_more failures lost more

counted_some : (failures n : ℕ) → counted failures (suc n) ≡ min (failures + suc n) MOST
counted_some failures zero = omega arith
counted_some failures (suc n) = let ih : counted failures (suc n) ≡ min (failures + suc n) MOST = counted_some failures n in omega arith

counted_full : (failures n : ℕ) → MOST ≤ n → counted failures n ≡ MOST
counted_full failures zero full = absurd (omega arith)
counted_full failures (suc n) full = let is : counted failures (suc n) ≡ min (failures + suc n) MOST = counted_some failures n in omega arith

-- a sum that stays at its last value
counted_up_to : (failures n : ℕ) → counted failures n ≡ counted failures (min n MOST)
counted_up_to failures n = go (nat_le n MOST) refl where
  go : (small : Bool) → nat_le n MOST ≡ small → counted failures n ≡ counted failures (min n MOST)
  go true test = let same : min n MOST ≡ n = grind (arith, nat_tests, test) in rw same refl
  go false test =
      let same : min n MOST ≡ MOST = grind (arith, nat_tests, test) in
      let over : MOST ≤ n = grind (arith, nat_tests, test) in
      rw same (counted_full failures n over ∙ sym (counted_full failures MOST (omega arith)))

-- two counts, and their sum, which stays at its last value
pub counted_both : (failures a b sum middle last : ℕ) → middle ≡ counted failures a → last ≡ counted middle b
    → sum ≡ min (a + b) MOST → last ≡ counted failures sum
counted_both failures a b sum middle last first second is =
    counted_next failures a b middle last first second ∙ counted_up_to failures (a + b) ∙ ap (counted failures) (sym is)

pub with_more : (calls : Calls) (some more : List Call) → with_calls (with_calls calls some) more ≡ with_calls calls (some ++ more)
with_more None some more = refl
with_more (Some cs) some more = ap Some (append_assoc cs some more)

pub with_none : (calls : Calls) → with_calls calls [] ≡ calls
with_none None = refl
with_none (Some cs) = grind (arith, common_steps)

-- one more call than those of so many of a list
pub with_next : {A : Type 0} (call : A → Call) (calls now new : Calls) (sends : List A) (i : ℕ) (send : A)
    → i < length sends → send ≡ get_or sends i send → now ≡ with_calls calls (map call (take i sends)) → new ≡ with_call now (call send)
    → new ≡ with_calls calls (map call (take (i + 1) sends))
with_next call calls now new sends i send within is before after =
    after
    ∙ ap (λ cs. with_call cs (call send)) before
    ∙ with_more calls (map call (take i sends)) (call send ∷ [])
    ∙ ap (with_calls calls) (sym (ap (map call) front ∙ map-append call (take i sends) (send ∷ []))) where
      front : take (i + 1) sends ≡ take i sends ++ send ∷ []
      front = take_more sends i send within ∙ ap (λ x. take i sends ++ x ∷ []) (sym is)
