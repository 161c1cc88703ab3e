-- Removing the last segment that was taken.
use Rattle.std.proofs.Common.{◌≡◌, ℕ, ◌+◌, ◌-◌, Bool, true, false, Ok, List, [], ◌∷◌, ◌++◌, length, take, refl, sym, ap, subst, ◌∙◌, arith}
use Rattle.std.proofs.lemmas.List.{length_push, take_at}
use Rattle.bac_segment.specs.Answers.{IsKept, Takes}
use Rattle.bac_segment.specs.Laws.{IsUndone}
use Rattle.bac_segment.specs.Window.{Incoming, taken_back}
use Rattle.bac_segment.specs.declared.incoming.Step.{Step}
use Rattle.bac_segment.specs.declared.incoming.Step.TheVariants as step
use Rattle.bac_segment.proofs.Reach.{branches, branches_are}
use Rattle.bac_segment.proofs.Same.{same_incoming}

front_of_push : (parts : List (List ℕ)) (octets : List ℕ) → take (length (parts ++ octets ∷ []) - 1) (parts ++ octets ∷ []) ≡ parts
front_of_push parts octets =
    let count = length_push parts octets in
    take_at parts (octets ∷ []) _ (omega (arith, count))

pushed_back : (before after : Incoming) (octets : List ℕ) → before.parts ++ octets ∷ [] ≡ after.parts → after.window ≡ before.window
    → taken_back before.unacknowledged after ≡ before
pushed_back before after octets parts window =
    same_incoming _ before (ap (λ l. take (length l - 1) l) (sym parts) ∙ front_of_push before.parts octets) refl window

by_branch : (before after : Incoming) (octets : List ℕ) (expected long more ack : Bool) (s : Step)
    → IsKept (branches before octets expected long more ack) → Takes (branches before octets expected long more ack) before (Ok s) after
    → taken_back before.unacknowledged after ≡ before
unfolding branches
by_branch before after octets false long more ack s kept took = absurd kept
by_branch before after octets true true more ack s kept took = absurd kept
by_branch before after octets true false false ack step.Whole kept took =
    let whole = took.0 in
    let parts : before.parts ++ octets ∷ [] ≡ after.parts = cc in
    pushed_back before after octets parts (ap (λ (i : Incoming). i.window) took.1)
by_branch before after octets true false false ack (step.Taken a) kept took = absurd cc
by_branch before after octets true false false ack step.Nak kept took = absurd cc
by_branch before after octets true false true true (step.Taken a) kept took =
    let is : record before { parts = before.parts ++ octets ∷ []; unacknowledged = 0 } ≡ after = cc in
    pushed_back before after octets (ap (λ (i : Incoming). i.parts) is) (sym (ap (λ (i : Incoming). i.window) is))
by_branch before after octets true false true true step.Whole kept took = let wrong = took.0 in absurd cc
by_branch before after octets true false true true step.Nak kept took = absurd cc
by_branch before after octets true false true false (step.Taken a) kept took =
    let is : record before { parts = before.parts ++ octets ∷ []; unacknowledged = before.unacknowledged + 1 } ≡ after = cc in
    pushed_back before after octets (ap (λ (i : Incoming). i.parts) is) (sym (ap (λ (i : Incoming). i.window) is))
by_branch before after octets true false true false step.Whole kept took = let wrong = took.0 in absurd cc
by_branch before after octets true false true false step.Nak kept took = absurd cc

pub is_undone : IsUndone
is_undone before number more octets s after kept took =
    let is = branches_are before number octets _ _ more _ refl refl refl in
    by_branch before after octets _ _ more _ s (subst IsKept is kept) (subst (λ does. Takes does before (Ok s) after) is took)
