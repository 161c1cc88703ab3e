-- Sequence numbers modulo 256, relative to a window.
use Rattle.std.proofs.Common.{◌≡◌, ◌≢◌, ℕ, ◌+◌, ◌-◌, ◌*◌, ◌%◌, ◌<◌, ◌≤◌, min, Bool, true, false, Option, Some, None}
use Rattle.std.proofs.Common.{List, [], ◌∷◌, ◌++◌, length, take, if◌then◌else◌, nat_lt, nat_le, refl, sym, ap, subst, ◌∙◌, arith}
use Rattle.std.proofs.lemmas.Bool.Decides.{nat_tests}
use Rattle.std.proofs.lemmas.List.{take_more, length_push}
use Rattle.bac_segment.specs.Laws.{AreDifferent, TakesOnlyExpected, KeepsFirst, AcknowledgesOnlyWindow, AcknowledgesWindow}
use Rattle.bac_segment.specs.Limits.{N_RETRY}
use Rattle.bac_segment.specs.Numbers.{ahead, IsInReach}
use Rattle.bac_segment.specs.Pieces.{piece_at}
use Rattle.bac_segment.specs.Window.{Outgoing, in_window, acknowledged, Incoming, Taking, takes, parts_after, AreFirst}
use Rattle.bac_segment.specs.Window.{is_expected, is_too_long, is_acknowledged}

-- within the bound, all numbers that can arrive have different remainders
pub are_different : (V W a : ℕ) → V + 2 * W ≤ 255 → AreDifferent V W a
are_different V W a bound = λ p q left right same. omega (arith, left.above, left.below, right.above, right.below)

-- beyond the bound, the least of them and the number 256 above it have the same remainder
pub bound_is_needed : (V W a : ℕ) → 1 + W + V ≤ a → AreDifferent V W a → V + 2 * W ≤ 255
bound_is_needed V W a enough different = go (nat_le (V + 2 * W) 255) refl
  where
    least : ℕ
    least = a - (1 + W + V)

    go : (b : Bool) → nat_le (V + 2 * W) 255 ≡ b → V + 2 * W ≤ 255
    go true is = grind (arith, nat_tests)
    go false is =
        let beyond : 256 ≤ V + 2 * W = grind (arith, nat_tests) in
        let left : IsInReach V W a least = record { above = omega arith; below = omega arith } in
        let right : IsInReach V W a (least + 256) = record { above = omega arith; below = omega arith } in
        let alike : least % 256 ≡ (least + 256) % 256 = omega arith in
        let wrong : least ≡ least + 256 = different least (least + 256) left right alike in
        absurd (omega arith)

-- The receiver.

-- the piece that a receiver accepts as the next one is the next one
expected_is_next : (V W p : ℕ) (inc : Incoming) → 1 ≤ W → V + 2 * W ≤ 255 → IsInReach V W (length inc.parts) p
    → p % 256 ≡ length inc.parts % 256 → p ≡ length inc.parts
expected_is_next V W p inc some bound reach same =
    let itself : IsInReach V W (length inc.parts) (length inc.parts) = record { above = omega arith; below = omega arith } in
    are_different V W (length inc.parts) bound p (length inc.parts) reach itself same

pub takes_only_expected : (V W : ℕ) (inc : Incoming) → 1 ≤ W → V + 2 * W ≤ 255 → TakesOnlyExpected V W inc
takes_only_expected V W inc some bound = λ p more octets reach other. refused p more octets reach other
  where
    refused : (p : ℕ) (more : Bool) (octets : List ℕ) → IsInReach V W (length inc.parts) p → p ≢ length inc.parts
        → takes inc (p % 256) more octets ≡ Taking.Nak (record inc { unacknowledged = 0 })
    refused p more octets reach other =
        let apart : p % 256 ≢ length inc.parts % 256 = λ same. other (expected_is_next V W p inc some bound reach same) in
        let is : is_expected inc (p % 256) ≡ false = grind (arith, nat_tests) in
        grind (arith, is)

-- the effect of a segment, by four tests
unfoldable pub branches : (inc : Incoming) (octets : List ℕ) (expected long more ack : Bool) → Taking
branches inc octets false long more ack = Taking.Nak (record inc { unacknowledged = 0 })
branches inc octets true true more ack = Taking.TooLong
branches inc octets true false false ack = Taking.Whole (inc.parts ++ octets ∷ [])
branches inc octets true false true true = Taking.Taken true (record inc { parts = inc.parts ++ octets ∷ []; unacknowledged = 0 })
branches inc octets true false true false =
    Taking.Taken false (record inc { parts = inc.parts ++ octets ∷ []; unacknowledged = inc.unacknowledged + 1 })

pub branches_are : (inc : Incoming) (number : ℕ) (octets : List ℕ) (expected long more ack : Bool) → is_expected inc number ≡ expected
    → is_too_long inc octets ≡ long → is_acknowledged inc ≡ ack → takes inc number more octets ≡ branches inc octets expected long more ack
unfolding branches
branches_are inc number octets false long more ack e l a = grind (arith, e)
branches_are inc number octets true true more ack e l a = grind (arith, e, l)
branches_are inc number octets true false false ack e l a = grind (arith, e, l)
branches_are inc number octets true false true true e l a = grind (arith, e, l, a)
branches_are inc number octets true false true false e l a = grind (arith, e, l, a)

first_by_branch : (pieces : List (List ℕ)) (inc : Incoming) (octets : List ℕ) (expected long more ack : Bool) → AreFirst pieces inc.parts
    → (expected ≡ true → AreFirst pieces (inc.parts ++ octets ∷ [])) → AreFirst pieces (parts_after inc (branches inc octets expected long more ack))
unfolding branches
first_by_branch pieces inc octets false long more ack first pushed = first
first_by_branch pieces inc octets true true more ack first pushed = first
first_by_branch pieces inc octets true false false ack first pushed = pushed refl
first_by_branch pieces inc octets true false true true first pushed = pushed refl
first_by_branch pieces inc octets true false true false first pushed = pushed refl

pub keeps_first : (V W : ℕ) (pieces : List (List ℕ)) (inc : Incoming) → 1 ≤ W → V + 2 * W ≤ 255 → KeepsFirst V W pieces inc
keeps_first V W pieces inc some bound = λ p more reach inside first.
    let octets = piece_at pieces p in
    let P : Taking → Type 0 = λ does. AreFirst pieces (parts_after inc does) in
    let is = branches_are inc (p % 256) octets _ _ more _ refl refl refl in
    subst P (sym is) (first_by_branch pieces inc octets _ _ more _ first (pushed p reach inside first))
  where
    pushed : (p : ℕ) → IsInReach V W (length inc.parts) p → p < length pieces → AreFirst pieces inc.parts
        → is_expected inc (p % 256) ≡ true → AreFirst pieces (inc.parts ++ piece_at pieces p ∷ [])
    pushed p reach inside first expected =
        let same : p % 256 ≡ length inc.parts % 256 = grind (arith, nat_tests) in
        let is = expected_is_next V W p inc some bound reach same in
        let within : length inc.parts < length pieces = omega arith in
        ap (λ front. front ++ piece_at pieces p ∷ []) first
        ∙ ap (λ n. take (length inc.parts) pieces ++ piece_at pieces n ∷ []) is
        ∙ sym (take_more pieces (length inc.parts) [] within)
        ∙ ap (λ n. take n pieces) (sym (length_push inc.parts (piece_at pieces p)))

-- The sender.

pub acknowledges_only_window : (V W own : ℕ) (out : Outgoing) → V + 2 * W ≤ 255 → out.window ≤ W → AcknowledgesOnlyWindow V W own out
acknowledges_only_window V W own out bound few = λ p window next reach is.
    go p window next reach (nat_lt (ahead (p % 256) out.first) (in_window out)) refl is
  where
    later : (p window : ℕ) → Outgoing
    later p window = record out { first = out.first + ahead (p % 256) out.first + 1; window = min window own; retries = N_RETRY }

    meant : (p : ℕ) → IsInReach V W out.first p → ahead (p % 256) out.first < in_window out
        → (out.first ≤ p) × (p < out.first + in_window out) × (out.first + ahead (p % 256) out.first + 1 ≡ p + 1)
    meant p reach within = omega (arith, reach.above, reach.below)

    go : (p window : ℕ) (next : Outgoing) → IsInReach V W out.first p → (b : Bool) → nat_lt (ahead (p % 256) out.first) (in_window out) ≡ b
        → (if b then Some (later p window) else None) ≡ Some next → (out.first ≤ p) × (p < out.first + in_window out) × (next.first ≡ p + 1)
    go p window next reach true test is =
        let within : ahead (p % 256) out.first < in_window out = grind (arith, nat_tests) in
        let is_next : later p window ≡ next = cc in
        let facts = meant p reach within in
        (facts.0, facts.1, sym (ap (λ (o : Outgoing). o.first) is_next) ∙ facts.2)
    go p window next reach false test is = cc

pub acknowledges_window : (own : ℕ) (out : Outgoing) → out.window ≤ 256 → AcknowledgesWindow own out
acknowledges_window own out few = λ p window after before. each p window after before
  where
    after_ack : (first window : ℕ) → Option Outgoing
    after_ack first window = Some (record out { first = first; window = min window own; retries = N_RETRY })

    each : (p window : ℕ) → out.first ≤ p → p < out.first + in_window out
        → acknowledged own out (p % 256) window ≡ after_ack (p + 1) window
    each p window after before =
        let is : ahead (p % 256) out.first ≡ p - out.first = omega arith in
        let within : nat_lt (ahead (p % 256) out.first) (in_window out) ≡ true = grind (arith, nat_tests) in
        ap (λ b. if b then after_ack (out.first + ahead (p % 256) out.first + 1) window else None) within
        ∙ ap (λ first. after_ack first window) (omega arith)
