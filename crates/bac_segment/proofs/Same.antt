-- What decides that two sides are in the same state.
use Rattle.std.proofs.Common.{◌≡◌, ℕ, zero, suc, ◌*◌, ◌<◌, ◌≤◌, ◌⊎◌, inl, inr, Bool, true, false, not}
use Rattle.std.proofs.Common.{◌&&◌, eqb, List, [], ◌∷◌, length, map, Decides, refl, ap, sym, ◌∙◌, arith}
use Rattle.std.specs.List.{sum}
use Rattle.std.specs.Cmp.Lexicographic.{pointwise}
use Rattle.std.proofs.lemmas.Slice.Eq.{slice_eq-Decides}
use Rattle.std.proofs.lemmas.Bool.Decides.{Decides-eqb}
use Rattle.std.proofs.lemmas.List.{take_all}
use Rattle.std.proofs.lemmas.Bool.Decides.{nat_tests}
use Rattle.bac_segment.specs.Pieces.{join, count_of, cut, pieces_of, split}
use Rattle.bac_segment.specs.Window.{Outgoing, Incoming}
use Rattle.bac_segment.proofs.Joined.{join-split, lengths-split}
use Rattle.bac_segment.proofs.Cut.{length-pieces_of, length-le-count, join-pieces_of}
use Rattle.bac_segment.proofs.Unique.{pieces_are}

-- equal parts have equal lengths and equal octets
pub parts_are_same : (ours theirs octets other : List ℕ) → sum ours ≡ length octets → sum theirs ≡ length other
    → split ours octets ≡ split theirs other → (ours ≡ theirs) × (octets ≡ other)
parts_are_same ours theirs octets other whole all same = (
  sym (lengths-split ours octets whole) ∙ ap (map length) same ∙ lengths-split theirs other all,
  sym (join-split ours octets whole) ∙ ap join same ∙ join-split theirs other all,
)

pub parts_from_same : (ours theirs octets other : List ℕ) → sum ours ≡ length octets → sum theirs ≡ length other → ours ≡ theirs
    → join (split ours octets) ≡ join (split theirs other) → split ours octets ≡ split theirs other
parts_from_same ours theirs octets other whole all lengths same =
    ap (λ l. split l octets) lengths ∙ ap (split theirs) (sym (join-split ours octets whole) ∙ same ∙ join-split theirs other all)

-- what a test with `!=` means for numbers
pub lengths_differ : (ours theirs : List ℕ) (r : Bool) → r ≡ not (pointwise eqb ours theirs) → Decides (not r) (ours ≡ theirs)
lengths_differ ours theirs r is = slice_eq-Decides Decides-eqb ours theirs (not r) (ap not is ∙ not-not (pointwise eqb ours theirs))
  where
    not-not : (b : Bool) → not (not b) ≡ b
    not-not true = refl
    not-not false = refl

whole_front : (count size : ℕ) (octets : List ℕ) → count < 2 → length octets ≤ count * size
    → cut count size octets ≡ cut count (length octets) octets
whole_front zero size octets few enough = refl
whole_front (suc zero) size octets few enough =
    ap (λ l. l ∷ []) (take_all size octets (omega arith) ∙ sym (take_all (length octets) octets (omega arith)))
whole_front (suc (suc count)) size octets few enough = absurd (omega arith)

-- equal octets in as many pieces have equal pieces, if there is at most one or the size is the same
pub pieces_from_same : (s t : ℕ) (octets other : List ℕ) → 1 ≤ s → 1 ≤ t → octets ≡ other
    → length (pieces_of s octets) ≡ length (pieces_of t other) → (length (pieces_of s octets) < 2) ⊎ (s ≡ t) → pieces_of s octets ≡ pieces_of t other
pieces_from_same s t octets other ps pt same count (inl few) =
    let ours = length-pieces_of s octets in
    let theirs = length-pieces_of t other in
    let counts : count_of s octets ≡ count_of t other = sym ours ∙ count ∙ theirs in
    whole_front (count_of s octets) s octets (omega arith) (length-le-count s octets ps)
    ∙ ap (λ l. cut (count_of s octets) (length l) l) same ∙ ap (λ n. cut n (length other) other) counts
    ∙ sym (whole_front (count_of t other) t other (omega arith) (length-le-count t other pt))
pieces_from_same s t octets other ps pt same count (inr size) = ap (λ n. pieces_of n octets) size ∙ ap (pieces_of t) same

pub octets_from_same : (s t : ℕ) (octets other : List ℕ) → 1 ≤ s → 1 ≤ t → pieces_of s octets ≡ pieces_of t other → octets ≡ other
octets_from_same s t octets other ps pt same = sym (join-pieces_of s octets ps) ∙ ap join same ∙ join-pieces_of t other pt

pub size_from_same : (s t : ℕ) (octets other : List ℕ) → 1 ≤ s → 1 ≤ t → pieces_of s octets ≡ pieces_of t other
    → 2 ≤ length (pieces_of s octets) → s ≡ t
size_from_same s t octets other ps pt same many =
    let ours = (pieces_are s octets ps).full 0 (omega arith) in
    let count = ap length same in
    let theirs = (pieces_are t other pt).full 0 (omega arith) in
    cc

pub same_incoming : (x y : Incoming) → x.parts ≡ y.parts → x.unacknowledged ≡ y.unacknowledged → x.window ≡ y.window → x ≡ y
same_incoming x y parts fresh window = λ i. record { parts = parts i; unacknowledged = fresh i; window = window i }

pub same_outgoing : (x y : Outgoing) → x.pieces ≡ y.pieces → x.first ≡ y.first → x.window ≡ y.window → x.retries ≡ y.retries → x ≡ y
same_outgoing x y pieces first window retries = λ i. record { pieces = pieces i; first = first i; window = window i; retries = retries i }

pub three_tests : (a b x y p q : ℕ) → false ≡ not (eqb a b && (eqb x y && eqb p q)) → (a ≡ b) × (x ≡ y) × (p ≡ q)
three_tests a b x y p q none = (grind (arith, nat_tests), grind (arith, nat_tests), grind (arith, nat_tests))
