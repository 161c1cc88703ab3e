-- The octets, and the size if there are several pieces, determine the pieces.
use Rattle.std.proofs.Common.{◌≡◌, ◌<◌, ◌⊎◌, inl, inr, length, ap, sym, ◌∙◌, arith}
use Rattle.std.proofs.lemmas.Slice.Eq.{slice_eq-Decides}
use Rattle.std.proofs.lemmas.Bool.Decides.{Decides-eqb}
use Rattle.bac_segment.specs.Pieces.{pieces_of}
use Rattle.bac_segment.specs.Window.{Outgoing}
use Rattle.bac_segment.proofs.Same.{pieces_from_same, octets_from_same, size_from_same, same_outgoing, three_tests}
use Rattle.bac_segment.proofs.outgoing.Outgoing.same.Goals as goal
use Rattle.bac_segment.proofs.outgoing.Outgoing.same.Goals.{else-self-gt1-via-then-self-gt1+else-self-other-2, else-self-gt1-via-else-self-gt1}

pub returns-then-self-other-2 : goal.returns-then-self-other-2
returns-then-self-other-2 c =
    rw (← c.self.view_is, ← c.other.view_is) (
      λ never. cc,
      λ same. absurd (c.if-self-other-2.true
          (size_from_same c.self.inside.size c.other.inside.size _ _ c.self.invariant.some c.other.invariant.some
          (ap (λ (o : Outgoing). o.pieces) same) (omega (arith, c.self.invariant.counted)))),
    )

pub returns : goal.returns
returns c =
    let few : (length (pieces_of c.self.inside.size c.self.inside.octets.items) < 2) ⊎ (c.self.inside.size ≡ c.other.inside.size) =
    elim c.else-self-gt1.branch [
      | else-self-gt1-via-then-self-gt1+else-self-other-2 w ↦ inr w.if-self-other-2.false
      | else-self-gt1-via-else-self-gt1 w ↦ inl (omega (arith, c.self.invariant.counted))
    ] in
    let count = sym c.self.invariant.counted ∙ c.if-self-other.false ∙ c.other.invariant.counted in
    let at = three_tests _ _ _ _ _ _ c.if-ne.ensures in
    let decides = slice_eq-Decides Decides-eqb c.self.inside.octets.items c.other.inside.octets.items c.eq.result c.eq.ensures in
    rw (← c.self.view_is, ← c.other.view_is) (
      λ alike. same_outgoing _ _ (pieces_from_same _ _ _ _ c.self.invariant.some c.other.invariant.some (decides.0 alike) count few) at.0 at.1 at.2,
      λ same. decides.1 (octets_from_same c.self.inside.size c.other.inside.size _ _ c.self.invariant.some c.other.invariant.some
          (ap (λ (o : Outgoing). o.pieces) same)),
    )
