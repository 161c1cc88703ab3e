-- Equal parts have equal lengths and equal octets.
use Rattle.std.proofs.Common.{refl, sym, ap, ◌∙◌}
use Rattle.bac_value.specs.Octets.{joined}
use Rattle.bac_segment.specs.Pieces.{join}
use Rattle.bac_segment.specs.Window.{Incoming}
use Rattle.bac_segment.proofs.Same.{parts_are_same, parts_from_same, lengths_differ, same_incoming}
use Rattle.bac_segment.proofs.incoming.Incoming.same.Goals as goal

pub returns-then-ne : goal.returns-then-ne
returns-then-ne c =
    let decides = lengths_differ c.self.inside.lengths.items c.other.inside.lengths.items _ c.if-ne.ensures in
    rw (← c.self.view_is, ← c.other.view_is) (
      λ never. cc,
      λ same. decides.1 (parts_are_same _ _ _ _ c.self.invariant.whole c.other.invariant.whole (ap (λ (i : Incoming). i.parts) same)).0,
    )

pub returns : goal.returns
returns c =
    let decides = lengths_differ c.self.inside.lengths.items c.other.inside.lengths.items _ c.if-ne.ensures in
    let ours = rw (← c.self.view_is) at c.parts.ensures.joined in
    let theirs = rw (← c.other.view_is) at c.parts-2.ensures.joined in
    rw (← c.self.view_is, ← c.other.view_is) (
      λ alike. same_incoming _ _ (parts_from_same _ _ (joined c.self.inside.chunks.items) (joined c.other.inside.chunks.items)
          c.self.invariant.whole c.other.invariant.whole (decides.0 refl) (sym ours ∙ c.same_octets.ensures.0 alike ∙ theirs))
          c.if-self-other.false c.if-self-other-2.false,
      λ same. c.same_octets.ensures.1 (ours ∙ ap (λ (i : Incoming). join i.parts) same ∙ sym theirs),
    )
