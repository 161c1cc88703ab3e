-- The octets that were taken are those in the vectors.
use Rattle.std.proofs.Common.{ap, sym, subst, ◌∙◌}
use Rattle.bac_value.specs.Octets.{IsBytes, joined}
use Rattle.bac_segment.proofs.Joined.{join-split}
use Rattle.bac_segment.proofs.incoming.Incoming.parts.Goals as goal

pub returns-clause-joined : goal.returns-clause-joined
returns-clause-joined c =
    rw (← c.self.view_is) (c.new-parts.ensures ∙ ap joined c.deref.ensures.value ∙ sym (join-split c.self.inside.lengths.items _ c.self.invariant.whole))

pub returns-clause-each : goal.returns-clause-each
returns-clause-each c =
    let is = c.new-parts.ensures ∙ ap joined c.deref.ensures.value ∙ sym (join-split c.self.inside.lengths.items _ c.self.invariant.whole) in
    rw (← c.self.view_is) (subst IsBytes is c.len-len.ensures.each)
