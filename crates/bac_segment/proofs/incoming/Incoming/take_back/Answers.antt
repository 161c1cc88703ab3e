-- The counts without the last segment, whose octets are removed.
use Rattle.std.proofs.Common.{refl}
use Rattle.bac_value.specs.Octets.{joined}
use Rattle.bac_segment.proofs.Joined.{CountsOctets-pop, split-pop}
use Rattle.bac_segment.proofs.Same.{same_incoming}
use Rattle.bac_segment.proofs.incoming.Incoming.take_back.Goals as goal

pub invariant_of-self-2 : goal.invariant_of-self-2
invariant_of-self-2 c =
    let few = rw (← c.self.view_is) at c.requires in
    CountsOctets-pop c.self.inside.lengths.items (joined c.self.inside.chunks.items) c.pop.new.self.items (joined c.cut_back.new.chunks.items)
    c.in-Some.length _ _ _ c.self.invariant c.in-Some.ensures.items c.cut_back.ensures few

pub returns : goal.returns
returns c =
    rw (← c.self.view_is) (same_incoming _ _
    (split-pop c.self.inside.lengths.items (joined c.self.inside.chunks.items) c.pop.new.self.items (joined c.cut_back.new.chunks.items)
    c.in-Some.length c.in-Some.ensures.items c.cut_back.ensures c.self.invariant.whole) refl refl)
