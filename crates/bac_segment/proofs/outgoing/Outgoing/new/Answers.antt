-- There are as many pieces as were counted.
use Rattle.std.proofs.Common.{arith}
use Rattle.bac_segment.proofs.Cut.{length-pieces_of}
use Rattle.bac_segment.proofs.Unique.{pieces_are}
use Rattle.bac_segment.proofs.outgoing.Outgoing.new.Goals as goal

pub invariant_of-result-2 : goal.invariant_of-result-2
invariant_of-result-2 c = record {
  some = c.requires;
  counted = cc (length-pieces_of c.args.size c.args.octets.items);
  within = omega arith;
}

pub returns-clause-pieces : goal.returns-clause-pieces
returns-clause-pieces c = pieces_are c.args.size c.args.octets.items c.requires
