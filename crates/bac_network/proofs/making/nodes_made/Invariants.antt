-- The nodes so far, and those that are left can be made.
use Rattle.std.proofs.Common.{◌≡◌, ◌++◌, length}
use Rattle.std.specs.Vec.Iter.{into_iter_items, into_iter_len}
use Rattle.bac_journal.specs.Entering.{Every}
use Rattle.bac_network.specs.Fresh.{nodes_of, IsGood}
use Rattle.bac_network.proofs.making.nodes_made.Given as goal

abbrev pub invariant-loop-config : goal.invariant-loop-config
invariant-loop-config l =
    record {
      all : l.yielded ++ into_iter_items l.config-iterator ≡ into_iter_items l.initial.config-iterator;
      left : into_iter_len l.config-iterator ≡ length (into_iter_items l.config-iterator);
      good : Every IsGood (into_iter_items l.config-iterator);
      nodes : l.nodes.items ≡ nodes_of l.yielded;
    }
