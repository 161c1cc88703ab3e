-- So many rows are made.
use Rattle.std.proofs.Common.{◌≡◌, length}
use Rattle.bac_journal.specs.Journals.{AreFresh}
use Rattle.bac_journal.proofs.journal.fresh_rows.Given as goal

abbrev pub invariant-loop-node : goal.invariant-loop-node
invariant-loop-node l =
    record {
      many : length l.rows.items ≡ l._node;
      fresh : AreFresh l.nodes l.rows.items;
    }
