-- So many pages are made.
use Rattle.std.proofs.Common.{◌≡◌, length}
use Rattle.bac_journal.specs.Journals.{AreEmpty}
use Rattle.bac_journal.proofs.journal.empty_pages.Given as goal

abbrev pub invariant-loop-node : goal.invariant-loop-node
invariant-loop-node l =
    record {
      many : length l.pages.items ≡ l._node;
      empty : AreEmpty l.pages.items;
    }
