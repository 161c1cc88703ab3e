-- No node of these has the link.
use Rattle.std.proofs.Common.{◌≡◌, ◌≢◌, ◌<◌, ℕ, Some, length, slice_get}
use Rattle.bac_journal.proofs.copies.node_at.Given as goal

abbrev pub invariant-loop-n : goal.invariant-loop-n
invariant-loop-n l =
    record {
      ends : l.n-end ≡ length l.links;
      none : (k : ℕ) → k < l.n → slice_get l.links k ≢ Some l.link;
    }
