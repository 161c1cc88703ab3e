-- The first n pieces are the same.
use Rattle.std.proofs.Common.{◌≡◌, ℕ, ◌<◌, length}
use Rattle.bac_segment.specs.Pieces.{piece_at}
use Rattle.bac_requester.proofs.comparing.same_pieces.Given as goal

abbrev pub invariant-loop-n : goal.invariant-loop-n
invariant-loop-n l =
    record {
      same : (k : ℕ) → k < l.n → piece_at l.one.pieces k ≡ piece_at l.other.pieces k;
      count : length l.one.pieces ≡ length l.other.pieces;
      ends : l.n-end ≡ length l.one.pieces;
    }
