-- Pieces are numbered with whole numbers; on the wire each is taken modulo 256 (clauses 20.1.2.7 and 20.1.6.4).
use Rattle.std.specs.Prelude.{ℕ, ◌+◌, ◌-◌, ◌%◌, ◌<◌, ◌≤◌}

-- how far a sequence number on the wire is ahead of the whole number a, modulo 256
abbrev pub ahead : ℕ → ℕ → ℕ
ahead number a = (number + (256 - a % 256)) % 256

-- p is one of the whole numbers from a - 1 - W - V to a + W - 1. With windows of at most W pieces, and copies
-- that at most V later ones overtake, only these can arrive at an end whose next piece is a.
pub record IsInReach (V W a p : ℕ) : Type 0 where
  pub above : a ≤ p + 1 + W + V
  pub below : p < a + W
