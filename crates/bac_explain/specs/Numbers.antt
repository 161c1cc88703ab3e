-- Counts, and sequence numbers of segments, which are taken modulo 256 (clause 20.1.2.7).
use Rattle.std.specs.Prelude.{ℕ, ◌+◌, ◌-◌, ◌%◌, ◌^◌, Bool, nat_le, nat_lt, ◌==◌, ◌&&◌, min}

-- counts saturate
abbrev pub one_more : ℕ → ℕ
one_more count = min (count + 1) (2 ^ 64 - 1)

abbrev pub more_by : ℕ → ℕ → ℕ
more_by more count = min (count + more) (2 ^ 64 - 1)

-- how far a number is ahead of another
abbrev pub ahead : ℕ → ℕ → ℕ
ahead last number = (number + 256 - last) % 256

-- half of all numbers are behind
abbrev pub is_ahead : ℕ → ℕ → Bool
is_ahead last number = nat_lt 0 (ahead last number) && nat_lt (ahead last number) 128

abbrev pub is_behind : ℕ → ℕ → Bool
is_behind last number = nat_le 128 (ahead last number)

-- the next number
abbrev pub following : ℕ → ℕ → Bool
following last number = ((last + 1) % 256) == number
