-- Until when a node takes turns, and how many.
use Rattle.std.specs.Prelude.{ℕ, ◌+◌, ◌*◌, min, Option, Some, None}
use Rattle.std.specs.Option.{option_map}
use Rattle.bac_driver.specs.Waits.{MOST}

-- the moment after so many seconds, where there is one
abbrev pub until_of : (seconds : Option ℕ) → (start : ℕ) → Option ℕ
until_of seconds start = option_map (λ (s : ℕ). min (start + min (s * 1000) MOST) MOST) seconds

-- as many as there can be where nothing is said
abbrev pub turns_of : (turns : Option ℕ) → ℕ
turns_of None = MOST
turns_of (Some turns) = turns
