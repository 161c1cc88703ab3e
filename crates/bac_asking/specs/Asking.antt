-- How a node is to ask.
use Rattle.std.specs.Prelude.{ℕ, ◌+◌, min, Option}
use Rattle.std.specs.Option.{option_map}
use Rattle.bac_driver.specs.Waits.{MOST}
use Rattle.bac_driver.specs.declared.wait_limit.WaitLimit.{WaitLimit}

-- the moment after so many milliseconds, where there is one
abbrev pub until_in : (milliseconds : Option ℕ) → (start : ℕ) → Option ℕ
until_in milliseconds start = option_map (λ (m : ℕ). min (start + m) MOST) milliseconds

-- its turns wait until something is due, but not beyond that moment, where there is one
abbrev pub patience_for : (timeout : Option ℕ) → (start : ℕ) → WaitLimit
patience_for timeout start = record { wait = MOST; until = until_in timeout start }
