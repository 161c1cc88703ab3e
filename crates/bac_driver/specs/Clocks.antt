-- What the machine's clock read for a clock of ours, and the moments that it gave by that.
use Rattle.std.specs.Prelude.{ℕ, None, min, ◌-◌, ◌/◌, ◌^◌}
use Rattle.std.specs.Time.{instant_nanos}
use Rattle.bac_driver.specs.Moments.{Told}
use Rattle.bac_driver.specs.declared.clock.MonotonicClock.{MonotonicClock}

-- what the machine's clock read when it was made, in nanoseconds
abbrev pub made_at : {R : Type 0} → MonotonicClock R → ℕ
made_at clock = instant_nanos clock.start

-- the latest that it has read since
abbrev pub read_at : {R : Type 0} → MonotonicClock R → ℕ
read_at clock = instant_nanos clock.latest

-- of nanoseconds, in 64 bits
abbrev pub whole_millis : ℕ → ℕ
whole_millis nanos = min (nanos / 1_000_000) (2 ^ 64 - 1)

-- the latest moment, 0 before the first: the whole milliseconds between both readings
abbrev pub latest_told : {R : Type 0} → MonotonicClock R → ℕ
latest_told clock = whole_millis (read_at clock - made_at clock)

-- it keeps no earlier ones
abbrev pub told_by : {R : Type 0} → MonotonicClock R → Told
told_by clock = record { last = latest_told clock; all = None }
