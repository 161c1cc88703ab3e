-- Whole milliseconds between two readings of a clock.
use Rattle.std.proofs.Common.{◌≡◌, ℕ, ◌-◌, ◌*◌, ◌/◌, ◌≤◌, refl, arith, le_trans, div-mul-le_self, le-div_iff_mul-le}
use Rattle.bac_driver.specs.Clocks.{whole_millis}

-- none between a reading and itself
pub starts_at_zero : (reading : ℕ) → whole_millis (reading - reading) ≡ 0
starts_at_zero reading = let none : reading - reading ≡ 0 = omega arith in rw none refl

-- no fewer up to a later one
pub goes_on : (made read later : ℕ) → read ≤ later → whole_millis (read - made) ≤ whole_millis (later - made)
goes_on made read later after =
    let fewer : read - made ≤ later - made = omega arith in
    let whole : (read - made) / 1_000_000 * 1_000_000 ≤ read - made = div-mul-le_self (read - made) 1_000_000 in
    let less : (read - made) / 1_000_000 ≤ (later - made) / 1_000_000 = (le-div_iff_mul-le (omega arith)).1 (le_trans whole fewer) in
    omega arith
