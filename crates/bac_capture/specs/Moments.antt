-- The timestamps of frames, in milliseconds.
use Rattle.std.specs.Prelude.{ℕ, zero, suc, ◌+◌, ◌*◌, ◌/◌, ◌^◌, nat_lt, ◌==◌, if◌then◌else◌, List, length, drop, slice_index, Option, Some, None}
use Rattle.bac_capture.specs.declared.moment.Resolution.{Resolution}
use Rattle.bac_capture.specs.declared.moment.Resolution.TheVariants.{Milliseconds, Microseconds, Nanoseconds}
use Rattle.bac_capture.specs.declared.order.Order.{Order}
use Rattle.bac_capture.specs.Orders.{number_of}

-- whole milliseconds
abbrev pub milliseconds_of : Resolution → ℕ → ℕ
milliseconds_of Milliseconds count = count
milliseconds_of Microseconds count = count / 1000
milliseconds_of Nanoseconds count = count / 1000000

-- a pcap record begins with seconds, and units in addition
abbrev pub record_moment : Option Resolution → Order → (head : List ℕ) → Option ℕ
record_moment None order head = None
record_moment (Some r) order head = Some (number_of order 4 head * 1000 + milliseconds_of r (number_of order 4 (drop 4 head)))

-- the body of a pcapng block begins with the upper and the lower half of a count of units
abbrev pub block_moment : Option Resolution → Order → (body : List ℕ) → Option ℕ
block_moment None order body = None
block_moment (Some r) order body = Some (milliseconds_of r (number_of order 4 body * 2 ^ 32 + number_of order 4 (drop 4 body)))

-- the unit that is 10 to the power of minus this exponent, in seconds; other units are not supported (own)
abbrev pub resolution_of : ℕ → Option Resolution
resolution_of exponent =
    if exponent == 3 then Some Milliseconds else
    (if exponent == 6 then Some Microseconds else
    (if exponent == 9 then Some Nanoseconds else None))

-- the length of an option with the numbers before it: its octets are padded to a multiple of four
abbrev pub option_len : ℕ → ℕ
option_len size = 4 + (size + 3) / 4 * 4

-- the exponent in the options of an interface, from the option with code 9; 6 if there is none among this many, or before the one
-- with code 0, which ends the options
unfoldable pub resolution_in : (count : ℕ) → Order → List ℕ → ℕ
resolution_in zero order options = 6
resolution_in (suc count) order options =
    if nat_lt (length options) 5 then 6 else
    (if number_of order 2 options == 0 then 6 else
    (if number_of order 2 options == 9 then slice_index options 4 else
    resolution_in count order (drop (option_len (number_of order 2 (drop 2 options))) options)))
