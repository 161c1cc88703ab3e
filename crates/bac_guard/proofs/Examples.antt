-- Worked examples of the definitions, checked by computing.
use Rattle.std.proofs.Common.{◌≡◌, ℕ, true, false, List, [], ◌∷◌, Some, None, codes, refl}
use Rattle.bac_guard.specs.Sources.{ANY, LOCAL, is_heard, block, holds}
use Rattle.bac_guard.specs.Texts.{bits_in, parts_of}
use Rattle.bac_guard.specs.Buckets.{Event, came_over, elapsed, full, sent_over, fresh}
use Rattle.bac_guard.specs.Buckets.Event.{Came, Goes}

-- the port of BACnet/IP, 47808
abbrev at : (a b c d : ℕ) → List ℕ
at a b c d = a ∷ b ∷ c ∷ d ∷ 186 ∷ 192 ∷ []

local_hosts : (is_heard LOCAL (at 127 0 0 1) ≡ true) × (is_heard LOCAL (at 10 255 255 255) ≡ true) × (is_heard LOCAL (at 172 16 0 1) ≡ true)
    × (is_heard LOCAL (at 172 31 255 254) ≡ true) × (is_heard LOCAL (at 192 168 1 7) ≡ true) × (is_heard LOCAL (at 100 64 0 1) ≡ true)
    × (is_heard LOCAL (at 100 127 255 254) ≡ true) × (is_heard LOCAL (at 169 254 1 1) ≡ true)
local_hosts = (refl, refl, refl, refl, refl, refl, refl, refl)

others : (is_heard LOCAL (at 8 8 8 8) ≡ false) × (is_heard LOCAL (at 11 0 0 0) ≡ false) × (is_heard LOCAL (at 172 15 255 255) ≡ false)
    × (is_heard LOCAL (at 172 32 0 0) ≡ false) × (is_heard LOCAL (at 192 169 0 1) ≡ false) × (is_heard LOCAL (at 100 63 255 255) ≡ false)
    × (is_heard LOCAL (at 100 128 0 0) ≡ false)
others = (refl, refl, refl, refl, refl, refl, refl)

never : (is_heard ANY (at 0 0 0 0) ≡ false) × (is_heard ANY (at 0 255 0 1) ≡ false) × (is_heard ANY (at 224 0 0 1) ≡ false)
    × (is_heard ANY (at 239 255 255 255) ≡ false) × (is_heard ANY (at 255 255 255 255) ≡ false)
    × (is_heard ANY (10 ∷ 0 ∷ 0 ∷ 1 ∷ 0 ∷ 0 ∷ []) ≡ false) × (is_heard ANY (at 8 8 8 8) ≡ true) × (is_heard ANY (at 240 0 0 1) ≡ true)
never = (refl, refl, refl, refl, refl, refl, refl, refl)

ends_of_a_block : (holds 3232235783 (block 3232235783 32) ≡ true) × (holds 3232235784 (block 3232235783 32) ≡ false)
    × (holds 3232235783 (block 3232235782 31) ≡ true) × (holds 3232235784 (block 3232235782 31) ≡ false) × (holds 4294967295 (block 0 0) ≡ true)
ends_of_a_block = (refl, refl, refl, refl, refl)

bits : (bits_in (codes "0") ≡ Some 0) × (bits_in (codes "8") ≡ Some 8) × (bits_in (codes "32") ≡ Some 32) × (bits_in (codes "33") ≡ None)
    × (bits_in (codes "08") ≡ None) × (bits_in (codes "+8") ≡ None) × (bits_in [] ≡ None) × (bits_in (codes "128") ≡ None)
bits = (refl, refl, refl, refl, refl, refl, refl, refl)

parts : (parts_of (codes "a,b") ≡ codes "a" ∷ codes "b" ∷ []) × (parts_of [] ≡ [] ∷ []) × (parts_of (codes "a,") ≡ codes "a" ∷ [] ∷ [])
parts = (refl, refl, refl)

-- a full bucket of 256 KiB is sent at once, and then nothing; a second later 128 KiB more
abbrev a_second : List Event
a_second = Goes 0 262144 ∷ Goes 0 1 ∷ Goes 1000 131072 ∷ Goes 1000 1 ∷ []

filled_at_the_rate : (sent_over 131072 a_second (fresh 131072 0) ≡ 393216) × (elapsed 0 a_second ≡ 1000)
filled_at_the_rate = (refl, refl)

-- of 1 MiB a second a full bucket has two
two_seconds : (sent_over 1048576 (Goes 0 2097152 ∷ Goes 0 1 ∷ []) (fresh 1048576 0) ≡ 2097152) × (full 1 ≡ 262144000)
two_seconds = (refl, refl)

-- three octets for each that came; a clock that goes back fills nothing
abbrev three_for_one : List Event
three_for_one = Goes 5 262144 ∷ Came 5 100 ∷ Goes 4 301 ∷ Goes 3 300 ∷ Goes 5 1 ∷ []

three_times : (sent_over 131072 three_for_one (fresh 131072 5) ≡ 262444) × (came_over three_for_one ≡ 100) × (elapsed 5 three_for_one ≡ 0)
three_times = (refl, refl, refl)
