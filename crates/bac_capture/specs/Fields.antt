-- Reading header fields, on lists; numbers are in network byte order.
use Rattle.std.specs.Prelude.{ℕ, List, length, take, drop, Result, Ok, Err, nat_lt, if◌then◌else◌}
use Rattle.std.specs.Int.{w16, w32, from_be_bytes}
use Rattle.bac_capture.specs.declared.fault.PacketFault.{PacketFault}
use Rattle.bac_capture.specs.declared.fault.PacketFault.TheVariants.{Truncated}

-- this many octets, and the octets after them
unfoldable pub cut_at : ℕ → List ℕ → Result (List ℕ × List ℕ) PacketFault
cut_at count bytes = if nat_lt (length bytes) count then Err Truncated else Ok (take count bytes, drop count bytes)

-- a number of two octets
unfoldable pub word_at : List ℕ → Result (ℕ × List ℕ) PacketFault
word_at bytes = if nat_lt (length bytes) 2 then Err Truncated else Ok (from_be_bytes w16 (take 2 bytes), drop 2 bytes)

-- a number of four octets
unfoldable pub long_at : List ℕ → Result (ℕ × List ℕ) PacketFault
long_at bytes = if nat_lt (length bytes) 4 then Err Truncated else Ok (from_be_bytes w32 (take 4 bytes), drop 4 bytes)
