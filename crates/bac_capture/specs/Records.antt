-- pcap files in network byte order.
use Rattle.std.specs.Prelude.{ℕ, ◌+◌, ◌*◌, ◌/◌, ◌%◌, List, [], ◌∷◌, ◌++◌, length}
use Rattle.std.specs.Int.{w32, to_be_bytes}
use Rattle.bac_capture.specs.PacketsWritten.{packet}

-- timestamps in microseconds, version 2.4, UTC, at most 65,535 octets of a packet, and raw IP packets (link type 101)
abbrev pub file_head : List ℕ
file_head =
    0xA1 ∷ 0xB2 ∷ 0xC3 ∷ 0xD4 ∷ 0 ∷ 2 ∷ 0 ∷ 4 ∷ 0 ∷ 0 ∷ 0 ∷ 0 ∷ 0 ∷ 0 ∷ 0 ∷ 0 ∷ 0 ∷ 0 ∷ 0xFF ∷ 0xFF ∷ 0 ∷ 0 ∷ 0 ∷ 101 ∷ []

-- the timestamp, in milliseconds, as seconds and microseconds, and how many octets were captured and sent
abbrev pub record_head : (moment len : ℕ) → List ℕ
record_head moment len =
    to_be_bytes w32 (moment / 1000 % 4294967296) ++ (to_be_bytes w32 (moment % 1000 * 1000) ++ (to_be_bytes w32 len ++ to_be_bytes w32 len))

abbrev pub record_octets : (moment from to : ℕ) → (octets : List ℕ) → List ℕ
record_octets moment from to octets = record_head moment (length octets + 28) ++ packet from to octets
