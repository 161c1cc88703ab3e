-- A datagram of BACnet/IP as a packet of IPv4 (RFC 791) and UDP (RFC 768).
use Rattle.std.specs.Prelude.{ℕ, ◌+◌, ◌/◌, ◌%◌, List, [], ◌∷◌, ◌++◌, length}
use Rattle.std.specs.Int.{w16, to_be_bytes}
use Rattle.bac_capture.specs.Sums.{checksum}

-- 10.0.0.N for node N, where N is taken modulo 2^24
abbrev pub address_of : (node : ℕ) → List ℕ
address_of node = 10 ∷ (node / 65536 % 256) ∷ (node / 256 % 256) ∷ (node % 256) ∷ []

-- version 4 with a header of five words, don't fragment, 64 hops, and UDP
abbrev pub ipv4_head : (sum total from to : ℕ) → List ℕ
ipv4_head sum total from to =
    0x45 ∷ 0 ∷ (to_be_bytes w16 total ++ (0 ∷ 0 ∷ 0x40 ∷ 0 ∷ 0x40 ∷ 0x11 ∷ (to_be_bytes w16 sum ++ (address_of from ++ address_of to))))

-- its checksum is that of the header with checksum 0
abbrev pub summed_head : (total from to : ℕ) → List ℕ
summed_head total from to = ipv4_head (checksum (ipv4_head 0 total from to)) total from to

-- port 47808 at both ends, the length of header and octets, and no checksum
abbrev pub udp_head : (len : ℕ) → List ℕ
udp_head len = 0xBA ∷ 0xC0 ∷ 0xBA ∷ 0xC0 ∷ (to_be_bytes w16 len ++ 0 ∷ 0 ∷ [])

abbrev pub packet : (from to : ℕ) → (octets : List ℕ) → List ℕ
packet from to octets = summed_head (length octets + 28) from to ++ (udp_head (length octets + 8) ++ octets)
