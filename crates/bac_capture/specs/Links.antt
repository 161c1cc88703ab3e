-- The IP packet in a frame of each link layer.
use Rattle.std.specs.Prelude.{ℕ, ◌/◌, List, Result, Ok, Err, Option, Some, None, Bool, ◌||◌, ◌==◌, if◌then◌else◌}
use Rattle.bac_value.specs.Steps.{◌>>=◌, octet_at}
use Rattle.bac_capture.specs.declared.fault.PacketFault.{PacketFault}
use Rattle.bac_capture.specs.declared.fault.PacketFault.TheVariants.{IpHeader, Truncated}
use Rattle.bac_capture.specs.declared.link.LinkKind.{LinkKind}
use Rattle.bac_capture.specs.declared.link.LinkKind.TheVariants as kind
use Rattle.bac_capture.specs.declared.packet.Network.{Network}
use Rattle.bac_capture.specs.declared.packet.Network.TheVariants.{Ipv4, Ipv6}
use Rattle.bac_capture.specs.Fields.{cut_at, word_at, long_at}

-- the numbers of link layers in capture files
abbrev pub is_raw_number : ℕ → Bool
is_raw_number n = n == 12 || n == 14 || n == 101 || n == 228 || n == 229

abbrev pub link_kind_of : ℕ → Option LinkKind
link_kind_of n =
    if n == 0 || n == 108 then Some kind.Loopback else
    (if n == 1 then Some kind.Ethernet else
    (if is_raw_number n then Some kind.RawIp else
    (if n == 113 then Some kind.LinuxCooked else
    (if n == 276 then Some kind.LinuxCooked2 else None))))

-- EtherTypes
abbrev pub network_of : ℕ → Option Network
network_of ether_type = if ether_type == 0x0800 then Some Ipv4 else (if ether_type == 0x86DD then Some Ipv6 else None)

-- address families, each in both byte orders: 2 is IPv4 everywhere, and IPv6 is 10, 24, 28 or 30
abbrev pub is_ipv6_family : ℕ → Bool
is_ipv6_family family =
    family == 0x0A || family == 0x18 || family == 0x1C || family == 0x1E
    || family == 0x0A000000 || family == 0x18000000 || family == 0x1C000000 || family == 0x1E000000

abbrev pub family_network_of : ℕ → Option Network
family_network_of family =
    if family == 0x02 || family == 0x02000000 then Some Ipv4 else (if is_ipv6_family family then Some Ipv6 else None)

-- VLAN tags: 802.1Q, 802.1ad, and an older number of the latter
abbrev pub is_tag : ℕ → Bool
is_tag ether_type = ether_type == 0x8100 || ether_type == 0x88A8 || ether_type == 0x9100

-- a tag is skipped: two octets, and the EtherType after it
unfoldable pub untagged_at : ℕ → List ℕ → Result (ℕ × List ℕ) PacketFault
untagged_at ether_type bytes =
    if is_tag ether_type then (do
      tag ← word_at bytes
      word_at tag.1) else Ok (ether_type, bytes)

-- at most two tags
unfoldable pub typed_at : ℕ → List ℕ → Result (Option Network × List ℕ) PacketFault
typed_at ether_type bytes = do
  outer ← untagged_at ether_type bytes
  inner ← untagged_at outer.0 outer.1
  Ok (network_of inner.0, inner.1)

-- two addresses of six octets, and an EtherType
unfoldable pub ethernet_at : List ℕ → Result (Option Network × List ℕ) PacketFault
ethernet_at bytes = do
  addresses ← cut_at 12 bytes
  ether_type ← word_at addresses.1
  typed_at ether_type.0 ether_type.1

-- Linux cooked captures: fourteen octets about the interface, and an EtherType
unfoldable pub cooked_at : List ℕ → Result (Option Network × List ℕ) PacketFault
cooked_at bytes = do
  interface ← cut_at 14 bytes
  ether_type ← word_at interface.1
  typed_at ether_type.0 ether_type.1

-- the second version: an EtherType, and eighteen octets about the interface
unfoldable pub cooked_2_at : List ℕ → Result (Option Network × List ℕ) PacketFault
cooked_2_at bytes = do
  ether_type ← word_at bytes
  interface ← cut_at 18 ether_type.1
  typed_at ether_type.0 interface.1

-- the version of IP in the first octet of a packet
abbrev pub version_network_of : ℕ → Option Network
version_network_of first = if first / 16 == 4 then Some Ipv4 else (if first / 16 == 6 then Some Ipv6 else None)

abbrev pub raw_of : List ℕ → Option Network → Result (Option Network × List ℕ) PacketFault
raw_of bytes None = Err IpHeader
raw_of bytes (Some network) = Ok (Some network, bytes)

-- a raw packet
unfoldable pub raw_at : List ℕ → Result (Option Network × List ℕ) PacketFault
raw_at bytes = do
  first ← octet_at Truncated bytes
  raw_of bytes (version_network_of first.0)

-- an address family, and a packet
unfoldable pub loopback_at : List ℕ → Result (Option Network × List ℕ) PacketFault
loopback_at bytes = do
  family ← long_at bytes
  Ok (family_network_of family.0, family.1)

abbrev pub link_at : LinkKind → List ℕ → Result (Option Network × List ℕ) PacketFault
link_at kind.Loopback bytes = loopback_at bytes
link_at kind.Ethernet bytes = ethernet_at bytes
link_at kind.RawIp bytes = raw_at bytes
link_at kind.LinuxCooked bytes = cooked_at bytes
link_at kind.LinuxCooked2 bytes = cooked_2_at bytes
