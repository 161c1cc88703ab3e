-- Packets and datagrams as plain values.
use Rattle.std.specs.Prelude.{ℕ, List}
use Rattle.bac_capture.specs.declared.packet.Part.{Part}

-- an address, 4 octets of IPv4 or 16 of IPv6, and a UDP port
pub record EndpointView : Type 0 where
  pub host : List ℕ
  pub port : ℕ

-- a UDP datagram
pub record DatagramView : Type 0 where
  pub from : EndpointView
  pub to : EndpointView
  pub octets : List ℕ

-- an IP packet that contains UDP: its addresses, and what follows the headers of IP
pub record PacketView : Type 0 where
  pub from : List ℕ
  pub to : List ℕ
  pub part : Part
  pub contents : List ℕ

-- the fields of an IPv4 header that are used, except the addresses
pub record Ipv4HeadView : Type 0 where
  pub first : ℕ
  pub total : ℕ
  pub fragment : ℕ
  pub protocol : ℕ

-- the fields of an IPv6 header that are used, except the addresses
pub record Ipv6HeadView : Type 0 where
  pub first : ℕ
  pub length : ℕ
  pub next : ℕ
