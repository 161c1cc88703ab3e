-- Which datagram of BACnet/IP a frame carries.
use Rattle.std.specs.Prelude.{ℕ, List, Result, Ok, Option, Some, None}
use Rattle.bac_value.specs.Steps.{◌>>=◌}
use Rattle.bac_capture.specs.declared.fault.PacketFault.{PacketFault}
use Rattle.bac_capture.specs.declared.link.LinkKind.{LinkKind}
use Rattle.bac_capture.specs.declared.packet.Network.{Network}
use Rattle.bac_capture.specs.declared.packet.Network.TheVariants.{Ipv4, Ipv6}
use Rattle.bac_capture.specs.Links.{link_at}
use Rattle.bac_capture.specs.Ipv4.{ipv4_at}
use Rattle.bac_capture.specs.Ipv6.{ipv6_at}
use Rattle.bac_capture.specs.Udp.{packet_datagram_at}
use Rattle.bac_capture.specs.Packets.{PacketView, DatagramView}

abbrev pub network_at : Option Network → List ℕ → Result (Option PacketView) PacketFault
network_at None bytes = Ok None
network_at (Some Ipv4) bytes = ipv4_at bytes
network_at (Some Ipv6) bytes = ipv6_at bytes

-- the UDP packet in a frame
unfoldable pub packet_at : LinkKind → List ℕ → Result (Option PacketView) PacketFault
packet_at link bytes = do
  found ← link_at link bytes
  network_at found.0 found.1

abbrev pub optional_datagram_at : Option ℕ → Option PacketView → Result (Option DatagramView) PacketFault
optional_datagram_at also None = Ok None
optional_datagram_at also (Some packet) = packet_datagram_at also packet

-- the datagram of that packet, if one of its ports is BACnet's; `also` is a port in addition to the sixteen
unfoldable pub datagram_at : LinkKind → Option ℕ → List ℕ → Result (Option DatagramView) PacketFault
datagram_at link also bytes = do
  found ← packet_at link bytes
  optional_datagram_at also found
