-- The datagram in a UDP packet (RFC 768).
use Rattle.std.specs.Prelude.{ℕ, ◌-◌, List, Result, Ok, Err, Option, Some, None, nat_lt, ◌||◌, if◌then◌else◌}
use Rattle.bac_value.specs.Steps.{◌>>=◌}
use Rattle.bac_capture.specs.declared.fault.PacketFault.{PacketFault}
use Rattle.bac_capture.specs.declared.fault.PacketFault.TheVariants as fault
use Rattle.bac_capture.specs.declared.packet.Part.{Part}
use Rattle.bac_capture.specs.declared.packet.Part.TheVariants.{Whole, First, Later}
use Rattle.bac_capture.specs.Fields.{cut_at, word_at}
use Rattle.bac_capture.specs.Packets.{PacketView, DatagramView}
use Rattle.bac_capture.specs.Ports.{is_port}

-- after the ports: the length of header and octets, the checksum, and the octets
unfoldable pub udp_body_at : List ℕ → Result (List ℕ × List ℕ) PacketFault
udp_body_at bytes = do
  size ← word_at bytes
  checksum ← word_at size.1
  if nat_lt size.0 8 then Err fault.UdpLength else cut_at (size.0 - 8) checksum.1

-- of the first fragment of several only the ports can be read
abbrev pub udp_part_at : Part → List ℕ → Result (List ℕ × List ℕ) PacketFault
udp_part_at First bytes = Err fault.Fragment
udp_part_at Whole bytes = udp_body_at bytes
udp_part_at Later bytes = udp_body_at bytes

-- the ports of the sender and of the receiver; if neither is BACnet's there is no datagram
unfoldable pub udp_at : Option ℕ → PacketView → Result (Option DatagramView) PacketFault
udp_at also packet = do
  from ← word_at packet.contents
  to ← word_at from.1
  if is_port also from.0 || is_port also to.0 then (do
    body ← udp_part_at packet.part to.1
    Ok (Some (record {
      from = record { host = packet.from; port = from.0 };
      to = record { host = packet.to; port = to.0 };
      octets = body.0;
    }))) else Ok None

-- of a later fragment nothing can be read
abbrev pub udp_of_part : Part → Option ℕ → PacketView → Result (Option DatagramView) PacketFault
udp_of_part Whole also packet = udp_at also packet
udp_of_part First also packet = udp_at also packet
udp_of_part Later also packet = Err fault.Fragment

-- the datagram of a UDP packet, if one of its ports is BACnet's
abbrev pub packet_datagram_at : Option ℕ → PacketView → Result (Option DatagramView) PacketFault
packet_datagram_at also packet = udp_of_part packet.part also packet
