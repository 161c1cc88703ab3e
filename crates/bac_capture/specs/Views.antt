-- The abstract values of packets and datagrams.
use Rattle.bac_capture.specs.declared.packet.Endpoint.{Endpoint}
use Rattle.bac_capture.specs.declared.packet.Datagram.{Datagram}
use Rattle.bac_capture.specs.declared.packet.Packet.{Packet}
use Rattle.bac_capture.specs.declared.ipv4.Ipv4Head.{Ipv4Head}
use Rattle.bac_capture.specs.declared.ipv6.Ipv6Head.{Ipv6Head}
use Rattle.bac_capture.specs.Packets.{EndpointView, DatagramView, PacketView, Ipv4HeadView, Ipv6HeadView}

abbrev pub endpoint_view : Endpoint → EndpointView
endpoint_view e = record { host = e.host.now; port = e.port }

abbrev pub datagram_view : Datagram → DatagramView
datagram_view d = record { from = endpoint_view d.from; to = endpoint_view d.to; octets = d.octets.now }

abbrev pub packet_view : Packet → PacketView
packet_view p = record { from = p.from.now; to = p.to.now; part = p.part; contents = p.contents.now }

abbrev pub ipv4_head_view : Ipv4Head → Ipv4HeadView
ipv4_head_view h = record { first = h.first; total = h.total; fragment = h.fragment; protocol = h.protocol }

abbrev pub ipv6_head_view : Ipv6Head → Ipv6HeadView
ipv6_head_view h = record { first = h.first; length = h.length; next = h.next }
