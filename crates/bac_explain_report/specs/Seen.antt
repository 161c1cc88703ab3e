-- The APDU of a transaction that a frame carries, with the moment of the frame.
use Rattle.std.specs.Prelude.{ℕ, ◌/◌, ◌%◌, ◌==◌, List, [], ◌∷◌, length, slice_index, Result, Ok, Err, Option, Some, None, if◌then◌else◌}
use Rattle.bac_capture.specs.Blocks.{FrameView}
use Rattle.bac_capture.specs.Frames.{datagram_at}
use Rattle.bac_capture.specs.Links.{link_kind_of}
use Rattle.bac_capture.specs.Packets.{DatagramView, EndpointView}
use Rattle.bac_capture.specs.declared.fault.PacketFault.{PacketFault}
use Rattle.bac_capture.specs.declared.link.LinkKind.{LinkKind}
use Rattle.bac_explain.specs.Sightings.{SightingView, sighting_at}
use Rattle.bac_explain_report.specs.declared.unread.Unread.{Unread}
use Rattle.bac_explain_report.specs.declared.unread.Unread.TheVariants.{Link, Packet, NoMoment}

abbrev pub unless_fault : Result (Option DatagramView) PacketFault → Result (Option DatagramView) Unread
unless_fault (Ok datagram) = Ok datagram
unless_fault (Err fault) = Err (Packet fault)

abbrev pub datagram_on : Option LinkKind → (also : Option ℕ) → List ℕ → Result (Option DatagramView) Unread
datagram_on None also octets = Err Link
datagram_on (Some link) also octets = unless_fault (datagram_at link also octets)

-- the datagram of BACnet/IP; `also` is a port in addition to the sixteen
abbrev pub datagram_in : (also : Option ℕ) → FrameView → Result (Option DatagramView) Unread
datagram_in also frame = datagram_on (link_kind_of frame.link) also frame.octets

-- the BACnet/IP address of an endpoint of IPv4 (clause J.1.2)
abbrev pub link_in : (host : List ℕ) → (port : ℕ) → List ℕ
link_in host port =
    slice_index host 0 ∷ slice_index host 1 ∷ slice_index host 2 ∷ slice_index host 3 ∷ (port / 256) ∷ (port % 256) ∷ []

abbrev pub link_of : EndpointView → Option (List ℕ)
link_of e = if length e.host == 4 then Some (link_in e.host e.port) else None

abbrev pub between : (from to : Option (List ℕ)) → List ℕ → Option SightingView
between None to octets = None
between (Some from) None octets = None
between (Some from) (Some to) octets = sighting_at from to octets

abbrev pub seen_in : DatagramView → Option SightingView
seen_in d = between (link_of d.from) (link_of d.to) d.octets

-- a frame without a timestamp cannot be read
abbrev pub timed_seen : Option ℕ → Option SightingView → Result (Option (ℕ × SightingView)) Unread
timed_seen moment None = Ok None
timed_seen None (Some s) = Err NoMoment
timed_seen (Some now) (Some s) = Ok (Some (now, s))

abbrev pub seen_at : Option ℕ → Option DatagramView → Result (Option (ℕ × SightingView)) Unread
seen_at moment None = Ok None
seen_at moment (Some d) = timed_seen moment (seen_in d)

abbrev pub seen_after : Option ℕ → Result (Option DatagramView) Unread → Result (Option (ℕ × SightingView)) Unread
seen_after moment (Ok datagram) = seen_at moment datagram
seen_after moment (Err why) = Err why

abbrev pub seen_of : (also : Option ℕ) → FrameView → Result (Option (ℕ × SightingView)) Unread
seen_of also frame = seen_after frame.moment (datagram_in also frame)
