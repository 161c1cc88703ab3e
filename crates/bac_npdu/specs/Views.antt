-- The plain values of routes, peers and NPDUs.
use Rattle.std.specs.Option.{option_map}
use Rattle.bac_npdu.specs.declared.route.Route.{Route}
use Rattle.bac_npdu.specs.declared.peer.Peer.{Peer}
use Rattle.bac_npdu.specs.declared.npdu.Destination.{Destination}
use Rattle.bac_npdu.specs.declared.npdu.Message.{Message}
use Rattle.bac_npdu.specs.declared.npdu.Npdu.{Npdu}
use Rattle.bac_npdu.specs.declared.place.Place.{Place}
use Rattle.bac_npdu.specs.Peers.{RouteView, PeerView}
use Rattle.bac_npdu.specs.Npdu.{DestinationView, MessageView, NpduView}
pub use Rattle.bac_npdu.specs.Addresses.{address_view}

abbrev pub route_view : Route → RouteView
route_view r = record { network = r.network; address = address_view r.address }

abbrev pub peer_view : Peer → PeerView
peer_view p = record { link = p.link; route = option_map route_view p.route }

abbrev pub destination_view : Destination → DestinationView
destination_view d = record { network = d.network; address = address_view d.address; hops = d.hops }

abbrev pub message_view : Message → MessageView
message_view m = record { kind = m.kind; vendor = m.vendor }

abbrev pub npdu_view : Npdu → NpduView
npdu_view n = record {
  destination = option_map destination_view n.destination;
  source = option_map route_view n.source;
  expecting = n.expecting;
  priority = n.priority;
  message = option_map message_view n.message;
  contents = n.contents.now;
}

abbrev pub place_view : Place → RouteView
place_view p = record { network = p.network; address = address_view p.address }
