-- The texts of peers.
use Rattle.std.specs.Prelude.{ℕ, ◌+◌, ◌*◌, List, ◌++◌, slice_index, codes, decimal, Option, Some, None}
use Rattle.hex.specs.Hex.{encode_upper}
use Rattle.bac_npdu.specs.Peers.{PeerView, RouteView}

-- four octets of an address of IPv4, and a UDP port
abbrev pub link_text : List ℕ → List ℕ
link_text link =
    decimal (slice_index link 0) ++ (codes "." ++ (decimal (slice_index link 1) ++ (codes "." ++ (decimal (slice_index link 2) ++ (codes "."
    ++ (decimal (slice_index link 3) ++ (codes ":" ++ decimal (slice_index link 4 * 256 + slice_index link 5))))))))

-- a network, and a device's address there
abbrev pub route_text : RouteView → List ℕ
route_text r = decimal r.network ++ (codes ":" ++ encode_upper r.address)

abbrev pub routed_text : List ℕ → Option RouteView → List ℕ
routed_text link None = link
routed_text link (Some r) = link ++ (codes "/" ++ route_text r)

abbrev pub peer_text : PeerView → List ℕ
peer_text p = routed_text (link_text p.link) p.route
