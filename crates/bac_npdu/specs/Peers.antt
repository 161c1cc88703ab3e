-- Peers as plain values, and their order.
use Rattle.std.specs.Prelude.{ℕ, List, Option, Bool, nat_lt, ◌&&◌, length}
use Rattle.std.specs.Ordering.{nat_cmp, on, then_cmp}
use Rattle.std.specs.declared.cmp.Ordering.{Ordering}
use Rattle.std.specs.Option.{option_cmp}
use Rattle.std.specs.Cmp.{IsTotalOrder, then_total, on_total, nat_cmp_total}
use Rattle.std.specs.Cmp.Lexicographic.{slice_cmp, lists_total, options_total}
pub use Rattle.bac_npdu.specs.declared.route.TheConstants.{ALL_NETWORKS}

-- a device on a network behind a router: the network number, and the address of the device there (clause 6.2.2)
pub record RouteView : Type 0 where
  pub network : ℕ
  pub address : List ℕ

-- the other end of a transaction: its BACnet/IP address (four octets of IPv4 and two of UDP port, clause J.1.2), and the route from there
pub record PeerView : Type 0 where
  pub link : List ℕ
  pub route : Option RouteView

-- networks have numbers 1 to 65,534, and addresses 1 to 8 octets (8 is an own limit of this profile)
abbrev pub route_fits : RouteView → Bool
route_fits r = nat_lt 0 r.network && nat_lt r.network ALL_NETWORKS && nat_lt 0 (length r.address) && nat_lt (length r.address) 9

-- by network number, then by the address octets as lists, a prefix first
abbrev pub route_cmp : RouteView → RouteView → Ordering
route_cmp = then_cmp (on (λ r. r.network) nat_cmp) (on (λ r. r.address) (slice_cmp nat_cmp))

-- by link address, then no route before any route, then by route
abbrev pub peer_cmp : PeerView → PeerView → Ordering
peer_cmp = then_cmp (on (λ p. p.link) (slice_cmp nat_cmp)) (on (λ p. p.route) (option_cmp route_cmp))

pub route_cmp_total : IsTotalOrder route_cmp
route_cmp_total = then_total (on_total (λ (r : RouteView). r.network) nat_cmp_total) (on_total (λ (r : RouteView). r.address) (lists_total nat_cmp_total))

pub peer_cmp_total : IsTotalOrder peer_cmp
peer_cmp_total = then_total (on_total (λ (p : PeerView). p.link) (lists_total nat_cmp_total))
    (on_total (λ (p : PeerView). p.route) (options_total route_cmp_total))
