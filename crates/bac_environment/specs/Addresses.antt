-- Words that name nodes: addresses of IPv4, UDP ports, and the ways on behind routers.
use Rattle.std.specs.Prelude.{◌≡◌, ◌⊎◌, ℕ, ◌^◌, ◌<◌, Bool, true, false, not, ◌&&◌, nat_eq, nat_lt, IsTrue, List, [], ◌∷◌, ◌++◌, length, Option, None, Some}
use Rattle.std.specs.Int.{w16, to_be_bytes}
use Rattle.std.specs.List.{after_first, before_first, position_or_len}
use Rattle.std.specs.Net.Addr.{ipv4_octets}
use Rattle.std.specs.Net.Grammar.{IsIpv4Text}
use Rattle.std.specs.Str.{bytes_eq}
use Rattle.std.specs.Str.Parse.{IsNumeral, digits_value, without_leading_plus}
use Rattle.std.specs.declared.net.Ipv4Addr.{Ipv4Addr}
use Rattle.bac_npdu.specs.Peers.{PeerView, RouteView, route_fits}
use Rattle.bac_value_text.specs.Numbers.{octets_of}

abbrev pub EVERY_HOST : List ℕ
EVERY_HOST = 0 ∷ 0 ∷ 0 ∷ 0 ∷ []

abbrev pub is_below : (first : ℕ) → (host : List ℕ) → Bool
is_below first [] = false
is_below first (octet ∷ host) = nat_lt octet first

-- a node can have the address: it is not 0.0.0.0, nor that of a group, reserved, or that of all hosts of a link
abbrev pub is_of_node : (host : List ℕ) → Bool
is_of_node host = not (bytes_eq host EVERY_HOST) && is_below 224 host

-- the address of a link: the octets of a host, and the two of a UDP port, the higher one first (clause J.1.2)
abbrev pub link_of : (host : List ℕ) → (port : ℕ) → List ℕ
link_of host port = host ++ to_be_bytes w16 port

-- ---- texts

-- a text as `192.168.1.20` is this host
abbrev pub IsHost : (text host : List ℕ) → Type 0
IsHost text host = (a : Ipv4Addr) × IsIpv4Text text a × (ipv4_octets a ≡ host)

abbrev pub IsNoHost : (text : List ℕ) → Type 0
IsNoHost text = (a : Ipv4Addr) → IsIpv4Text text a → ⊥

-- a text is this number, of so many bits: decimal digits, before which a plus may stand
pub record IsNumber (bits : ℕ) (text : List ℕ) (number : ℕ) : Type 0 where
  pub digits : IsNumeral 10 (without_leading_plus text)
  pub is : digits_value 10 (without_leading_plus text) ≡ number
  pub fits : number < 2 ^ bits

abbrev pub IsNoNumber : (bits : ℕ) → (text : List ℕ) → Type 0
IsNoNumber bits text = (number : ℕ) → IsNumber bits text number → ⊥

-- a number from 1 on
pub record IsPort (text : List ℕ) (port : ℕ) : Type 0 where
  pub number : IsNumber 16 text port
  pub some : 0 < port

abbrev pub IsNoPort : (text : List ℕ) → Type 0
IsNoPort text = (port : ℕ) → IsPort text port → ⊥

-- the port of BACnet/IP, BAC0 (clause J.1.2)
abbrev pub BACNET_PORT : ℕ
BACNET_PORT = 47808

abbrev pub is_mark : (mark octet : ℕ) → Bool
is_mark mark octet = nat_eq octet mark

abbrev pub is_colon : (octet : ℕ) → Bool
is_colon = is_mark 58

abbrev pub is_slash : (octet : ℕ) → Bool
is_slash = is_mark 47

-- an octet like that stands in a text
abbrev pub has_octet : (is_wanted : ℕ → Bool) → (text : List ℕ) → Bool
has_octet is_wanted text = nat_lt (position_or_len is_wanted text) (length text)

-- a text has such an octet, and these are what stands before the first one and behind it
pub record IsCut (is_wanted : ℕ → Bool) (text front back : List ℕ) : Type 0 where
  pub there : has_octet is_wanted text ≡ true
  pub front_is : front ≡ before_first is_wanted text
  pub back_is : back ≡ after_first is_wanted text

-- what stands before the first colon is that host, and what stands behind it that port; where there is no colon, all is that host, and no port is named
abbrev pub IsEnd : (text host : List ℕ) → (port : Option ℕ) → Type 0
IsEnd text host None = (has_octet is_colon text ≡ false) × IsHost text host
IsEnd text host (Some port) = (has_octet is_colon text ≡ true) × (IsHost (before_first is_colon text) host × IsPort (after_first is_colon text) port)

abbrev pub IsNoEnd : (text : List ℕ) → Type 0
IsNoEnd text = (host : List ℕ) (port : Option ℕ) → IsEnd text host port → ⊥

-- the port that is named, or that of BACnet/IP
abbrev pub port_or_own : Option ℕ → ℕ
port_or_own None = BACNET_PORT
port_or_own (Some port) = port

-- a text as `192.168.1.20:47809` is the address of this link, which a node can have
pub record IsLink (text link : List ℕ) : Type 0 where
  pub host : List ℕ
  pub port : Option ℕ
  pub end : IsEnd text host port
  pub of_node : is_of_node host ≡ true
  pub is : link ≡ link_of host (port_or_own port)

-- a host that no node has
pub record IsOfNone (text : List ℕ) : Type 0 where
  pub host : List ℕ
  pub port : Option ℕ
  pub end : IsEnd text host port
  pub of_none : is_of_node host ≡ false

abbrev pub IsNoLink : (text : List ℕ) → Type 0
IsNoLink text = IsNoEnd text ⊎ IsOfNone text

-- digits are these octets in hexadecimal, at most 8
pub record AreOctets (digits octets : List ℕ) : Type 0 where
  pub few : length digits < 18
  pub is : octets_of digits ≡ Some octets

-- two texts are this way on: a network's number, and a device's address there
pub record IsWay (network digits : List ℕ) (r : RouteView) : Type 0 where
  pub number : IsNumber 16 network r.network
  pub address : AreOctets digits r.address
  pub fits : IsTrue (route_fits r)

abbrev pub IsNoWay : (network digits : List ℕ) → Type 0
IsNoWay network digits = (r : RouteView) → IsWay network digits r → ⊥

-- so is a text as `5:2A`, before its first colon and behind it
pub record IsRoute (text : List ℕ) (r : RouteView) : Type 0 where
  pub colon : has_octet is_colon text ≡ true
  pub way : IsWay (before_first is_colon text) (after_first is_colon text) r

abbrev pub IsNoRoute : (text : List ℕ) → Type 0
IsNoRoute text = (r : RouteView) → IsRoute text r → ⊥

-- a text as `192.168.1.20:47809` or `192.168.1.20/5:2A` names this peer: a link alone where there is no slash; otherwise a link before the first one, and the
-- way on from there behind it
abbrev pub IsPeerBy : (text link : List ℕ) → (route : Option RouteView) → Type 0
IsPeerBy text link None = (has_octet is_slash text ≡ false) × IsLink text link
IsPeerBy text link (Some r) = (has_octet is_slash text ≡ true) × (IsLink (before_first is_slash text) link × IsRoute (after_first is_slash text) r)

abbrev pub IsPeer : (text : List ℕ) → PeerView → Type 0
IsPeer text p = IsPeerBy text p.link p.route

-- with a slash, one of the two parts is none; without one it is no link
abbrev pub IsNoPeer : (text : List ℕ) → Type 0
IsNoPeer text = ((has_octet is_slash text ≡ false) × IsNoLink text)
    ⊎ ((has_octet is_slash text ≡ true) × (IsNoLink (before_first is_slash text) ⊎ IsNoRoute (after_first is_slash text)))
