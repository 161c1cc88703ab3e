-- Whether something listens at a UDP port of this host, by the system's table of sockets.
use Rattle.std.specs.Prelude.{◌≡◌, ◌≤◌, ℕ, List, [], ◌∷◌, ◌++◌, codes, length, Option, None, Some, IfSome, get_or}
use Rattle.std.specs.Str.Pattern.{LacksTextAt}
use Rattle.hex.specs.Hex.{encode_upper}
use Rattle.bac_npdu.specs.Peers.{PeerView}
use Rattle.bac_environment.specs.Files.{OfFile}

-- a local address as a row has it: the octets of the host from the last to the first, and the port, both in hexadecimal
abbrev pub local_end : (host port : List ℕ) → List ℕ
local_end host port = encode_upper host ++ codes ":" ++ encode_upper port ++ codes " "

-- the octets of a link's host, from the last to the first, and those of its port (clause J.1.2)
abbrev pub host_back : (link : List ℕ) → List ℕ
host_back link = get_or link 3 0 ∷ get_or link 2 0 ∷ get_or link 1 0 ∷ get_or link 0 0 ∷ []

abbrev pub port_octets : (link : List ℕ) → List ℕ
port_octets link = get_or link 4 0 ∷ get_or link 5 0 ∷ []

-- a text does not occur in another
pub record Lacks (table text : List ℕ) : Type 0 where
  pub nowhere : (at : ℕ) → at ≤ length table → LacksTextAt text table at

-- no row is of a socket at that host and port, or at that port of every host
pub record IsUnheardIn (table link : List ℕ) : Type 0 where
  pub own : Lacks table (local_end (host_back link) (port_octets link))
  pub every : Lacks table (local_end (0 ∷ 0 ∷ 0 ∷ 0 ∷ []) (port_octets link))

-- it is so in the table of UDP over IPv4, where that is known
abbrev pub IsUnlisted : (IsAt : (path : List ℕ) → (content : Option (List ℕ)) → Type 0) → (link : List ℕ) → Type 0
IsUnlisted IsAt link = OfFile IsAt (codes "/proc/net/udp") (λ content. IfSome content (λ table. IsUnheardIn table link))

-- nothing listens at a node of this host
pub record IsUnheard (IsAt : (path : List ℕ) → (content : Option (List ℕ)) → Type 0) (peer : PeerView) : Type 0 where
  pub here : get_or peer.link 0 0 ≡ 127
  pub direct : peer.route ≡ None
  pub unlisted : IsUnlisted IsAt peer.link
