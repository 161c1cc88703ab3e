-- What an end sends, and the datagrams that carry it.
use Rattle.std.specs.Prelude.{◌≡◌, ℕ, List, [], ◌∷◌, map}
use Rattle.bac_apdu.specs.Apdu.{Apdu}
use Rattle.bac_apdu.specs.Spelling.{SpellsApdu, is_confirmed_request}
use Rattle.bac_npdu.specs.Peers.{PeerView}
use Rattle.bac_npdu.specs.Datagram.{IsFrameTo}
use Rattle.bac_protocol.specs.Short.{IsShort}

-- an APDU for a peer
pub record Send : Type 0 where
  pub peer : PeerView
  pub apdu : Apdu

-- an APDU to that peer
abbrev pub to_peer : PeerView → Apdu → Send
to_peer peer a = record { peer = peer; apdu = a }

-- these APDUs to one peer, in their order
abbrev pub to_all : PeerView → List Apdu → List Send
to_all peer apdus = map (to_peer peer) apdus

-- a datagram for a link, which is four octets of IPv4 and two of the UDP port (clause J.1.2)
pub record Datagram : Type 0 where
  pub to : List ℕ
  pub octets : List ℕ

-- the datagram is the one frame of what is sent
pub record IsSent (s : Send) (d : Datagram) : Type 0 where
  pub link : d.to ≡ s.peer.link
  pub frame : IsFrameTo SpellsApdu is_confirmed_request s.peer s.apdu d.octets
  pub short : IsShort s.apdu

-- the members of both lists, one by one
abbrev pub Pairwise : {A B : Type 0} → (A → B → Type 0) → List A → List B → Type 0
Pairwise R [] [] = Unit {0}
Pairwise R [] (y ∷ ys) = ⊥
Pairwise R (x ∷ xs) [] = ⊥
Pairwise R (x ∷ xs) (y ∷ ys) = R x y × Pairwise R xs ys
