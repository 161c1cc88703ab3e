-- What a node that lets clients use an invoke ID again as soon as its transaction is over makes of a datagram: its client's end as ever, its server's end by
-- bac_transaction's Reuse. It shares its slots among addresses, or does not.
use Rattle.std.specs.Prelude.{◌≢◌, ◌⊎◌, ℕ, Bool, true, false}
use Rattle.bac_apdu.specs.Apdu.{Apdu}
use Rattle.bac_apdu.specs.Spelling.{SpellsApdu}
use Rattle.bac_npdu.specs.Datagram.{Means}
use Rattle.bac_npdu.specs.Peers.{PeerView}
use Rattle.bac_protocol.specs.Service.{Octets}
use Rattle.bac_protocol.specs.Wire.{is_from_client}
use Rattle.bac_transaction.specs.Reuse.{responder_reusing}
use Rattle.bac_transaction.specs.Services.{service_of}
use Rattle.bac_world.specs.Node.{IsDropped, IsHeardBy, IsServerTurn, Node, NodeOn, Outcome}

-- an APDU of a peer is heard by the server's end where a client sends such, by the client's end otherwise
abbrev pub IsHeardReusingBy : (share server : Bool) → PeerView → Apdu → (now : ℕ) → (old new : Node) → Outcome → Type 0
IsHeardReusingBy share true peer a now old new o =
    IsServerTurn (responder_reusing share old.settings now (service_of old.store) peer a old.servers) now old new o
IsHeardReusingBy share false peer a now old new o = IsHeardBy false peer a now old new o

-- a datagram that means an APDU of a peer, and comes from another link, is heard
pub record IsHeardReusing (share : Bool) (now : ℕ) (from octets : Octets) (old new : Node) (o : Outcome) : Type 0 where
  pub peer : PeerView
  pub apdu : Apdu
  pub foreign : from ≢ old.link
  pub means : Means SpellsApdu from octets peer apdu
  pub heard : IsHeardReusingBy share (is_from_client apdu) peer apdu now old new o

-- a datagram comes from a link
abbrev pub NodeReusing : (share : Bool) → (now : ℕ) → (from octets : Octets) → (old new : Node) → Outcome → Type 0
NodeReusing share now from octets old new o = IsDropped now from octets old new o ⊎ IsHeardReusing share now from octets old new o

-- the same of a node of either setting, which shares its slots, or does not: only one that lets invoke IDs be used again does
abbrev pub NodeHearsSo : (reuse share : Bool) → (now : ℕ) → (from octets : Octets) → (old new : Node) → Outcome → Type 0
NodeHearsSo true share now from octets old new o = NodeReusing share now from octets old new o
NodeHearsSo false share now from octets old new o = NodeOn now from octets old new o

-- the same of a node of either setting; one that lets invoke IDs be used again may share its slots
abbrev pub NodeHears : (reuse : Bool) → (now : ℕ) → (from octets : Octets) → (old new : Node) → Outcome → Type 0
NodeHears true now from octets old new o = (share : Bool) × NodeReusing share now from octets old new o
NodeHears false now from octets old new o = NodeOn now from octets old new o
