-- What a node of either setting heard, in the words that the proofs of both share.
use Rattle.std.proofs.Common.{◌⊎◌, ℕ, Bool, true, false, ◌||◌, not, inl, inr}
use Rattle.bac_apdu.specs.Apdu.{Apdu}
use Rattle.bac_apdu.specs.Spelling.{SpellsApdu}
use Rattle.bac_npdu.specs.Datagram.{Means}
use Rattle.bac_npdu.specs.Peers.{PeerView}
use Rattle.bac_protocol.specs.Service.{Octets}
use Rattle.bac_protocol.specs.Wire.{is_from_client}
use Rattle.bac_protocol.specs.Reuse.{ends_entry}
use Rattle.bac_slots.specs.Slots.{value_at}
use Rattle.bac_transaction.specs.Ends.{key_of}
use Rattle.bac_transaction.specs.Keys.{PeerKey, same_key}
use Rattle.bac_transaction.specs.Reuse.{is_read}
use Rattle.bac_transaction.specs.Sharing.{address_of, has_share}
use Rattle.bac_transaction.specs.Services.{service_of}
use Rattle.bac_world.specs.Node.{Node, Outcome, IsDropped, IsHeard, IsHeardBy, IsServerTurn}
use Rattle.bac_world.specs.ReusingNodes.{IsHeardReusingBy, NodeHears}
use Rattle.bac_world.proofs.Settings.{end_heard, hears_at}

abbrev pub IsHeardInBy : (reuse server : Bool) → PeerView → Apdu → (now : ℕ) → (old new : Node) → Outcome → Type 0
IsHeardInBy reuse true peer a now old new o =
    (allowed : Bool) × IsServerTurn (hears_at allowed reuse old.settings now (service_of old.store) (key_of peer a) a old.servers) now old new o
IsHeardInBy reuse false peer a now old new o = IsHeardBy false peer a now old new o

pub record IsHeardIn (reuse : Bool) (now : ℕ) (from octets : Octets) (old new : Node) (o : Outcome) : Type 0 where
  pub peer : PeerView
  pub apdu : Apdu
  pub means : Means SpellsApdu from octets peer apdu
  pub heard : IsHeardInBy reuse (is_from_client apdu) peer apdu now old new o

module _ (now : ℕ) (from octets : Octets) (old new : Node) (o : Outcome) where
  heard_ever : (up : Bool) (peer : PeerView) (a : Apdu) → IsHeardBy up peer a now old new o → IsHeardInBy false up peer a now old new o
  heard_ever true peer a h = (true, h)
  heard_ever false peer a h = h

  -- whether an end that shares its slots, or not, allows an entry to begin
  abbrev allows : (share : Bool) → PeerKey → Apdu → Bool
  allows share key a =
      not share || (ends_entry is_read now (value_at same_key key old.servers.slots) a
      || has_share now (address_of key.peer.link) (end_heard true now key a old.servers))

  heard_again : (share up : Bool) (peer : PeerView) (a : Apdu) → IsHeardReusingBy share up peer a now old new o → IsHeardInBy true up peer a now old new o
  heard_again share true peer a h = (allows share (key_of peer a) a, h)
  heard_again share false peer a h = h

  pub heard_as : IsHeard now from octets old new o → IsHeardIn false now from octets old new o
  heard_as z = record { peer = z.peer; apdu = z.apdu; means = z.means; heard = heard_ever (is_from_client z.apdu) z.peer z.apdu z.heard }

  pub heard_in : (reuse : Bool) → NodeHears reuse now from octets old new o → IsDropped now from octets old new o ⊎ IsHeardIn reuse now from octets old new o
  heard_in false (inl d) = inl d
  heard_in false (inr z) = inr (heard_as z)
  heard_in true (share, inl d) = inl d
  heard_in true (share, inr z) =
      inr (record { peer = z.peer; apdu = z.apdu; means = z.means; heard = heard_again share (is_from_client z.apdu) z.peer z.apdu z.heard })
