-- Which slots of a table an IP address holds.
use Rattle.std.specs.Prelude.{ℕ, Bool, ◌&&◌, List, bytes_eq}
use Rattle.bac_slots.specs.declared.slot.Slot.{Slot}
use Rattle.bac_protocol.specs.Server.{ServerTransaction, is_live}
use Rattle.bac_transaction.specs.Sharing.{address_of}
use Rattle.bac_transaction.specs.declared.peer_key.PeerKey.{PeerKey}

-- a slot with a live entry of a peer at the IP address of that link
abbrev pub is_held : (now : ℕ) → (link : List ℕ) → Slot PeerKey ServerTransaction → Bool
is_held now link s = bytes_eq (address_of s.key.peer.link) (address_of link) && is_live now s.value
