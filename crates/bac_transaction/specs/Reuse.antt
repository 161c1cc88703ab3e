-- The server's end of a node that lets clients use an invoke ID again as soon as its transaction is over.
use Rattle.std.specs.Prelude.{ℕ, Bool, if◌then◌else◌, List}
use Rattle.bac_apdu.specs.Apdu.{Apdu}
use Rattle.bac_npdu.specs.Peers.{PeerView}
use Rattle.bac_slots.specs.Slots.{value_at, without}
use Rattle.bac_service.specs.Choices.{is_read_choice}
use Rattle.bac_protocol.specs.Context.{Settings}
use Rattle.bac_protocol.specs.Reuse.{ends_entry, reusing_on_apdu}
use Rattle.bac_protocol.specs.Server.{Service}
use Rattle.bac_transaction.specs.Keys.{PeerKey, same_key}
use Rattle.bac_transaction.specs.Ends.{ServerEnd, ServerSlot, ServerTurn, context_of, key_of, server_goes}
use Rattle.bac_transaction.specs.Sharing.{may_begin}

-- the requests that change no store (clauses 15.5 and 14.1)
abbrev pub is_read : (choice : ℕ) → Bool
is_read choice = is_read_choice choice

-- the slots without the entry of that key, if it ends
abbrev pub slots_left : (ends : Bool) → PeerKey → List ServerSlot → List ServerSlot
slots_left ends key slots = if ends then without same_key key slots else slots

-- the end without the entry that the APDU of that key ends, if any
abbrev pub end_left : (now : ℕ) → PeerKey → Apdu → ServerEnd → ServerEnd
end_left now key a e = record e { slots = slots_left (ends_entry is_read now (value_at same_key key e.slots) a) key e.slots }

-- whether an entry may begin at an APDU of that key, where slots are shared or not
abbrev pub has_place : (share : Bool) → (now : ℕ) → PeerKey → Apdu → ServerEnd → Bool
has_place share now key a e = may_begin share (ends_entry is_read now (value_at same_key key e.slots) a) now key (end_left now key a e)

-- the turn that an APDU of that key makes of an end
abbrev pub reusing_turn : (share : Bool) → Settings → (now : ℕ) → Service → PeerKey → Apdu → ServerEnd → ServerTurn
reusing_turn share c now service key a e =
    server_goes now (end_left now key a e) key
    (reusing_on_apdu (context_of c now key) service is_read (value_at same_key key e.slots) (has_place share now key a e) a)

-- an APDU comes from a peer
abbrev pub responder_reusing : (share : Bool) → Settings → (now : ℕ) → Service → PeerView → Apdu → ServerEnd → ServerTurn
responder_reusing share c now service peer a e = reusing_turn share c now service (key_of peer a) a e
