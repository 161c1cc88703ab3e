-- The server's end by its rules. All that is not said here is as in Ends, and under the strict rules everything is.
use Rattle.std.specs.Prelude.{ℕ, Bool}
use Rattle.bac_apdu.specs.Apdu.{Apdu}
use Rattle.bac_npdu.specs.Peers.{PeerView}
use Rattle.bac_slots.specs.Slots.{value_at}
use Rattle.bac_protocol.specs.Context.{Settings}
use Rattle.bac_protocol.specs.Server.{Service}
use Rattle.bac_protocol.specs.Serving.{ServerRules, ends_entry, is_turned_away, server_hears}
use Rattle.bac_transaction.specs.Keys.{PeerKey, same_key}
use Rattle.bac_transaction.specs.Ends.{ServerEnd, ServerTurn, context_of, key_of, server_goes}
use Rattle.bac_transaction.specs.Reuse.{slots_left}
use Rattle.bac_transaction.specs.Sharing.{EndRules, may_begin}

-- the end without the entry that the APDU of that key ends, if any
abbrev pub end_left : ServerRules → (now : ℕ) → PeerKey → Apdu → ServerEnd → ServerEnd
end_left rules now key a e = record e { slots = slots_left (ends_entry rules now (value_at same_key key e.slots) a) key e.slots }

-- whether an entry may begin at an APDU of that key
abbrev pub has_place : EndRules → (now : ℕ) → PeerKey → Apdu → ServerEnd → Bool
has_place rules now key a e =
    may_begin rules.share (ends_entry rules.machine now (value_at same_key key e.slots) a) now key (end_left rules.machine now key a e)

-- the turn that an APDU of that key makes of an end
abbrev pub turn_at : EndRules → Settings → (now : ℕ) → Service → PeerKey → Apdu → ServerEnd → ServerTurn
turn_at rules c now service key a e =
    server_goes now (end_left rules.machine now key a e) key
    (server_hears (context_of c now key) service rules.machine (value_at same_key key e.slots) (has_place rules now key a e) a)

-- it is a request that is turned away
abbrev pub is_turned_away_at : EndRules → Settings → (now : ℕ) → Service → PeerKey → Apdu → ServerEnd → Bool
is_turned_away_at rules c now service key a e =
    is_turned_away (context_of c now key) service rules.machine (value_at same_key key e.slots) (has_place rules now key a e) a

-- an APDU comes from a peer
abbrev pub responder_by : EndRules → Settings → (now : ℕ) → Service → PeerView → Apdu → ServerEnd → ServerTurn
responder_by rules c now service peer a e = turn_at rules c now service (key_of peer a) a e

-- it is turned away
abbrev pub is_turned_away_by : EndRules → Settings → (now : ℕ) → Service → PeerView → Apdu → ServerEnd → Bool
is_turned_away_by rules c now service peer a e = is_turned_away_at rules c now service (key_of peer a) a e
