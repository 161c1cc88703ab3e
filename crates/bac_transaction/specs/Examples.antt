-- Ends that are computed. Each type here is an equation that a law proves.
use Rattle.std.specs.Prelude.{◌≡◌, ℕ, List, [], ◌∷◌, map, Option, Some, None, true}
use Rattle.bac_apdu.specs.Apdu.{Apdu, Limits}
use Rattle.bac_apdu.specs.Apdu.Apdu.{ConfirmedRequest, SimpleAck, Abort}
use Rattle.bac_npdu.specs.Peers.{PeerView}
use Rattle.bac_protocol.specs.Context.{Settings}
use Rattle.bac_protocol.specs.Service.{Octets, Outcome, Reply}
use Rattle.bac_protocol.specs.Client.{asked_ticket}
use Rattle.bac_protocol.specs.Server as server
use Rattle.bac_protocol.specs.Server.{Service}
use Rattle.bac_transaction.specs.Keys.{PeerKey}
use Rattle.bac_transaction.specs.Sends.{Send}
use Rattle.bac_transaction.specs.Ends.{TransactionSlot, ClientSlot, ClientEnd, AskRefusal, AskOutcome, context_of, requester_ask, requester_tick, client_restarted}
use Rattle.bac_transaction.specs.Ends.{ServerSlot, ServerEnd, ServerTurn, responder_on_apdu, server_restarted}

abbrev pub LIMITS : Limits
LIMITS = record { takes_segments = true; max_segments = 0; max_apdu = 0 }

abbrev pub SETTINGS : Settings
SETTINGS = record { limits = LIMITS; window = 4 }

abbrev pub peer : ℕ → PeerView
peer n = record { link = 10 ∷ 0 ∷ 0 ∷ n ∷ 186 ∷ 192 ∷ []; route = None }

abbrev pub key : (n invoke_id : ℕ) → PeerKey
key n invoke_id = record { peer = peer n; invoke_id = invoke_id }

abbrev pub SERVICE_DATA : Octets
SERVICE_DATA = 12 ∷ 34 ∷ []

-- Asks.

-- a ticket of peer 2 that was first sent at 0 and has ended
abbrev pub ended : (invoke_id : ℕ) → ClientSlot
ended invoke_id = record { key = key 2 invoke_id; begin = 0; value = record { number = invoke_id; held = TransactionSlot.Closed 0 } }

abbrev pub clients : List ClientSlot → (capacity : ℕ) → ClientEnd
clients slots capacity = record { slots = slots; capacity = capacity; asked = 9; asks_from = 0; first_id = 0 }

abbrev pub begin_at : (first : ℕ) → ClientEnd → ClientEnd
begin_at first e = record e { first_id = first }

abbrev pub asks_at : (now n : ℕ) → ClientEnd → AskOutcome
asks_at now n e = requester_ask SETTINGS now (peer n) LIMITS 12 SERVICE_DATA e

abbrev pub invoke_id_in : AskOutcome → Option ℕ
invoke_id_in (AskOutcome.Refused why) = None
invoke_id_in (AskOutcome.Asked a) = Some a.invoke_id

abbrev pub refusal_in : AskOutcome → Option AskRefusal
refusal_in (AskOutcome.Refused why) = Some why
refusal_in (AskOutcome.Asked a) = None

abbrev pub keys_in : AskOutcome → List PeerKey
keys_in (AskOutcome.Refused why) = []
keys_in (AskOutcome.Asked a) = map (λ (s : ClientSlot). s.key) a.end.slots

-- the least invoke ID that is free is taken, whatever other peers hold
pub record LeastInvokeId : Type 0 where
  pub gap : invoke_id_in (asks_at 1000 2 (clients (ended 0 ∷ ended 1 ∷ ended 3 ∷ []) 8)) ≡ Some 2
  pub other_peer : invoke_id_in (asks_at 1000 3 (clients (ended 0 ∷ ended 1 ∷ ended 3 ∷ []) 8)) ≡ Some 0

-- where they begin at 254, it takes 254, then 255, and then 0; what is free before 254 comes last
pub record LeastAround : Type 0 where
  pub first : invoke_id_in (asks_at 1000 2 (begin_at 254 (clients (ended 0 ∷ []) 8))) ≡ Some 254
  pub last : invoke_id_in (asks_at 1000 2 (begin_at 254 (clients (ended 254 ∷ []) 8))) ≡ Some 255
  pub around : invoke_id_in (asks_at 1000 2 (begin_at 254 (clients (ended 254 ∷ ended 255 ∷ []) 8))) ≡ Some 0
  pub gap : invoke_id_in (asks_at 1000 2 (begin_at 254 (clients (ended 254 ∷ ended 255 ∷ ended 0 ∷ []) 8))) ≡ Some 1

-- an invoke ID is held for 135,000 ms from the first sending on, and no longer
pub record HeldFor : Type 0 where
  pub last : invoke_id_in (asks_at 135000 2 (clients (ended 0 ∷ []) 8)) ≡ Some 1
  pub after : invoke_id_in (asks_at 135001 2 (clients (ended 0 ∷ []) 8)) ≡ Some 0

-- so long is its slot; then the slot goes, when a new one comes
pub record SlotHeldFor : Type 0 where
  pub last : refusal_in (asks_at 135000 3 (clients (ended 0 ∷ []) 1)) ≡ Some AskRefusal.NoSlot
  pub after : keys_in (asks_at 135001 3 (clients (ended 0 ∷ []) 1)) ≡ key 3 0 ∷ []

-- a client's end that restarted at 0 asks nothing while no more than 75,000 ms have passed, as if all invoke IDs were held
pub record WaitsToAsk : Type 0 where
  pub last : refusal_in (asks_at 75000 2 (client_restarted 0 (clients (ended 0 ∷ []) 8))) ≡ Some AskRefusal.NoInvokeId
  pub after : invoke_id_in (asks_at 75001 2 (client_restarted 0 (clients (ended 0 ∷ []) 8))) ≡ Some 0

-- A tick.

-- a ticket whose request was sent at 0
abbrev pub waiting : (n : ℕ) → ClientSlot
waiting n =
    record {
      key = key n 0;
      begin = 0;
      value = record {
        number = n;
        held = TransactionSlot.Open (asked_ticket (context_of SETTINGS 0 (key n 0)) (record { first = 0; choice = 12; whole = true; pieces = SERVICE_DATA ∷ [] }));
      };
    }

-- what is sent again stands in ascending order of keys, not in the order of asking
abbrev pub TickOrder : Type 0
TickOrder = map (λ (s : Send). s.peer) (requester_tick SETTINGS 3000 (clients (waiting 3 ∷ waiting 2 ∷ []) 8)).sends ≡ peer 2 ∷ peer 3 ∷ []

-- The reply table.

-- a service that writes and has nothing to tell
abbrev pub SERVICE : Service
SERVICE choice octets = Outcome.Replies Reply.Simple

abbrev pub REQUEST : Apdu
REQUEST = ConfirmedRequest LIMITS 7 None 15 SERVICE_DATA

-- an entry of peer 2 that began at 0
abbrev pub KEPT : ServerSlot
KEPT =
    record {
      key = key 2 7;
      begin = 0;
      value = record { begin = 0; choice = 15; limits = LIMITS; request = Some SERVICE_DATA; first = None; state = server.State.Done (SimpleAck 7 15) };
    }

abbrev pub servers : ServerEnd
servers = record { slots = KEPT ∷ []; capacity = 1; serves_from = 0 }

abbrev pub hears_at : (now n : ℕ) → ServerTurn
hears_at now n = responder_on_apdu SETTINGS now SERVICE (peer n) REQUEST servers

abbrev pub keys_of : ServerEnd → List PeerKey
keys_of e = map (λ (s : ServerSlot). s.key) e.slots

-- a repeated request gets the kept reply, and is not performed again
abbrev pub KeptReply : Type 0
KeptReply = hears_at 65000 2 ≡ record { end = servers; sends = record { peer = peer 2; apdu = SimpleAck 7 15 } ∷ []; act = None }

-- while the table is full another request gets Abort 0; an entry of 65,001 ms goes, when a new one comes
pub record FullTable : Type 0 where
  pub full : hears_at 65000 3 ≡ record { end = servers; sends = record { peer = peer 3; apdu = Abort true 7 0 } ∷ []; act = None }
  pub replaced : keys_of (hears_at 65001 3).end ≡ key 3 7 ∷ []
  pub performed : (hears_at 65001 3).sends ≡ record { peer = peer 3; apdu = SimpleAck 7 15 } ∷ []

-- a server's end that restarted at 0 turns all requests away while no more than 65,000 ms have passed, those that were answered before too
pub record WaitsToServe : Type 0 where
  pub last : responder_on_apdu SETTINGS 65000 SERVICE (peer 2) REQUEST (server_restarted 0 servers)
      ≡ record { end = server_restarted 0 servers; sends = record { peer = peer 2; apdu = Abort true 7 0 } ∷ []; act = None }
  pub after : (responder_on_apdu SETTINGS 65001 SERVICE (peer 2) REQUEST (server_restarted 0 servers)).sends ≡ record { peer = peer 2; apdu = SimpleAck 7 15 } ∷ []
