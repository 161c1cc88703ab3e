-- Repeats suffice, for a request of one APDU (clause 5.4.4.3): it is sent up to four times, T_OUT apart or more, and one that gets through with its answer
-- is enough.
use Rattle.std.specs.Prelude.{◌≡◌, ℕ, ◌+◌, ◌-◌, ◌<◌, ◌≤◌, ◌⊎◌, Bool, true, false, List, ◌∷◌, ◌++◌, length, Some}
use Rattle.std.specs.List.{Contains}
use Rattle.bac_apdu.specs.Apdu.{Apdu}
use Rattle.bac_protocol.specs.declared.times.TheConstants.{T_OUT}
use Rattle.bac_protocol.specs.Service.{Octets, Reply}
use Rattle.bac_protocol.specs.Service.Ending.{Answered}
use Rattle.bac_protocol.specs.Client.{Ask, ClientTransaction, request_of}
use Rattle.bac_protocol.specs.Client.Phase.{AwaitConfirmation}
use Rattle.bac_protocol.specs.Server.{is_none_live}
use Rattle.bac_protocol.specs.Log.{Fact, Has, StoreModel}
use Rattle.bac_protocol.specs.Log.Fact.{Performed, Ended}
use Rattle.bac_protocol.specs.Transaction.{Key, Rules}
use Rattle.bac_protocol.specs.World.{Net, World, Event, client_now, server_now, is_id_held, copies_of, happens, run}
use Rattle.bac_protocol.specs.World.Event.{MakeAsk, Deliver, Tick}
use Rattle.bac_liveness.specs.Runs.{Throughout, IsOnItsWay, StaysSince}
use Rattle.bac_liveness.specs.RoundTrip.{FitsInOne, CanPerform, request_to}

-- a client waits four times T_OUT before it gives up
abbrev pub PATIENCE : ℕ
PATIENCE = 12000

-- an event that delivers a copy of the request to a server without a live entry finds a free slot, and a reply that goes in one APDU
abbrev pub FindsServer : (S : Type 0) → StoreModel S → Rules → Key → Ask → World S → Event → Type 0
FindsServer S model x key ask w (Deliver number free) =
    IsOnItsWay x w.net key (request_to x key ask) number → is_none_live (server_now w.net key) (w.net.entries key) ≡ true
    → (p : Reply) × CanPerform S model w key ask free p × FitsInOne x key ask p
FindsServer S model x key ask w _ = Unit {0}

-- ask n ended with the reply with which it was performed
abbrev pub IsAnswered : ℕ → Ask → List Fact → Type 0
IsAnswered n ask log = (p : Reply) × Has (Performed n (request_of ask) p) log × Has (Ended n (Answered p)) log

-- its ticket waits for the answer
pub record IsWaiting (n : Net) (key : Key) (ask : Ask) : Type 0 where
  pub ticket : ClientTransaction
  pub at : n.tickets key ≡ Some ticket
  pub ask_is : ticket.ask ≡ ask
  pub waits : ticket.phase ≡ AwaitConfirmation

-- a repeat was left, and was used: of this transaction the request is sent again and nothing else, and the timer is set anew
pub record IsSentAgain (x : Rules) (key : Key) (ask : Ask) (t : ClientTransaction) (old new : Net) : Type 0 where
  pub left : 0 < t.repeats
  pub sent : copies_of key new.posts ≡ record { moment = old.now; apdu = request_to x key ask } ∷ copies_of key old.posts
  pub ticket : new.tickets key ≡ Some (record t { repeats = t.repeats - 1; since = client_now old key })

-- ask n, of one APDU, was made in this world; until PATIENCE has passed, and as long as each copy of it that is delivered finds its server (and so none
-- comes to one that waits after a restart):
pub record IsRobust (S : Type 0) (model : StoreModel S) (x : Rules) (key : Key) (ask : Ask) (n : ℕ) (asked : World S) : Type 0 where
  -- it is waited for or answered, whatever is lost, repeated, reordered or asked of others, where its client has not restarted
  pub waits : (events : List Event) → Throughout S model x (FindsServer S model x key ask) events asked
      → (let v = run S model x events asked in StaysSince v.net key (asked.net.made key) → client_now v.net key < ask.first + PATIENCE
      → IsWaiting v.net key ask ⊎ IsAnswered n ask v.net.log)
  -- a tick of its client that is due sends it again
  pub repeats : (events : List Event) (as_client as_server : List Key) → Throughout S model x (FindsServer S model x key ask) events asked
      → (let v = run S model x events asked in StaysSince v.net key (asked.net.made key) → client_now v.net key < ask.first + PATIENCE
      → (t : ClientTransaction) → v.net.tickets key ≡ Some t → t.phase ≡ AwaitConfirmation → T_OUT ≤ client_now v.net key - t.since
      → Contains as_client key → IsSentAgain x key ask t v.net (happens S model x v (Tick as_client as_server)).net)
  -- where any copy of it and then the copy that this delivery sent are delivered, and its client has not restarted, it is answered
  pub answered : (before between : List Event) (number : ℕ) (free other : Bool) (answer : Apdu)
      → (let v = run S model x before asked in let u = run S model x between (happens S model x v (Deliver number free)) in
      Throughout S model x (FindsServer S model x key ask) (before ++ Deliver number free ∷ between) asked → StaysSince u.net key (asked.net.made key)
      → client_now u.net key < ask.first + PATIENCE
      → IsOnItsWay x v.net key (request_to x key ask) number → IsOnItsWay x u.net key answer (length v.net.posts)
      → IsAnswered n ask (happens S model x u (Deliver (length v.net.posts) other)).net.log)

-- of each ask of one APDU, made where its invoke ID is free
abbrev pub RepeatsSuffice : (S : Type 0) → StoreModel S → Rules → World S → Type 0
RepeatsSuffice S model x w =
    (key : Key) (choice : ℕ) (front : Octets) (rest : List Octets) → is_id_held w.net key ≡ false
    → IsRobust S model x key (record { first = client_now w.net key; choice = choice; whole = true; pieces = front ∷ rest }) w.net.asks
    (happens S model x w (MakeAsk key choice true front rest))
