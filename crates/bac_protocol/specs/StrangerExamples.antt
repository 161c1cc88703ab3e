-- Runs among strangers that are computed: a stranger writes between a request and its repeat, uses the invoke ID of a node's ask, and answers what it was not
-- asked. Stranger 9 asks node 1, and node 0 asks it; stranger 0 has the number of a node, and is another.
use Rattle.std.specs.Prelude.{◌≡◌, ℕ, true, false, List, [], ◌∷◌, None}
use Rattle.bac_apdu.specs.Apdu.{Apdu}
use Rattle.bac_apdu.specs.Apdu.Apdu.{ConfirmedRequest, ComplexAck, Reject, Abort}
use Rattle.bac_protocol.specs.Service.{Octets, Request, Reply}
use Rattle.bac_protocol.specs.Service.Reply.{Complex}
use Rattle.bac_protocol.specs.Service.Outcome.{Replies}
use Rattle.bac_protocol.specs.Service.Ending.{Answered, Aborted}
use Rattle.bac_protocol.specs.Log.{StoreModel}
use Rattle.bac_protocol.specs.Log.Fact.{Performed, Ended, Restarted, Served, AskedAway, EndedAway}
use Rattle.bac_protocol.specs.Transaction.{Key}
use Rattle.bac_protocol.specs.Pace.{one_clock}
use Rattle.bac_protocol.specs.World.{World, Event, run, start, takes_at_client, takes_at_server}
use Rattle.bac_protocol.specs.World.Event.{Deliver, RestartServer, Stray, AskAway}
use Rattle.bac_protocol.specs.Examples.{Seen, seen, key, elapse, model, rules, limits, tick, append, append_apdu, ask_append, asked}

-- a store counts what was performed; a reply tells how much was before
abbrev pub telling : StoreModel ℕ
telling = record (model (Complex [])) { outcome = λ s choice octets. Replies (Complex (s ∷ [])) }

abbrev pub shows : List Event → Seen
shows events = seen (run ℕ telling (rules 32) events (start ℕ one_clock (λ node. 0) (λ node. 0)))

-- that stranger's request to node 1 with that invoke ID: the same as the one of node 0's ask, or another one
abbrev pub from : (stranger invoke_id : ℕ) → Key
from stranger invoke_id = record { client = stranger; server = 1; invoke_id = invoke_id }

abbrev pub write : Octets
write = 1 ∷ 2 ∷ []

abbrev pub write_apdu : Octets → Apdu
write_apdu octets = ConfirmedRequest (limits true 7) 0 None 7 octets

abbrev pub request : Octets → Request
request octets = record { choice = 7; service = octets }

abbrev pub tells : ℕ → Reply
tells count = Complex (count ∷ [])

abbrev pub told : ℕ → Apdu
told count = ComplexAck 0 None 7 (count ∷ [])

-- the stranger writes after the request was performed, before it is repeated: the repeat gets the kept reply, which is of the store before the stranger's
abbrev pub WritesBetween : Type 0
WritesBetween =
    shows (ask_append ∷ Deliver 0 true ∷ Stray (from 9 0) true (write_apdu write) ∷ elapse 3000 ∷ tick ∷ Deliver 2 true ∷ Deliver 3 true ∷ [])
    ≡ record {
      sent = append_apdu ∷ told 0 ∷ append_apdu ∷ told 0 ∷ [];
      log = Ended 0 (Answered (tells 0)) ∷ Served 9 1 0 0 (request write) (tells 1) ∷ Performed 0 (request append) (tells 0) ∷ asked append ∷ [];
      effects = 2;
    }

-- before the request was performed: the reply is of the store after the stranger's
abbrev pub WritesBefore : Type 0
WritesBefore =
    shows (ask_append ∷ Stray (from 9 0) true (write_apdu write) ∷ Deliver 0 true ∷ Deliver 1 true ∷ [])
    ≡ record {
      sent = append_apdu ∷ told 1 ∷ [];
      log = Ended 0 (Answered (tells 1)) ∷ Performed 0 (request append) (tells 1) ∷ Served 9 1 0 0 (request write) (tells 0) ∷ asked append ∷ [];
      effects = 2;
    }

-- the very request of the node's ask, with its invoke ID, from two strangers, one of which has the number of the node among its own: each is performed on its
-- own
abbrev pub SameInvokeId : Type 0
SameInvokeId =
    shows (ask_append ∷ Stray (from 9 0) true append_apdu ∷ Deliver 0 true ∷ Stray (from 0 0) true append_apdu ∷ Deliver 1 true ∷ [])
    ≡ record {
      sent = append_apdu ∷ told 1 ∷ [];
      log = Ended 0 (Answered (tells 1)) ∷ Served 0 1 0 0 (request append) (tells 2) ∷ Performed 0 (request append) (tells 1)
          ∷ Served 9 1 0 0 (request append) (tells 0) ∷ asked append ∷ [];
      effects = 3;
    }

-- while its entry is live, nothing more of a stranger's is performed under that invoke ID, at 65,000 too; at 65,001 it is; after a restart, which
-- begins with a new clock, at 65,001 after that
abbrev pub OncePerLife : Type 0
OncePerLife =
    shows (Stray (from 9 0) true (write_apdu write) ∷ Stray (from 9 0) true (write_apdu write) ∷ Stray (from 9 0) true (write_apdu append) ∷ elapse 65000
    ∷ Stray (from 9 0) true (write_apdu append) ∷ elapse 1 ∷ Stray (from 9 0) true (write_apdu append) ∷ RestartServer 1 7 None
    ∷ Stray (from 9 0) true (write_apdu append) ∷ elapse 65000 ∷ Stray (from 9 0) true (write_apdu append) ∷ elapse 1
    ∷ Stray (from 9 0) true (write_apdu append) ∷ [])
    ≡ record {
      sent = [];
      log = Served 9 1 0 65008 (request append) (tells 2) ∷ Restarted 1 None ∷ Served 9 1 0 65001 (request append) (tells 1)
          ∷ Served 9 1 0 0 (request write) (tells 0) ∷ [];
      effects = 3;
    }

-- strangers answer node 0's ask of node 1, with its invoke ID: their peers differ, and nothing comes of it; the server's answer ends it
abbrev pub to_node_0 : (stranger : ℕ) → Key
to_node_0 stranger = record { client = 0; server = stranger; invoke_id = 0 }

abbrev pub OthersAnswer : Type 0
OthersAnswer =
    shows (ask_append ∷ Stray (to_node_0 9) true (told 5) ∷ Stray (to_node_0 1) true (told 6) ∷ Stray (to_node_0 9) true (Abort true 0 0)
    ∷ Stray (to_node_0 9) true (Reject 0 0) ∷ Deliver 0 true ∷ Deliver 1 true ∷ [])
    ≡ record {
      sent = append_apdu ∷ told 0 ∷ [];
      log = Ended 0 (Answered (tells 0)) ∷ Performed 0 (request append) (tells 0) ∷ asked append ∷ [];
      effects = 1;
    }

-- node 0 asks stranger 9 as well, with that invoke ID: its answer ends that ask alone, with whatever it says; what it says later, and what others say, is
-- ignored
abbrev pub ask_stranger : Event
ask_stranger = AskAway (to_node_0 9) 7 true write []

abbrev pub StrangerAnswers : Type 0
StrangerAnswers =
    shows (ask_append ∷ ask_stranger ∷ ask_stranger ∷ Stray (to_node_0 8) true (told 5) ∷ Stray (to_node_0 9) true (told 6) ∷ Stray (to_node_0 9) true (told 7)
    ∷ Deliver 0 true ∷ Deliver 1 true ∷ [])
    ≡ record {
      sent = append_apdu ∷ told 0 ∷ [];
      log = Ended 0 (Answered (tells 0)) ∷ Performed 0 (request append) (tells 0) ∷ EndedAway 1 (Answered (tells 6)) ∷ AskedAway 1 0 9 (request write)
          ∷ asked append ∷ [];
      effects = 1;
    }

-- a table that strangers filled: the ask is aborted, and nothing is performed
abbrev pub FullTable : Type 0
FullTable =
    shows (Stray (from 9 0) true (write_apdu write) ∷ ask_append ∷ Deliver 0 false ∷ Deliver 1 true ∷ [])
    ≡ record {
      sent = append_apdu ∷ Abort true 0 0 ∷ [];
      log = Ended 0 (Aborted 0) ∷ asked append ∷ Served 9 1 0 0 (request write) (tells 0) ∷ [];
      effects = 1;
    }

-- What is still supposed: who sends from a node's address is that node. An answer with a server's address that no server gave ends the ask; a request with a
-- client's address that was not asked is performed for it, and its own is refused.
abbrev pub asked_world : World ℕ
asked_world = run ℕ telling (rules 32) (ask_append ∷ []) (start ℕ one_clock (λ node. 0) (λ node. 0))

pub record Forged : Type 0 where
  pub answer : (takes_at_client ℕ (rules 32) asked_world key (told 5) (asked_world.net.tickets key)).net.log ≡ Ended 0 (Answered (tells 5)) ∷ asked append ∷ []
  pub request : (run ℕ telling (rules 32) (Deliver 0 true ∷ Deliver 2 true ∷ []) (takes_at_server ℕ telling (rules 32) asked_world key true (write_apdu write))).net.log
      ≡ Ended 0 (Aborted 0) ∷ Performed 0 (request write) (tells 0) ∷ asked append ∷ []
