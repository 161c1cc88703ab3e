-- Nodes that begin late, and clients that begin one after another at one address, as runs that are computed.
use Rattle.std.specs.Prelude.{◌≡◌, ℕ, ◌+◌, true, false, List, [], ◌∷◌, ◌++◌}
use Rattle.bac_protocol.specs.Service.Reply.{Complex}
use Rattle.bac_protocol.specs.Service.Ending.{Answered, Expired}
use Rattle.bac_protocol.specs.Log.{Fact, StoreModel}
use Rattle.bac_protocol.specs.Log.Fact.{Asked, Ended}
use Rattle.bac_protocol.specs.Pace.{one_clock}
use Rattle.bac_protocol.specs.Transaction.{Key}
use Rattle.bac_protocol.specs.World.{World, Event, start, client_now, server_now, begun, begun_again}
use Rattle.bac_protocol.specs.World.Event.{MakeAsk, Deliver, RestartClient, Begin, BeginAgain}
use Rattle.bac_protocol.specs.Claims.{is_nothing_left}
use Rattle.bac_protocol.specs.Examples.{elapse, model, key, append, position, ask_append}
use Rattle.bac_protocol.specs.Edges.{goes_on, log_after, log_with, at_once, once, twice, client_tick, server_tick, counted, alike, append_request, first_done}
use Rattle.bac_protocol.specs.Edges.{second_done, mixed, from_old_life, asks_again}

-- the world after these events
abbrev pub world_after : StoreModel ℕ → List Event → World ℕ
world_after s events = goes_on s events (start ℕ one_clock (λ node. 0) (λ node. 0))

-- the same transaction the other way round: node 1 asks node 0
abbrev pub back_key : Key
back_key = record { client = 1; server = 0; invoke_id = 0 }

-- A node begins.

-- A client begins at 100,000, with a clock at 0: it asks at once, and is answered. A server begins at 3,000, with a clock at 5, when a request to it was lost:
-- it performs the client's repeat. A node that asked or served begins no more: its clocks go on.
pub record Late : Type 0 where
  pub client : log_after (model position) (elapse 100000 ∷ Begin 0 0 ∷ ask_append ∷ Deliver 0 true ∷ Deliver 1 true ∷ []) ≡ Ended 0 (Answered position) ∷ once
  pub client_clock : client_now (world_after (model position) (elapse 100000 ∷ Begin 0 0 ∷ elapse 7 ∷ [])).net key ≡ 7
  pub server : log_after (model position) (ask_append ∷ elapse 3000 ∷ Begin 1 5 ∷ client_tick ∷ Deliver 1 true ∷ Deliver 2 true ∷ [])
      ≡ Ended 0 (Answered position) ∷ once
  pub server_clock : server_now (world_after (model position) (elapse 3000 ∷ Begin 1 5 ∷ elapse 7 ∷ [])).net key ≡ 12
  pub asked : client_now (world_after (model position) (ask_append ∷ elapse 7 ∷ Begin 0 777 ∷ [])).net key ≡ 7
  pub served : server_now (world_after (model position) (at_once ++ elapse 7 ∷ Begin 1 777 ∷ [])).net key ≡ 7

-- that node begins with that clock, though it asked or served
abbrev pub begins_active : (node exact : ℕ) → World ℕ → World ℕ
begins_active node exact w = record w { net = begun w.net node exact }

-- A server that has an entry begins, with a clock by which that is over: a repeat is performed again. A client begins whose answer came, and is on its way a
-- second time, with a clock by which its invoke ID is free: its next ask ends with that answer, and was never performed.
pub record BegunActive : Type 0 where
  pub server : log_with (model position) at_once (begins_active 1 65001) (Deliver 0 true ∷ []) ≡ twice
  pub client : log_with (model position) (at_once ++ Deliver 0 true ∷ Deliver 1 true ∷ []) (begins_active 0 135001) (ask_append ∷ Deliver 2 true ∷ [])
      ≡ Ended 1 (Answered position) ∷ Asked 1 0 1 append_request ∷ Ended 0 (Answered position) ∷ once

-- Another client begins.

-- though not all is over that the one before sent
abbrev pub begins_too_soon : World ℕ → World ℕ
begins_too_soon w = record w { net = begun_again w.net 0 0 }

-- it asks at once under the invoke ID of the one before; its request is performed, and it takes the segments of its own reply
abbrev pub asks_anew : (number : ℕ) → List Event
asks_anew number = ask_append ∷ Deliver number true ∷ Deliver (number + 1) true ∷ Deliver (number + 2) true ∷ Deliver (number + 3) true
    ∷ Deliver (number + 4) true ∷ []

abbrev pub own_answer : List Fact
own_answer = Ended 1 (Answered (Complex (alike 60 1))) ∷ second_done first_done

-- A client ends in its ask, at 0, and that is seen. The last that is left of it is a segment that arrives at 75,000. Another client does not begin by then, so that
-- its ask is refused; if it began, it would take that segment for its own. At 75,001 it begins, and has its own answer.
pub record AfterEnd : Type 0 where
  pub refused : log_after counted (ask_append ∷ RestartClient 0 0 ∷ from_old_life ++ BeginAgain 0 0 ∷ asks_again) ≡ first_done
  pub too_soon : log_with counted (ask_append ∷ RestartClient 0 0 ∷ from_old_life) begins_too_soon asks_again ≡ mixed first_done
  pub begins : log_after counted (ask_append ∷ RestartClient 0 0 ∷ from_old_life ++ elapse 1 ∷ BeginAgain 0 0 ∷ asks_anew 2) ≡ own_answer

-- an ask of 1 is repeated at 60,001, and then its client ends; the repeat arrives at 65,001; segment 0 of its reply is sent again at 130,001, and arrives at 135,001
abbrev pub unseen_end : List Event
unseen_end = elapse 1 ∷ ask_append ∷ elapse 60000 ∷ client_tick ∷ elapse 5000 ∷ Deliver 1 true ∷ elapse 65000 ∷ server_tick ∷ elapse 5000 ∷ []

abbrev pub asks_with_old_segment : List Event
asks_with_old_segment = ask_append ∷ Deliver 3 true ∷ Deliver 4 true ∷ Deliver 5 true ∷ Deliver 7 true ∷ []

-- Nobody sees that client end. 135,000 after its ask another client does not begin, so that its ask is refused, and the one before expires; if it began, it would
-- take that segment for its own. 135,001 after it nothing is left of that ask, and another client begins, with a clock at 0, and has its own answer.
pub record AfterAsk : Type 0 where
  pub refused : log_after counted (unseen_end ++ BeginAgain 0 0 ∷ asks_with_old_segment) ≡ Ended 0 Expired ∷ first_done
  pub too_soon : log_with counted unseen_end begins_too_soon asks_with_old_segment ≡ mixed first_done
  pub begins : log_after counted (unseen_end ++ elapse 1 ∷ BeginAgain 0 0 ∷ asks_anew 3) ≡ own_answer
  pub clock : client_now (world_after counted (unseen_end ++ elapse 1 ∷ BeginAgain 0 0 ∷ [])).net key ≡ 0
  pub left : is_nothing_left (world_after counted unseen_end).net key ≡ false
  pub nothing : is_nothing_left (world_after counted (unseen_end ++ elapse 1 ∷ [])).net key ≡ true

-- With the client begins the node's server, where that never served; one that served goes on.
pub record WithServer : Type 0 where
  pub unserved : server_now (world_after counted (at_once ++ elapse 135001 ∷ BeginAgain 0 777 ∷ [])).net back_key ≡ 777
  pub served : server_now (world_after counted (at_once ++ MakeAsk back_key 7 true append [] ∷ Deliver 2 true ∷ elapse 135001 ∷ BeginAgain 0 777 ∷ [])).net back_key
      ≡ 135001
