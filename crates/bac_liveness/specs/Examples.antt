-- For each law a run that meets its premises, computed, with what the log says after it. Windows are 3, and all APDUs have 50 octets.
use Rattle.std.specs.Prelude.{◌≡◌, ℕ, zero, suc, ◌+◌, ◌-◌, ◌<◌, ◌≤◌, true, false, List, [], ◌∷◌, ◌++◌, Some, None}
use Rattle.std.specs.List.{Contains}
use Rattle.bac_segment.specs.Pieces.{join}
use Rattle.bac_segment.specs.Window.{Outgoing}
use Rattle.bac_protocol.specs.declared.times.TheConstants.{T_OUT, DEADLINE}
use Rattle.bac_protocol.specs.Service.{Octets, Reply}
use Rattle.bac_protocol.specs.Service.Reply.{Complex}
use Rattle.bac_protocol.specs.Service.Ending.{Answered, Expired}
use Rattle.bac_protocol.specs.Client.{Ask, ClientTransaction, asked_ticket}
use Rattle.bac_protocol.specs.Log.{Fact}
use Rattle.bac_protocol.specs.Log.Fact.{Asked, Performed, Ended, Changed}
use Rattle.bac_protocol.specs.Transaction.{client_context}
use Rattle.bac_protocol.specs.Pace.{IsTimely, one_clock}
use Rattle.bac_protocol.specs.World.{World, Event, client_now, is_id_held, net_start, run, start}
use Rattle.bac_protocol.specs.World.Event.{MakeAsk, Deliver, Tick, Noise, Change}
use Rattle.bac_protocol.specs.Claims.{IsBounded}
use Rattle.bac_protocol.specs.Straight.{AreStraight}
use Rattle.bac_protocol.specs.Examples.{elapse, key, model, rules, tick, ask_append, append, position, position_apdu, zeros}
use Rattle.bac_liveness.specs.Runs.{Throughout, IsOnItsWay, HasWindows}
use Rattle.bac_liveness.specs.RoundTrip.{FitsInOne, CanPerform, HasPerformed, IsOpenInTime, request_to, segment_to}
use Rattle.bac_liveness.specs.Repeats.{PATIENCE, FindsServer}
use Rattle.bac_liveness.specs.Turns.{IsDue}
use Rattle.bac_liveness.specs.Stopped.{HasStopped}
use Rattle.bac_liveness.specs.AfterPast.{CanStill, IsTurn}

-- the world after these events, where node 1 answers each request of node 0 so
abbrev pub world : Reply → List Event → World ℕ
world p events = run ℕ (model p) (rules 3) events (start ℕ one_clock (λ node. 0) (λ node. 0))

-- an ask of one APDU, and one of two pieces; each is made at 0
abbrev pub whole_ask : Ask
whole_ask = record { first = 0; choice = 7; whole = true; pieces = append ∷ [] }

abbrev pub cut_ask : Ask
cut_ask = record { first = 0; choice = 7; whole = false; pieces = (0 ∷ []) ∷ (1 ∷ []) ∷ [] }

abbrev pub ask_two : Event
ask_two = MakeAsk key 7 false (0 ∷ []) ((1 ∷ []) ∷ [])

abbrev pub ticket_of : Ask → ClientTransaction
ticket_of ask = asked_ticket (client_context (rules 3) key 0) ask

-- a reply of two segments
abbrev pub long : Reply
long = Complex (zeros 60)

-- what the log says of ask 0
abbrev pub was_asked : Octets → Fact
was_asked octets = Asked 0 0 1 (record { choice = 7; service = octets })

abbrev pub was_performed : Octets → Reply → Fact
was_performed octets p = Performed 0 (record { choice = 7; service = octets }) p

-- Each ask ends.

-- nothing arrives, and the client's first tick comes at 60,001
pub record LateTick : Type 0 where
  pub bounded : IsBounded 3 (rules 3)
  pub timely : IsTimely one_clock
  pub ticket : (world position (ask_append ∷ [])).net.tickets key ≡ Some (ticket_of whole_ask)
  pub late : DEADLINE < client_now (world position (ask_append ∷ elapse 60001 ∷ [])).net key - 0
  pub client : Contains (key ∷ []) key
  pub ends : (world position (ask_append ∷ elapse 60001 ∷ Tick (key ∷ []) [] ∷ [])).net.log ≡ Ended 0 Expired ∷ was_asked append ∷ []

-- a tick at 58,000 sends the request again, which is performed; its answer arrives at 60,001
abbrev pub late_answer : List Event
late_answer = ask_append ∷ elapse 58000 ∷ tick ∷ Deliver 1 true ∷ elapse 2001 ∷ []

pub record LateAnswer : Type 0 where
  pub late : DEADLINE < client_now (world position late_answer).net key - 0
  pub answer : IsOnItsWay (rules 3) (world position late_answer).net key position_apdu 2
  pub ends : (world position (late_answer ++ Deliver 2 true ∷ [])).net.log
      ≡ Ended 0 Expired ∷ was_performed append position ∷ was_asked append ∷ []

-- One round trip suffices.

-- the first copy is late: the request is sent again at 3,000, and the second copy arrives
abbrev pub sent_twice : List Event
sent_twice = ask_append ∷ elapse 3000 ∷ tick ∷ []

-- then the first copy comes, and noise, the server's store changes, and the client's timer is due again; the answer to the second arrives at 6,000
abbrev pub performed_once : List Event
performed_once = sent_twice ++ Deliver 1 true ∷ Deliver 0 true ∷ Noise ∷ Change 1 (5 ∷ []) ∷ elapse 3000 ∷ tick ∷ []

pub record OneRoundTrip : Type 0 where
  pub ticket : (world position sent_twice).net.tickets key ≡ Some (record (ticket_of whole_ask) { repeats = 2; since = 3000 })
  pub fits : FitsInOne (rules 3) key whole_ask position
  pub performs : CanPerform ℕ (model position) (world position sent_twice) key whole_ask true position
  pub request : IsOnItsWay (rules 3) (world position sent_twice).net key (request_to (rules 3) key whole_ask) 1
  pub going : IsOpenInTime (world position performed_once).net key whole_ask
  pub answer : IsOnItsWay (rules 3) (world position performed_once).net key position_apdu 2
  pub ends : (world position (performed_once ++ Deliver 2 true ∷ [])).net.log
      ≡ Ended 0 (Answered position) ∷ Changed 1 (5 ∷ []) ∷ was_performed append position ∷ was_asked append ∷ []

-- the answer to the copy that was performed is lost; the next copy finds its reply kept
abbrev pub answer_lost : List Event
answer_lost = ask_append ∷ Deliver 0 true ∷ elapse 3000 ∷ tick ∷ []

pub record SecondRoundTrip : Type 0 where
  pub ticket : (world position answer_lost).net.tickets key ≡ Some (record (ticket_of whole_ask) { repeats = 2; since = 3000 })
  pub keeps : HasPerformed (rules 3) (world position answer_lost).net key whole_ask (Some (join whole_ask.pieces)) position
  pub request : IsOnItsWay (rules 3) (world position answer_lost).net key (request_to (rules 3) key whole_ask) 2
  pub ends : (world position (answer_lost ++ Deliver 2 true ∷ Deliver 3 true ∷ [])).net.log
      ≡ Ended 0 (Answered position) ∷ was_performed append position ∷ was_asked append ∷ []

-- a request of two segments was performed, and the last SegmentACK and the answer are lost; segment 1 is sent again at 2,000, and brings the answer
abbrev pub segment_again : List Event
segment_again = ask_two ∷ Deliver 0 true ∷ Deliver 1 true ∷ Deliver 2 true ∷ elapse 2000 ∷ tick ∷ []

pub record RoundTripOfSegment : Type 0 where
  pub windows : HasWindows (rules 3) key
  pub ask : (world position (ask_two ∷ [])).net.tickets key ≡ Some (ticket_of cut_ask)
  pub fits : FitsInOne (rules 3) key cut_ask position
  pub keeps : HasPerformed (rules 3) (world position segment_again).net key cut_ask None position
  pub request : IsOnItsWay (rules 3) (world position segment_again).net key (segment_to (rules 3) key cut_ask 1) 5
  pub going : IsOpenInTime (world position (segment_again ++ Deliver 5 true ∷ [])).net key cut_ask
  pub answer : IsOnItsWay (rules 3) (world position (segment_again ++ Deliver 5 true ∷ [])).net key position_apdu 6
  pub ends : (world position (segment_again ++ Deliver 5 true ∷ Deliver 6 true ∷ [])).net.log
      ≡ Ended 0 (Answered position) ∷ was_performed (0 ∷ 1 ∷ []) position ∷ was_asked (0 ∷ 1 ∷ []) ∷ []

-- Repeats suffice.

-- three sendings are lost; the fourth, at 9,000, gets through, and its answer arrives at 11,999
abbrev pub before_fourth : List Event
before_fourth = elapse 3000 ∷ tick ∷ elapse 3000 ∷ tick ∷ elapse 3000 ∷ tick ∷ []

abbrev pub until_answer : List Event
until_answer = before_fourth ++ Deliver 3 true ∷ elapse 2999 ∷ []

pub record FourthSending : Type 0 where
  pub free : is_id_held (net_start one_clock (λ node. 0)) key ≡ false
  pub ticket : (world position (ask_append ∷ elapse 3000 ∷ [])).net.tickets key ≡ Some (ticket_of whole_ask)
  pub due : T_OUT ≤ client_now (world position (ask_append ∷ elapse 3000 ∷ [])).net key - 0
  pub finds : Throughout ℕ (model position) (rules 3) (FindsServer ℕ (model position) (rules 3) key whole_ask) until_answer (world position (ask_append ∷ []))
  pub young : client_now (world position (ask_append ∷ until_answer)).net key < 0 + PATIENCE
  pub request : IsOnItsWay (rules 3) (world position (ask_append ∷ before_fourth)).net key (request_to (rules 3) key whole_ask) 3
  pub answer : IsOnItsWay (rules 3) (world position (ask_append ∷ until_answer)).net key position_apdu 4
  pub ends : (world position (ask_append ∷ until_answer ++ Deliver 4 true ∷ [])).net.log
      ≡ Ended 0 (Answered position) ∷ was_performed append position ∷ was_asked append ∷ []

-- One turn suffices.

-- two sendings are lost, and the next tick comes only at 40,000: it is due, with two repeats left
abbrev pub late_turn : List Event
late_turn = ask_append ∷ elapse 3000 ∷ tick ∷ elapse 37000 ∷ []

pub record LateTurn : Type 0 where
  pub ticket : (world position late_turn).net.tickets key ≡ Some (record (ticket_of whole_ask) { repeats = 2; since = 3000 })
  pub due : IsDue (client_now (world position late_turn).net key) (record (ticket_of whole_ask) { repeats = 2; since = 3000 })
  pub performs : CanPerform ℕ (model position) (world position late_turn) key whole_ask true position
  pub ends : (world position (late_turn ++ Tick (key ∷ []) [] ∷ Deliver 2 true ∷ Deliver 3 true ∷ [])).net.log
      ≡ Ended 0 (Answered position) ∷ was_performed append position ∷ was_asked append ∷ []

-- A stopped reply goes on.

-- segment 0 of a reply of two and its three repeats are lost, so that the transfer stops at 8,000; then the client's tick sends the request again
abbrev pub server_tick : Event
server_tick = Tick [] (key ∷ [])

abbrev pub stopped_reply : List Event
stopped_reply = ask_append ∷ Deliver 0 true ∷ elapse 2000 ∷ server_tick ∷ elapse 2000 ∷ server_tick ∷ elapse 2000 ∷ server_tick ∷ elapse 2000
    ∷ server_tick ∷ Tick (key ∷ []) [] ∷ []

pub record StoppedReply : Type 0 where
  pub out : Outgoing
  pub stopped : HasStopped (world long stopped_reply).net key (Some (join whole_ask.pieces)) out
  pub request : IsOnItsWay (rules 3) (world long stopped_reply).net key (request_to (rules 3) key whole_ask) 5
  pub ends : (world long (stopped_reply ++ Deliver 5 true ∷ Deliver 6 true ∷ Deliver 7 true ∷ Deliver 8 true ∷ [])).net.log
      ≡ Ended 0 (Answered long) ∷ was_performed append long ∷ was_asked append ∷ []

-- After any past.

-- a request of ten segments
abbrev pub ten : Octets
ten = 0 ∷ 1 ∷ 2 ∷ 3 ∷ 4 ∷ 5 ∷ 6 ∷ 7 ∷ 8 ∷ 9 ∷ []

abbrev pub ask_ten : Event
ask_ten = MakeAsk key 7 false (0 ∷ []) ((1 ∷ []) ∷ (2 ∷ []) ∷ (3 ∷ []) ∷ (4 ∷ []) ∷ (5 ∷ []) ∷ (6 ∷ []) ∷ (7 ∷ []) ∷ (8 ∷ []) ∷ (9 ∷ []) ∷ [])

-- segments 0 and 1 arrive, segments 2 and 3 are lost, and the client's timer is due
abbrev pub half_window : List Event
half_window = ask_ten ∷ Deliver 0 true ∷ Deliver 1 true ∷ Deliver 2 true ∷ elapse 2000 ∷ []

-- so many copies are delivered, each once, in order of sending
abbrev pub deliveries : (number count : ℕ) → List Event
deliveries number zero = []
deliveries number (suc count) = Deliver number true ∷ deliveries (suc number) count

-- its tick sends segments 1 to 3 again; segment 1 gets a negative SegmentACK, so that 24 deliveries are needed, where a run without losses
-- takes 15
pub record HalfWindow : Type 0 where
  pub ticket : ClientTransaction
  pub is : (world position half_window).net.tickets key ≡ Some ticket
  pub straight : AreStraight (rules 3) key
  pub can : CanStill ℕ (model position) (rules 3) (world position half_window) key ticket position
  pub turn : IsTurn ℕ (world position half_window) key ticket (key ∷ []) []
  pub not_yet : (world position (half_window ++ Tick (key ∷ []) [] ∷ deliveries 5 23)).net.log ≡ was_performed ten position ∷ was_asked ten ∷ []
  pub ends : (world position (half_window ++ Tick (key ∷ []) [] ∷ deliveries 5 24)).net.log
      ≡ Ended 0 (Answered position) ∷ was_performed ten position ∷ was_asked ten ∷ []
