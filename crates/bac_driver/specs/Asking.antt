-- A bound node asks, and takes turns until the transaction of its ticket has ended.
use Rattle.std.specs.Prelude.{◌≡◌, ◌⊎◌, ◌<◌, ◌≤◌, ◌++◌, ◌==◌, ◌≢◌, ℕ, List, [], ◌∷◌, length, if◌then◌else◌, Option, Some, None}
use Rattle.bac_npdu.specs.Peers.{PeerView}
use Rattle.bac_apdu.specs.Apdu.{Limits}
use Rattle.bac_service.specs.Values.{Request}
use Rattle.bac_requester.specs.declared.ask_fault.AskFault.{AskFault}
use Rattle.bac_requester.specs.declared.ask_fault.AskFault.TheVariants as ask_fault
use Rattle.bac_transaction.specs.Ends.{Accepted}
use Rattle.bac_transaction.specs.Meanings.{Ending, EndedView}
use Rattle.bac_transaction.specs.Sends.{Datagram}
use Rattle.bac_world.specs.Node.{NodeAsks}
use Rattle.bac_node.specs.Calls.{Refuses}
use Rattle.bac_driver.specs.Moments.{with_moment}
use Rattle.bac_requester.specs.TransactionViews.{ending_view}
use Rattle.bac_requester.specs.declared.ending.Ending as how
use Rattle.bac_driver.specs.BoundNodes.{BoundNode}
use Rattle.bac_driver.specs.Turns.{IsCarried, Turn, ended_of}
use Rattle.bac_driver.specs.Runs.{CannotReceive, GoesBack, Run, Timed}
use Rattle.bac_driver.specs.Serving.{IsOver, TakesEarlyTurn}
use Rattle.bac_driver.specs.declared.fault.TurnFault.{TurnFault}
use Rattle.bac_driver.specs.declared.fault.TurnFault.TheVariants as fault
use Rattle.bac_driver.specs.declared.wait_limit.WaitLimit.{WaitLimit}
use Rattle.bac_driver.specs.declared.question.AskEnd.{AskEnd}
use Rattle.bac_driver.specs.declared.question.AskEnd.TheVariants as end

-- whom a node asks, what that peer takes, and for what
pub record Question : Type 0 where
  pub peer : PeerView
  pub limits : Limits
  pub request : Request

-- ---- the ask

-- the ask was accepted at that moment, and what it sends went to the link
pub record IsBegun (now : ℕ) (q : Question) (old : BoundNode) (ticket : ℕ) (new : BoundNode) : Type 0 where
  pub accepted : Accepted
  pub sends : List Datagram
  pub asks : NodeAsks now q.peer q.limits q.request old.node new.node accepted sends
  pub ticket_is : ticket ≡ accepted.ticket
  pub lost : ℕ
  pub carried : IsCarried sends lost old new
  pub buffer : new.buffer ≡ old.buffer
  pub rules : new.rules ≡ old.rules

-- the same at the moment of the clock
pub record Asks (q : Question) (old : Timed) (ticket : ℕ) (new : Timed) : Type 0 where
  pub now : ℕ
  pub told : new.told ≡ with_moment old.told now
  pub timely : old.bound_node.node.latest ≤ now
  pub begun : IsBegun now q old.bound_node ticket new.bound_node

-- the node refused it at that moment, and nothing else has changed; a clock that goes back is no refusal
pub record IsRefused (q : Question) (why : AskFault) (old new : Timed) : Type 0 where
  pub now : ℕ
  pub told : new.told ≡ with_moment old.told now
  pub timely : old.bound_node.node.latest ≤ now
  pub other : why ≢ ask_fault.ClockBack
  pub refuses : Refuses why now q.peer q.limits q.request old.bound_node.node
  pub same : new.bound_node ≡ old.bound_node

-- ---- the turns

-- how a ticket ended, if it did
abbrev pub ending_of : (ticket : ℕ) → List EndedView → Option Ending
ending_of ticket [] = None
ending_of ticket (f ∷ fs) = if f.ticket == ticket then Some f.how else ending_of ticket fs

-- by the datagram of a turn, or by its tick
abbrev pub ending_in : (ticket : ℕ) → Turn → Option Ending
ending_in ticket turn = ending_of ticket (ended_of turn.heard ++ ended_of turn.ticked)

-- What follows is about the steps after an ask, each with what it returned, and the turn of the node which asked.

-- none of these steps ended the ticket
abbrev pub NoneEnds : {T : Type 0} → (turn_in : T → Turn) → (ticket : ℕ) → List T → Type 0
NoneEnds turn_in ticket [] = Unit {0}
NoneEnds turn_in ticket (given ∷ before) = (ending_in ticket (turn_in given) ≡ None) × NoneEnds turn_in ticket before

-- these steps were taken, and none of them ended the ticket
pub record StaysOpen {S T : Type 0} (step : S → T → S → Type 0) (turn_in : T → Turn) (ticket : ℕ) (taken : List T) (old new : S) : Type 0 where
  pub run : Run step taken old new
  pub none_ended : NoneEnds turn_in ticket taken

-- a step ended the ticket, so; fewer steps than so many were taken before
pub record EndsIn {S T : Type 0} (step : S → T → S → Type 0) (turn_in : T → Turn) (turns : ℕ) (how : Ending) (ticket : ℕ) (old new : S) : Type 0 where
  pub taken : List T
  pub fewer : length taken < turns
  pub middle : S
  pub stays : StaysOpen step turn_in ticket taken old middle
  pub last : T
  pub steps : step middle last new
  pub ended : ending_in ticket (turn_in last) ≡ Some how

-- so many steps were taken, and none ended the ticket
pub record NeverEnds {S T : Type 0} (step : S → T → S → Type 0) (turn_in : T → Turn) (turns ticket : ℕ) (old new : S) : Type 0 where
  pub taken : List T
  pub all : length taken ≡ turns
  pub stays : StaysOpen step turn_in ticket taken old new

-- after fewer steps than so many, none of which ended the ticket, this happened
pub record Stops {S T : Type 0} (step : S → T → S → Type 0) (turn_in : T → Turn) (turns : ℕ) (fails : S → S → Type 0) (ticket : ℕ) (old new : S) : Type 0 where
  pub taken : List T
  pub fewer : length taken < turns
  pub middle : S
  pub stays : StaysOpen step turn_in ticket taken old middle
  pub failed : fails middle new

-- the ticket was waited for: it ended, so, or all steps were taken
abbrev pub Waits : {S T : Type 0} → (step : S → T → S → Type 0) → (turn_in : T → Turn) → (turns ticket : ℕ) → (old new : S) → Option how.Ending → Type 0
Waits step turn_in turns ticket old new None = NeverEnds step turn_in turns ticket old new
Waits step turn_in turns ticket old new (Some how) = EndsIn step turn_in turns (ending_view how) ticket old new

-- an ask began, and then this came of its ticket
pub record Begins {S : Type 0} (begins : S → ℕ → S → Type 0) (rest : ℕ → S → S → Type 0) (old new : S) : Type 0 where
  pub ticket : ℕ
  pub asked : S
  pub begun : begins old ticket asked
  pub rest_is : rest ticket asked new

-- ---- one bound node, whose turns begin in time

abbrev pub own_turn : Turn → Turn
own_turn turn = turn

-- after such turns, none of which ended the ticket, this happened
abbrev pub StopsSo : WaitLimit → (turns : ℕ) → (fails : Timed → Timed → Type 0) → (ticket : ℕ) → (old new : Timed) → Type 0
StopsSo p turns fails ticket old new = Stops (TakesEarlyTurn p) own_turn turns fails ticket old new

-- a turn ended the ticket, so
abbrev pub EndsSo : WaitLimit → (turns : ℕ) → (how : Ending) → (ticket : ℕ) → (old new : Timed) → Type 0
EndsSo p turns how ticket old new = EndsIn (TakesEarlyTurn p) own_turn turns how ticket old new

-- none did: so many were taken, or the time was over before
abbrev pub StaysSo : WaitLimit → (turns ticket : ℕ) → (old new : Timed) → Type 0
StaysSo p turns ticket old new = NeverEnds (TakesEarlyTurn p) own_turn turns ticket old new ⊎ StopsSo p turns (IsOver p) ticket old new

-- the ticket was waited for
abbrev pub WaitsSo : WaitLimit → (turns ticket : ℕ) → (old new : Timed) → Option how.Ending → Type 0
WaitsSo p turns ticket old new None = StaysSo p turns ticket old new
WaitsSo p turns ticket old new (Some how) = EndsSo p turns (ending_view how) ticket old new

-- why waiting stopped
abbrev pub WaitingFails : TurnFault → WaitLimit → (turns ticket : ℕ) → (old new : Timed) → Type 0
WaitingFails fault.Link p turns ticket old new = StopsSo p turns CannotReceive ticket old new
WaitingFails fault.ClockBack p turns ticket old new = StopsSo p turns GoesBack ticket old new

-- how asking ended
abbrev pub AskingEnds : Question → AskEnd → WaitLimit → (turns : ℕ) → (old new : Timed) → Type 0
AskingEnds q (end.Ended how) p turns old new = Begins (Asks q) (EndsSo p turns (ending_view how)) old new
AskingEnds q (end.Refused why) p turns old new = IsRefused q why old new
AskingEnds q end.NoEnding p turns old new = Begins (Asks q) (StaysSo p turns) old new

-- why asking stopped
abbrev pub AskingFails : Question → TurnFault → WaitLimit → (turns : ℕ) → (old new : Timed) → Type 0
AskingFails q fault.Link p turns old new = Begins (Asks q) (StopsSo p turns CannotReceive) old new
AskingFails q fault.ClockBack p turns old new = GoesBack old new ⊎ Begins (Asks q) (StopsSo p turns GoesBack) old new
