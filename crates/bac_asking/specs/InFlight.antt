-- What `ask --lines --window` asks and prints: the requests of some lines, several at once.
use Rattle.std.specs.Prelude.{◌≡◌, ◌⊎◌, ℕ, zero, suc, ◌+◌, ◌==◌, ◌<◌, ◌≤◌, ◌++◌, max, Bool, true, false, ◌&&◌, List, [], ◌∷◌, length, if◌then◌else◌, Option, Some, None, Result, Ok, Err}
use Rattle.std.specs.Prelude.{count_by, map, nat_lt, position, slice_get, slice_set}
use Rattle.std.specs.List.{find, remove}
use Rattle.std.specs.Option.{is_none, option_map}
use Rattle.std.specs.Ordering.{eq_by_cmp, on}
use Rattle.bac_npdu.specs.Peers.{peer_cmp}
use Rattle.bac_npdu.specs.Views.{peer_view}
use Rattle.bac_npdu.specs.declared.peer.Peer.{Peer}
use Rattle.bac_driver.specs.BoundNodes.{BoundNode}
use Rattle.bac_driver.specs.Moments.{with_moment}
use Rattle.bac_node.specs.declared.outcome.Outcome.{Outcome}
use Rattle.bac_requester.specs.declared.ask_fault.AskFault.{AskFault}
use Rattle.bac_requester.specs.declared.reaction.Ended.{Ended}
use Rattle.bac_driver.specs.Asking as run
use Rattle.bac_driver.specs.Asking.{Question}
use Rattle.bac_driver.specs.Runs.{Run, Timed, timed}
use Rattle.bac_driver.specs.Serving.{IsOver, TakesEarlyTurn}
use Rattle.bac_driver.specs.Views.{question_view, turn_view}
use Rattle.bac_driver.specs.declared.fault.TurnFault.{TurnFault}
use Rattle.bac_driver.specs.declared.wait_limit.WaitLimit.{WaitLimit}
use Rattle.bac_driver.specs.declared.question.AskEnd.{AskEnd}
use Rattle.bac_driver.specs.declared.question.AskEnd.TheVariants as end
use Rattle.bac_driver.specs.declared.turn.Turn.{Turn}
use Rattle.bac_commands.specs.Spent.{is_spent}
use Rattle.bac_commands.specs.declared.online.output_format.OutputFormat.{OutputFormat}
use Rattle.bac_environment.specs.QuestionLines.{asker_of}
use Rattle.bac_asking.specs.AskedLines.{AsksEach, PrintsFront}
use Rattle.bac_asking.specs.Asking.{patience_for}
use Rattle.bac_asking.specs.Clients.{HasAskedLong, IsRenewed}
use Rattle.bac_asking.specs.Fleets.{Fleet, Leaving, MOST_LEAVING, NEW_FLEET, next_fleet}
use Rattle.bac_environment.specs.Sockets.{Links}
use Rattle.bac_asking.specs.Recording.{PrintsAsk}
use Rattle.bac_asking.specs.Rounds.{DoesNothing, Doing}
use Rattle.bac_asking.specs.declared.asking.Asking.{Asking}
use Rattle.bac_asking.specs.declared.flights.Begun.{Begun}
use Rattle.bac_asking.specs.declared.flights.Begun.TheVariants as begun
use Rattle.bac_asking.specs.declared.flights.Flight.{Flight}
use Rattle.bac_asking.specs.declared.flights.Flights as code
use Rattle.bac_asking.specs.declared.flights.Waiting.{Waiting}
use Rattle.bac_environment.specs.declared.question_lines.LineQuestion.{LineQuestion}
use Rattle.bac_asking.specs.declared.recording.RecordForm.{RecordForm}
use Rattle.bac_asking.specs.declared.window.Plan as code_plan

-- ---- the asks of the lines of a list

-- the lines whose asks have not begun, the asks that are under way, and how the ask of each line has ended, by its place, until that is printed
pub record Sky : Type 0 where
  pub waiting : List Waiting
  pub flights : List Flight
  pub ends : List (Option AskEnd)

abbrev pub sky : code.Flights → Sky
sky f = record { waiting = f.waiting.items; flights = f.under_way.items; ends = f.ends.items }

-- lines of which the first has that place
abbrev pub waiting_from : (place : ℕ) → List LineQuestion → List Waiting
waiting_from place [] = []
waiting_from place (line ∷ lines) = record { place = place; peer = line.question.peer } ∷ waiting_from (place + 1) lines

abbrev pub no_end : LineQuestion → Option AskEnd
no_end line = None

-- all wait
abbrev pub new_sky : List LineQuestion → Sky
new_sky lines = record { waiting = waiting_from 0 lines; flights = []; ends = map no_end lines }

abbrev pub IsNewSky : List LineQuestion → Sky → Type 0
IsNewSky lines s = s ≡ new_sky lines

-- the node of that number was asked
abbrev pub is_on : (node : ℕ) → Flight → Bool
is_on node f = f.node == node

-- tickets are apart within one node alone
abbrev pub has_ticket : (node ticket : ℕ) → Flight → Bool
has_ticket node wanted f = (f.node == node) && (f.ticket == wanted)

abbrev pub is_of : Peer → Flight → Bool
is_of peer f = on peer_view (eq_by_cmp peer_cmp) f.line.peer peer

-- fewer than so many asks of its peer are under way, or none
abbrev pub may_begin : (share : ℕ) → List Flight → Waiting → Bool
may_begin share flights w = nat_lt (count_by (is_of w.peer) flights) (max share 1)

-- how the ask of the line at that place has ended
abbrev pub with_end : (place : ℕ) → AskEnd → Sky → Sky
with_end place how s = record s { ends = slice_set s.ends place (Some how) }

-- one that is under way is over
abbrev pub closed_flight : Option Flight → (at : ℕ) → AskEnd → Sky → Sky
closed_flight None at how s = s
closed_flight (Some f) at how s = with_end f.line.place how (record s { flights = remove s.flights at })

abbrev pub closed : (at : ℕ) → AskEnd → Sky → Sky
closed at how s = closed_flight (slice_get s.flights at) at how s

abbrev pub closed_at : Option ℕ → AskEnd → Sky → Sky
closed_at None how s = s
closed_at (Some at) how s = closed at how s

-- the ask whose ticket has ended at that node is over
abbrev pub noted : (node : ℕ) → Ended → Sky → Sky
noted node f s = closed_at (position (has_ticket node f.ticket) s.flights) (end.Ended f.ending) s

abbrev pub all_noted : (node : ℕ) → List Ended → Sky → Sky
all_noted node [] s = s
all_noted node (f ∷ more) s = all_noted node more (noted node f s)

-- the first ask of that node is waited for no longer
abbrev pub given_up : (node : ℕ) → Sky → Sky
given_up node s = closed_at (position (is_on node) s.flights) end.NoEnding s

-- the tickets that a step of a turn ended
abbrev pub ended_in : Option Outcome → List Ended
ended_in None = []
ended_in (Some o) = o.ended.items

-- what comes of a turn of that node, or of a moment that was too late for one
abbrev pub turn_noted : (node : ℕ) → Option Turn → Sky → Sky
turn_noted node None s = given_up node s
turn_noted node (Some turn) s = all_noted node (ended_in turn.ticked) (all_noted node (ended_in turn.heard) s)

-- a turn that failed is not noted
abbrev pub IsNoted : (node : ℕ) → Result (Option Turn) TurnFault → (old new : Sky) → Type 0
IsNoted node (Ok turn) old new = new ≡ turn_noted node turn old
IsNoted node (Err fault) old new = ⊥

abbrev pub patience_of : Flight → WaitLimit
patience_of f = f.wait_limit

-- how long the first ask of that node is waited for
abbrev pub first_patience : (node : ℕ) → List Flight → Option WaitLimit
first_patience node flights = option_map patience_of (find (is_on node) flights)

-- none of that node is under way
abbrev pub is_idle : (node : ℕ) → List Flight → Bool
is_idle node flights = is_none (first_patience node flights)

-- the ask of a line that waits is under way at that node
pub record AddsFlight (at node ticket : ℕ) (wait_limit : WaitLimit) (old new : Sky) : Type 0 where
  pub line : Waiting
  pub is : slice_get old.waiting at ≡ Some line
  pub waiting : new.waiting ≡ remove old.waiting at
  pub flights : new.flights ≡ old.flights ++ record { line = line; node = node; ticket = ticket; wait_limit = wait_limit } ∷ []
  pub ends : new.ends ≡ old.ends

-- it has ended before it began
pub record EndsWaiting (at : ℕ) (how : AskEnd) (old new : Sky) : Type 0 where
  pub line : Waiting
  pub is : slice_get old.waiting at ≡ Some line
  pub waiting : new.waiting ≡ remove old.waiting at
  pub flights : new.flights ≡ old.flights
  pub ends : new.ends ≡ slice_set old.ends line.place (Some how)

-- it was there, and is kept no longer
pub record IsTaken (place : ℕ) (how : AskEnd) (old new : Sky) : Type 0 where
  pub ended : slice_get old.ends place ≡ Some (Some how)
  pub is : new ≡ record old { ends = slice_set old.ends place None }

abbrev pub TakesEnd : (place : ℕ) → Option AskEnd → (old new : Sky) → Type 0
TakesEnd place None old new = new ≡ old
TakesEnd place (Some how) old new = IsTaken place how old new

-- ---- an ask begins

-- it was accepted, and is waited for as from that moment on; or refused
abbrev pub IsBegun : (timeout : Option ℕ) → (start : ℕ) → Question → Begun → (old new : Timed) → Type 0
IsBegun timeout start q (begun.Accepted ticket wait_limit) old new = (wait_limit ≡ patience_for timeout start) × run.Asks q old ticket new
IsBegun timeout start q (begun.Refused why) old new = run.IsRefused q why old new

-- the node was asked to begin, once the clock had printed that moment
pub record BeginsAsk (asking : Asking) (q : Question) (b : Begun) (before after : Timed) : Type 0 where
  pub start : ℕ
  pub begun : IsBegun asking.timeout start q b (timed before.bound_node (with_moment before.told start)) after

-- the node had no invoke ID or no slot left for it
abbrev pub begins_spent : Begun → Bool
begins_spent (begun.Accepted ticket wait_limit) = false
begins_spent (begun.Refused why) = is_spent why

pub record FindsSpent (asking : Asking) (q : Question) (before after : Timed) : Type 0 where
  pub refusal : Begun
  pub spent : begins_spent refusal ≡ true
  pub refuses : BeginsAsk asking q refusal before after

-- or it had asked for 30 seconds, so it was not asked
abbrev pub IsPassedOver : Asking → Question → (before after : Timed) → Type 0
IsPassedOver asking q before after = HasAskedLong before after ⊎ FindsSpent asking q before after

-- it had something left for it
pub record BeginsSo (asking : Asking) (q : Question) (b : Begun) (before after : Timed) : Type 0 where
  pub free : begins_spent b ≡ false
  pub begins : BeginsAsk asking q b before after

-- None where it is passed over
abbrev pub TriesToBegin : Asking → Question → Option Begun → (before after : Timed) → Type 0
TriesToBegin asking q None before after = IsPassedOver asking q before after
TriesToBegin asking q (Some b) before after = BeginsSo asking q b before after

-- the next node was asked to begin; the one before leaves, where asks of it are under way
pub record BeginsThere (IsOn : Links) (asking : Asking) (q : Question) (is_idle : Bool) (b : Begun) (before after : Timed) (old new : Fleet) : Type 0 where
  pub room : is_idle ≡ false → length old.leaving < MOST_LEAVING
  pub fresh : Timed
  pub renewed : IsRenewed IsOn before fresh
  pub fleet : new ≡ next_fleet is_idle before.bound_node old
  pub begins : BeginsAsk asking q b fresh after

-- asks of the node that asks are under way, and as many nodes leave as may, so nothing was done
pub record MayNotLeave (is_idle : Bool) (before after : Timed) (old new : Fleet) : Type 0 where
  pub busy : is_idle ≡ false
  pub full : MOST_LEAVING ≤ length old.leaving
  pub still : after ≡ before
  pub same : new ≡ old

-- None where it may not leave
abbrev pub BeginsNext : Links → Asking → Question → (is_idle : Bool) → Option Begun → (before after : Timed) → (old new : Fleet) → Type 0
BeginsNext IsOn asking q is_idle None before after old new = MayNotLeave is_idle before after old new
BeginsNext IsOn asking q is_idle (Some b) before after old new = BeginsThere IsOn asking q is_idle b before after old new

-- the node was passed over, and the next one was asked to begin
pub record BeginsAnew (IsOn : Links) (asking : Asking) (q : Question) (is_idle : Bool) (b : Begun) (before after : Timed) (old new : Fleet) : Type 0 where
  pub passed : Timed
  pub passes : IsPassedOver asking q before passed
  pub there : BeginsThere IsOn asking q is_idle b passed after old new

-- the node that asks was asked to begin
pub record BeginsHere (asking : Asking) (q : Question) (b : Begun) (before after : Timed) (old new : Fleet) : Type 0 where
  pub begins : BeginsAsk asking q b before after
  pub same : new ≡ old

-- an ask began at the node that asks, or, where that is passed over, at the next one, which has something left for it
pub record BeginsFree (IsOn : Links) (asking : Asking) (q : Question) (is_idle : Bool) (b : Begun) (before after : Timed) (old new : Fleet) : Type 0 where
  pub free : begins_spent b ≡ false
  pub begins : BeginsHere asking q b before after old new ⊎ BeginsAnew IsOn asking q is_idle b before after old new

-- the node that asks is passed over, asks of it are under way, and as many nodes leave as may
pub record IsHeld (asking : Asking) (q : Question) (is_idle : Bool) (before after : Timed) (old new : Fleet) : Type 0 where
  pub busy : is_idle ≡ false
  pub full : MOST_LEAVING ≤ length old.leaving
  pub passes : IsPassedOver asking q before after
  pub same : new ≡ old

-- None where it is held
abbrev pub BeginsOn : Links → Asking → Question → (is_idle : Bool) → Option Begun → (before after : Timed) → (old new : Fleet) → Type 0
BeginsOn IsOn asking q is_idle None before after old new = IsHeld asking q is_idle before after old new
BeginsOn IsOn asking q is_idle (Some b) before after old new = BeginsFree IsOn asking q is_idle b before after old new

-- ---- what happens until the ask of a line has ended

-- what is asked: these lines, so many at once, and so many of one peer
pub record Plan : Type 0 where
  pub asking : Asking
  pub lines : List LineQuestion
  pub window : ℕ
  pub share : ℕ

abbrev pub plan_view : code_plan.Plan → Plan
plan_view p = record { asking = p.asking.now; lines = p.lines.now; window = p.window; share = p.share }

-- what the node that asks has become, what the clock has printed, the number of that node and the nodes that leave, and the asks of the lines
pub record Aloft : Type 0 where
  pub at : Timed
  pub fleet : Fleet
  pub sky : Sky

abbrev pub aloft : Timed → Fleet → Sky → Aloft
aloft at f s = record { at = at; fleet = f; sky = s }

-- what comes of a line that waits, of which a node was asked
abbrev pub IsTakenUp : (at node : ℕ) → Begun → (old new : Sky) → Type 0
IsTakenUp at node (begun.Accepted ticket wait_limit) old new = AddsFlight at node ticket wait_limit old new
IsTakenUp at node (begun.Refused why) old new = EndsWaiting at (end.Refused why) old new

-- the ask of a line that waits began: there was room for it, and for one more of its peer
pub record BeginsLine (IsOn : Links) (plan : Plan) (place : ℕ) (old new : Aloft) : Type 0 where
  pub room : length old.sky.flights < max plan.window 1
  pub at : ℕ
  pub waiting : Waiting
  pub is : slice_get old.sky.waiting at ≡ Some waiting
  pub share : may_begin plan.share old.sky.flights waiting ≡ true
  pub same : waiting.place ≡ place
  pub line : LineQuestion
  pub line_is : slice_get plan.lines place ≡ Some line
  pub begun : Begun
  pub begins :
      BeginsOn IsOn plan.asking (question_view line.question) (is_idle old.fleet.number old.sky.flights) (Some begun) old.at new.at old.fleet new.fleet
  pub taken : IsTakenUp at new.fleet.number begun old.sky new.sky

-- the node was passed over for a line, some of its asks were under way, and as many nodes left as may: the line waits on
pub record HoldsLine (IsOn : Links) (plan : Plan) (place : ℕ) (old new : Aloft) : Type 0 where
  pub line : LineQuestion
  pub line_is : slice_get plan.lines place ≡ Some line
  pub holds :
      BeginsOn IsOn plan.asking (question_view line.question) (is_idle old.fleet.number old.sky.flights) None old.at new.at old.fleet new.fleet
  pub same : new.sky ≡ old.sky

-- a turn of that node was taken, and how tickets ended in it was noted
pub record TakesTurn (node : ℕ) (p : WaitLimit) (before after : Timed) (old new : Sky) : Type 0 where
  pub turn : Turn
  pub takes : TakesEarlyTurn p before (turn_view turn) after
  pub noted : new ≡ turn_noted node (Some turn) old

-- or no time was left for its first ask
pub record GivesUp (node : ℕ) (p : WaitLimit) (before after : Timed) (old new : Sky) : Type 0 where
  pub over : IsOver p before after
  pub closed : new ≡ turn_noted node None old

-- a turn that waits no longer than another, and not past the same moment
pub record IsWithin (p q : WaitLimit) : Type 0 where
  pub wait : p.wait ≤ q.wait
  pub until : p.until ≡ q.until

-- a node goes on, as long as its first ask is waited for
pub record NodeGoesOn (node : ℕ) (p : WaitLimit) (before after : Timed) (old new : Sky) : Type 0 where
  pub first : WaitLimit
  pub is : first_patience node old.flights ≡ Some first
  pub within : IsWithin p first
  pub went : TakesTurn node p before after old new ⊎ GivesUp node p before after old new

-- the node that asks does; while no node leaves, its turns wait as long as its first ask is waited for
pub record GoesOn (p : WaitLimit) (old new : Aloft) : Type 0 where
  pub goes : NodeGoesOn old.fleet.number p old.at new.at old.sky new.sky
  pub alone : old.fleet.leaving ≡ [] → first_patience old.fleet.number old.sky.flights ≡ Some p
  pub same : new.fleet ≡ old.fleet

-- a node that leaves does, beside the clock of the one that asks, which stays
pub record LeavingGoesOn (node : ℕ) (p : WaitLimit) (old new : Aloft) : Type 0 where
  pub at : ℕ
  pub leaving : Leaving
  pub is : slice_get old.fleet.leaving at ≡ Some leaving
  pub same : leaving.number ≡ node
  pub bound_node : BoundNode
  pub goes : NodeGoesOn node p (timed leaving.bound_node old.at.told) (timed bound_node new.at.told) old.sky new.sky
  pub fleet : new.fleet ≡ record old.fleet { leaving = slice_set old.fleet.leaving at (record { number = node; bound_node = bound_node }) }
  pub stays : new.at.bound_node ≡ old.at.bound_node

-- a node that leaves is given up: none of its asks is under way
pub record Leaves (node : ℕ) (old new : Aloft) : Type 0 where
  pub at : ℕ
  pub leaving : Leaving
  pub is : slice_get old.fleet.leaving at ≡ Some leaving
  pub same : leaving.number ≡ node
  pub idle : is_idle node old.sky.flights ≡ true
  pub fleet : new.fleet ≡ record old.fleet { leaving = remove old.fleet.leaving at }
  pub others : (new.at ≡ old.at) × (new.sky ≡ old.sky)

-- what can happen: the ask of the line at a place began, or had to wait; the node that asks went on, or one that leaves; or such a one was given up
pub data Event : Type 0 where
  Began : (place : ℕ) → Event
  Held : (place : ℕ) → Event
  WentOn : (p : WaitLimit) → Event
  LeavingWentOn : (node : ℕ) (p : WaitLimit) → Event
  Left : (node : ℕ) → Event

abbrev pub Happens : Links → Plan → Aloft → Event → Aloft → Type 0
Happens IsOn plan old (Began place) new = BeginsLine IsOn plan place old new
Happens IsOn plan old (Held place) new = HoldsLine IsOn plan place old new
Happens IsOn plan old (WentOn p) new = GoesOn p old new
Happens IsOn plan old (LeavingWentOn node p) new = LeavingGoesOn node p old new
Happens IsOn plan old (Left node) new = Leaves node old new

-- how often the ask of a line began
abbrev pub here : (place at : ℕ) → ℕ
here place at = if at == place then 1 else 0

abbrev pub asks_in : (place : ℕ) → List Event → ℕ
asks_in place [] = 0
asks_in place (Began at ∷ events) = here place at + asks_in place events
asks_in place (Held at ∷ events) = asks_in place events
asks_in place (WentOn p ∷ events) = asks_in place events
asks_in place (LeavingWentOn node p ∷ events) = asks_in place events
asks_in place (Left node ∷ events) = asks_in place events

-- these happened, one after the other
pub record Goes (IsOn : Links) (plan : Plan) (old new : Aloft) : Type 0 where
  pub events : List Event
  pub run : Run (Happens IsOn plan) events old new

-- nodes went on, whatever is asked
abbrev pub NodesGo : Links → (old new : Aloft) → Type 0
NodesGo IsOn old new = (plan : Plan) → Goes IsOn plan old new

-- they happened until the ask of the line at that place had ended, so
pub record EndsLine (IsOn : Links) (plan : Plan) (place : ℕ) (how : AskEnd) (old new : Aloft) : Type 0 where
  pub ended : Aloft
  pub goes : Goes IsOn plan old ended
  pub taken : IsTaken place how ended.sky new.sky
  pub same : new.at ≡ ended.at
  pub fleet : new.fleet ≡ ended.fleet

-- ---- how it is printed

-- how the ask of a line ended was printed behind the line's number; whether it succeeded
pub record PrintsLine (asking : Asking) (line : LineQuestion) (end : AskEnd) (succeeded : Bool) (old new : Option (List ℕ)) :
    Type 0 where
  pub between : Option (List ℕ)
  pub fronted : PrintsFront asking.records line old between
  pub told : PrintsAsk asking.records asking.output_format (asker_of asking.has_names line) (question_view line.question) end succeeded between new

-- ---- all lines

-- the ask of the line at that place ended and was printed
pub record TellsLine (IsOn : Links) (plan : Plan) (place : ℕ) (succeeded : Bool) (before after : Aloft) (old new : Option (List ℕ)) : Type 0 where
  pub line : LineQuestion
  pub line_is : slice_get plan.lines place ≡ Some line
  pub how : AskEnd
  pub ends : EndsLine IsOn plan place how before after
  pub tells : PrintsLine plan.asking line how succeeded old new

-- what is left to be asked and printed, and what happens until then
abbrev pub Printing : Type 1
Printing = (events : List Event) → (all : Bool) → (before : Aloft) → (after : Timed) → (old new : Option (List ℕ)) → Type 0

-- the line at that place was printed; and then the others
pub record PrintsNext (IsOn : Links) (plan : Plan) (place : ℕ) (Others : Printing) (events : List Event) (all : Bool) (before : Aloft) (after : Timed)
    (old new : Option (List ℕ)) : Type 0 where
  pub succeeded : Bool
  pub middle : Aloft
  pub between : Option (List ℕ)
  pub first : TellsLine IsOn plan place succeeded before middle old between
  pub later : List Event
  pub rest : Bool
  pub others : Others later rest middle after between new
  pub are : events ≡ later ++ first.ends.goes.events
  pub is : all ≡ succeeded && rest

-- so many lines, of which the first has that place
abbrev pub PrintsFrom : Links → Plan → (place count : ℕ) → Printing
PrintsFrom IsOn plan place zero events all before after old new = (events ≡ []) × DoesNothing all before.at after old new
PrintsFrom IsOn plan place (suc count) events all before after old new =
    PrintsNext IsOn plan place (PrintsFrom IsOn plan (place + 1) count) events all before after old new

-- the requests of lines were asked, so many at once, each of them once, and printed in order
pub record AsksAhead (IsOn : Links) (asking : Asking) (window : ℕ) (lines : List LineQuestion) (all : Bool) (before after : Timed) (old new : Option (List ℕ)) :
    Type 0 where
  pub share : ℕ
  pub events : List Event
  pub prints :
      PrintsFrom IsOn (record { asking = asking; lines = lines; window = window; share = share }) 0 (length lines) events all
      (aloft before NEW_FLEET (new_sky lines)) after old new
  pub once : (place : ℕ) → place < length lines → asks_in place events ≡ 1

-- so many at once as is wanted; without it one after the other
abbrev pub AsksLinesBy : (window : Option ℕ) → Links → Asking → List LineQuestion → Doing
AsksLinesBy None IsOn asking lines all before after old new = AsksEach IsOn asking lines all before after old new
AsksLinesBy (Some window) IsOn asking lines all before after old new = AsksAhead IsOn asking window lines all before after old new

abbrev pub AsksLines : Links → Asking → List LineQuestion → Doing
AsksLines IsOn asking lines all before after old new = AsksLinesBy asking.window IsOn asking lines all before after old new
