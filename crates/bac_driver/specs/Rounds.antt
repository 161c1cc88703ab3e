-- A round of a node whose store is kept: turns whose sends are held, then what they changed is kept, and then all that they send leaves.
use Rattle.std.specs.Prelude.{◌≡◌, ◌⊎◌, ◌<◌, ◌≤◌, ◌+◌, ◌^◌, ◌-◌, ◌&&◌, ◌||◌, not, min, max, ℕ, Bool, true, false}
use Rattle.std.specs.Prelude.{List, [], ◌∷◌, ◌++◌, length, Option, Some, None}
use Rattle.bac_service.specs.Choices.{is_read_choice}
use Rattle.bac_service.specs.Values.{Request, choice_of}
use Rattle.bac_store.specs.Changes.{is_done}
use Rattle.bac_store.specs.Replies.{reply_to}
use Rattle.bac_store.specs.Stores.{Store}
use Rattle.bac_transaction.specs.Sends.{Datagram}
use Rattle.bac_world.specs.Node.{Node}
use Rattle.bac_world.specs.Services.{Performed}
use Rattle.bac_driver.specs.BoundNodes.{BoundNode}
use Rattle.bac_node.specs.Memory.{IsWithin}
use Rattle.bac_driver.specs.Calls.{Call, Calls, one_more, with_call}
use Rattle.bac_driver.specs.Calls.Call.{FailedReceive}
use Rattle.bac_driver.specs.Moments.{with_moment}
use Rattle.bac_driver.specs.Observed.{IsOverUnseen, Observed, observed}
use Rattle.bac_driver.specs.Runs.{CannotReceive, GoesBack, Run, Timed, timed}
use Rattle.bac_driver.specs.Seen.{Watcher, seen}
use Rattle.bac_driver.specs.Serving.{IsBefore, performed_in}
use Rattle.bac_driver.specs.Turns.{Hears, IsCarried, Receives, Ticks, Turn, performed_of, sends_of, with_calls}
use Rattle.bac_driver.specs.Waits.{AT_ONCE}
use Rattle.bac_driver.specs.declared.fault.RoundFault.{RoundFault}
use Rattle.bac_driver.specs.declared.fault.RoundFault.TheVariants as round
use Rattle.bac_driver.specs.declared.fault.TurnFault.{TurnFault}
use Rattle.bac_driver.specs.declared.fault.TurnFault.TheVariants as fault
use Rattle.bac_driver.specs.declared.wait_limit.WaitLimit.{WaitLimit}

-- the greatest number of turns in a round
abbrev pub ROUND : ℕ
ROUND = 32

-- ---- what a turn changes, and what it sends

abbrev pub is_write : Request → Bool
is_write r = not (is_read_choice (choice_of r))

-- a write whose reply is not an Error
abbrev pub is_change : Performed → Bool
is_change p = is_write p.request && is_done p.reply

abbrev pub is_change_of : Option Performed → Bool
is_change_of None = false
is_change_of (Some p) = is_change p

abbrev pub changes_store : Turn → Bool
changes_store turn = is_change_of (performed_of turn.heard)

-- it has the reply of the store
pub record IsReplied (s : Store) (p : Performed) : Type 0 where
  pub reply : p.reply ≡ reply_to s p.request

-- of turns in their order
abbrev pub change_store : List Turn → Bool
change_store [] = false
change_store (turn ∷ turns) = changes_store turn || change_store turns

abbrev pub sends_in : Turn → List Datagram
sends_in turn = sends_of turn.heard ++ sends_of turn.ticked

abbrev pub sends_of_all : List Turn → List Datagram
sends_of_all [] = []
sends_of_all (turn ∷ turns) = sends_in turn ++ sends_of_all turns

-- ---- a held turn

-- the node took what had come, within the memory of its rules, and did all that was due; nothing was sent
pub record IsTaken (now : ℕ) (old : BoundNode) (turn : Turn) (new : BoundNode) : Type 0 where
  pub at : turn.at ≡ now
  pub middle : Node
  pub hears : Hears old.rules now old.buffer turn.received old.node middle turn.heard
  pub within : IsWithin old.rules.memory old.node middle
  pub ticks : Ticks now middle new.node turn.ticked
  pub lost : turn.lost ≡ 0
  pub calls : new.calls ≡ old.calls
  pub failures : new.failures ≡ old.failures
  pub buffer : new.buffer ≡ old.buffer
  pub rules : new.rules ≡ old.rules

-- a turn that began at a moment, not before the node's latest one; after the call to receive the clock gave another moment, and the node acted at the later of
-- both; nothing was sent
pub record HoldsTurnFrom (began : ℕ) (p : WaitLimit) (old : Timed) (turn : Turn) (new : Timed) : Type 0 where
  pub looked : ℕ
  pub told : new.told ≡ with_moment old.told looked
  pub timely : old.bound_node.node.latest ≤ began
  pub middle : BoundNode
  pub receives : Receives p began old.bound_node turn.received middle
  pub takes : IsTaken (max looked began) middle turn new.bound_node

-- it began at a moment of the clock, in time
pub record HoldsEarlyTurn (p : WaitLimit) (old : Timed) (turn : Turn) (new : Timed) : Type 0 where
  pub began : ℕ
  pub early : IsBefore began p.until
  pub holds : HoldsTurnFrom began p (timed old.bound_node (with_moment old.told began)) turn new

-- it did not wait
abbrev pub HoldsTurnAtOnce : (old : Timed) → Turn → (new : Timed) → Type 0
HoldsTurnAtOnce old turn new = HoldsTurnFrom old.bound_node.node.latest AT_ONCE old turn new

-- the observer saw it
pub record HoldsSeenTurn {S : Type 0} (Sees : Watcher S) (holds : Timed → Turn → Timed → Type 0) (old : Observed S) (turn : Turn) (new : Observed S)
    : Type 0 where
  pub is : holds old.timed turn new.timed
  pub sees : Sees (seen new.timed.bound_node.node new.timed.bound_node.buffer turn) old.state new.state

-- ---- the turns of a round

-- turns, of which the newest comes first, in their order
abbrev pub in_order : List Turn → List Turn
in_order [] = []
in_order (turn ∷ before) = in_order before ++ turn ∷ []

-- the first turn waits as the limit says, and the others do not wait
pub record HoldsTurns {S : Type 0} (Sees : Watcher S) (p : WaitLimit) (turns : List Turn) (old new : Observed S) : Type 0 where
  pub first : Turn
  pub begun : Observed S
  pub begins : HoldsSeenTurn Sees (HoldsEarlyTurn p) old first begun
  pub more : List Turn
  pub goes_on : Run (HoldsSeenTurn Sees HoldsTurnAtOnce) more begun new
  pub are : turns ≡ first ∷ in_order more
  pub most : length turns ≤ ROUND

-- ---- a round

-- then all that these turns send goes to the link, each datagram once, in order
pub record IsRound {S : Type 0} (Sees : Watcher S) (p : WaitLimit) (turns : List Turn) (old new : Observed S) : Type 0 where
  pub middle : Timed
  pub holds : HoldsTurns Sees p turns old (observed middle new.state)
  pub lost : ℕ
  pub carried : IsCarried (sends_of_all turns) lost middle.bound_node new.timed.bound_node
  pub node : new.timed.bound_node.node ≡ middle.bound_node.node
  pub buffer : new.timed.bound_node.buffer ≡ middle.bound_node.buffer
  pub rules : new.timed.bound_node.rules ≡ middle.bound_node.rules
  pub told : new.timed.told ≡ middle.told

-- so many requests were performed in it
pub record TakesRound {S : Type 0} (Sees : Watcher S) (p : WaitLimit) (old : Observed S) (effects : ℕ) (new : Observed S) : Type 0 where
  pub turns : List Turn
  pub round : IsRound Sees p turns old new
  pub counted : effects ≡ performed_in turns

-- ---- a round that stops

abbrev pub AreReceives : List Call → Type 0
AreReceives [] = Unit {0}
AreReceives (Call.Send to octets ∷ calls) = ⊥
AreReceives (call ∷ calls) = AreReceives calls

-- the link was asked to receive, and to send nothing
pub record OnlyReceives (old new : Calls) : Type 0 where
  pub more : List Call
  pub are : AreReceives more
  pub is : new ≡ with_calls old more

-- the link could not receive; the clock was not asked again
pub record LinkFails (old new : Timed) : Type 0 where
  pub told : new.told ≡ old.told
  pub node : new.bound_node.node ≡ old.bound_node.node
  pub count : new.bound_node.failures ≡ one_more old.bound_node.failures
  pub calls : new.bound_node.calls ≡ with_call old.bound_node.calls FailedReceive
  pub rules : new.bound_node.rules ≡ old.bound_node.rules

-- why a turn was not held that was to begin at that moment
abbrev pub HoldFails : TurnFault → (began : ℕ) → (old new : Timed) → Type 0
HoldFails fault.Link began old new = (old.bound_node.node.latest ≤ began) × LinkFails old new
HoldFails fault.ClockBack began old new = (began < old.bound_node.node.latest) × (new ≡ old)

-- a turn was held so, and what it changed could not be noted
pub record CannotNote (holds : Timed → Turn → Timed → Type 0) (old new : Timed) : Type 0 where
  pub turn : Turn
  pub held : holds old turn new
  pub changed : changes_store turn ≡ true

-- why a turn that was to begin at that moment was not held, or was held and not noted
abbrev pub TurnStops : RoundFault → (began : ℕ) → WaitLimit → (old new : Timed) → Type 0
TurnStops round.Link began p old new = HoldFails fault.Link began old new
TurnStops round.ClockBack began p old new = HoldFails fault.ClockBack began old new
TurnStops (round.Keep why) began p old new = CannotNote (HoldsTurnFrom began p) old new

-- the same of the first turn of a round
abbrev pub FirstStops : RoundFault → WaitLimit → (old new : Timed) → Type 0
FirstStops round.Link p old new = CannotReceive old new
FirstStops round.ClockBack p old new = GoesBack old new
FirstStops (round.Keep why) p old new = CannotNote (HoldsEarlyTurn p) old new

-- after some turns in that order, more turns that did not wait; a round has room for all of them
pub record HoldsOn (before turns : List Turn) (old new : Timed) : Type 0 where
  pub more : List Turn
  pub goes_on : Run HoldsTurnAtOnce more old new
  pub are : turns ≡ before ++ in_order more
  pub most : length turns ≤ ROUND

-- after such turns, which leave room for one more, the link could not receive
pub record CannotReceiveOn (before : List Turn) (old new : Timed) : Type 0 where
  pub turns : List Turn
  pub middle : Timed
  pub holds : HoldsOn before turns old middle
  pub room : length turns < ROUND
  pub fails : LinkFails middle new

-- after such turns, which changed the store, that could not be noted or kept
pub record CannotKeepOn (before : List Turn) (old new : Timed) : Type 0 where
  pub turns : List Turn
  pub holds : HoldsOn before turns old new
  pub changed : change_store turns ≡ true

-- why a round stopped after some turns in that order; no later turn begins at a moment of the clock, so the clock can't be why
abbrev pub MoreStops : RoundFault → (before : List Turn) → (old new : Timed) → Type 0
MoreStops round.Link before old new = CannotReceiveOn before old new
MoreStops round.ClockBack before old new = ⊥
MoreStops (round.Keep why) before old new = CannotKeepOn before old new

-- the turns of a round so far: the first one waited as the limit says, and the others did not wait
pub record HoldsSome (p : WaitLimit) (turns : List Turn) (old new : Timed) : Type 0 where
  pub first : Turn
  pub begun : Timed
  pub begins : HoldsEarlyTurn p old first begun
  pub others : HoldsOn (first ∷ []) turns begun new

-- after such turns, which leave room for one more, the link could not receive
pub record CannotReceiveMore (p : WaitLimit) (old new : Timed) : Type 0 where
  pub turns : List Turn
  pub middle : Timed
  pub holds : HoldsSome p turns old middle
  pub room : length turns < ROUND
  pub fails : LinkFails middle new

-- it is as after such turns, which changed the store
pub record CannotKeep (p : WaitLimit) (old new : Timed) : Type 0 where
  pub turns : List Turn
  pub holds : HoldsSome p turns old new
  pub changed : change_store turns ≡ true

-- why a round stopped before it sent anything. The link could not receive, for the first turn or for a later one; the clock had gone back when the round
-- began, and nothing has changed; or what its turns changed could not be noted or kept, and it is just as after these turns.
abbrev pub RoundFails : RoundFault → WaitLimit → (old new : Timed) → Type 0
RoundFails round.Link p old new = CannotReceive old new ⊎ CannotReceiveMore p old new
RoundFails round.ClockBack p old new = GoesBack old new
RoundFails (round.Keep why) p old new = CannotKeep p old new

-- a round stopped before it sent anything, for some fault; its first turn waited as some limit says
pub record StopsUnsent (old new : Timed) : Type 0 where
  pub why : RoundFault
  pub limit : WaitLimit
  pub fails : RoundFails why limit old new
  pub receives : OnlyReceives old.bound_node.calls new.bound_node.calls

-- ---- the keeper

-- the keeper is open, and with all that was noted it has this store
pub record HasNoted {K : Type 0} (IsOpen : K → Type 0) (noted : K → Store) (k : K) (s : Store) : Type 0 where
  pub is_open : IsOpen k
  pub noted_is : noted k ≡ s

-- it keeps this store, and nothing more was noted
pub record IsKept {K : Type 0} (IsOpen : K → Type 0) (kept noted : K → Store) (k : K) (s : Store) : Type 0 where
  pub is_open : IsOpen k
  pub kept_is : kept k ≡ s
  pub noted_is : noted k ≡ s

-- a power cut leaves nothing that it could not leave before
pub record FindsNoMore {K : Type 0} (IsHonest : K → Type 0) (may_find : K → Store → Type 0) (old new : K) : Type 0 where
  pub honest : IsHonest new → IsHonest old
  pub crash : IsHonest new → (s : Store) → may_find new s → may_find old s

-- a power cut leaves one of two stores: that before the round, or that after its turns
pub record FindsOneOf {K : Type 0} (IsHonest : K → Type 0) (may_find : K → Store → Type 0) (before after : Store) (k : K) : Type 0 where
  pub crash : IsHonest k → (s : Store) → may_find k s → (s ≡ before) ⊎ (s ≡ after)

-- ---- rounds, one after the other

-- one turn, which waited as the limit says
pub record HoldsOne {S : Type 0} (Sees : Watcher S) (p : WaitLimit) (turns : List Turn) (old new : Observed S) : Type 0 where
  pub first : Turn
  pub begins : HoldsSeenTurn Sees (HoldsEarlyTurn p) old first new
  pub are : turns ≡ first ∷ []

-- after some turns in that order, more turns that did not wait
pub record HoldsMore {S : Type 0} (Sees : Watcher S) (before turns : List Turn) (old new : Observed S) : Type 0 where
  pub more : List Turn
  pub goes_on : Run (HoldsSeenTurn Sees HoldsTurnAtOnce) more old new
  pub are : turns ≡ before ++ in_order more

-- the greatest number of requests that is counted
abbrev pub MOST_COUNTED : ℕ
MOST_COUNTED = 2 ^ 64 - 1

abbrev pub total : List ℕ → ℕ
total [] = 0
total (count ∷ counts) = total counts + count

-- so many rounds were taken, in which so many requests were performed
pub record TakesRounds {S : Type 0} (Sees : Watcher S) (p : WaitLimit) (rounds effects : ℕ) (old new : Observed S) : Type 0 where
  pub counts : List ℕ
  pub all : length counts ≡ rounds
  pub run : Run (TakesRound Sees p) counts old new
  pub counted : effects ≡ min (total counts) MOST_COUNTED

-- fewer rounds were taken so, and then this happened
pub record StopsRounds {S : Type 0} (Sees : Watcher S) (p : WaitLimit) (rounds effects : ℕ) (happens : Observed S → Observed S → Type 0) (old new : Observed S)
    : Type 0 where
  pub taken : ℕ
  pub fewer : taken < rounds
  pub middle : Observed S
  pub takes : TakesRounds Sees p taken effects old middle
  pub stopped : happens middle new

-- all rounds were taken, or the time was over before
abbrev pub ServesRounds : {S : Type 0} → Watcher S → WaitLimit → (rounds effects : ℕ) → (old new : Observed S) → Type 0
ServesRounds Sees p rounds effects old new =
    TakesRounds Sees p rounds effects old new ⊎ StopsRounds Sees p rounds effects (IsOverUnseen p) old new

-- a round stopped before it sent anything, and a power cut leaves the store before it, or that which the node then has
pub record BreaksRound {S K : Type 0} (IsHonest : K → Type 0) (may_find : K → Store → Type 0) (keeper : K) (old new : Observed S) : Type 0 where
  pub unsent : StopsUnsent old.timed new.timed
  pub finds : FindsOneOf IsHonest may_find old.timed.bound_node.node.store new.timed.bound_node.node.store keeper

-- after some rounds, one stopped
pub record BreaksOff {S K : Type 0} (Sees : Watcher S) (p : WaitLimit) (rounds : ℕ) (IsHonest : K → Type 0) (may_find : K → Store → Type 0) (keeper : K)
    (old new : Observed S) : Type 0 where
  pub effects : ℕ
  pub stops : StopsRounds Sees p rounds effects (BreaksRound IsHonest may_find keeper) old new

-- why serving in rounds stopped: after some rounds, one stopped for that fault
pub record ServingStops {S : Type 0} (Sees : Watcher S) (p : WaitLimit) (rounds : ℕ) (why : RoundFault) (old new : Observed S) : Type 0 where
  pub effects : ℕ
  pub stops : StopsRounds Sees p rounds effects (λ (before after : Observed S). RoundFails why p before.timed after.timed) old new
