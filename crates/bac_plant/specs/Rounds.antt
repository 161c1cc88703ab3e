-- The rounds that one station takes, whatever others do between their turns.
use Rattle.std.specs.Prelude.{◌≡◌, ◌⊎◌, ◌≤◌, ℕ, min, List, length}
use Rattle.bac_store.specs.Stores.{Store}
use Rattle.bac_driver.specs.BoundNodes.{BoundNode}
use Rattle.bac_driver.specs.Calls.{one_more, with_call}
use Rattle.bac_driver.specs.Calls.Call.{FailedReceive}
use Rattle.bac_driver.specs.Observed.{Observed}
use Rattle.bac_driver.specs.Rounds.{BreaksOff, FindsOneOf, MOST_COUNTED, OnlyReceives, ROUND, RoundFails, ServesRounds, TakesRound, in_order, total}
use Rattle.bac_driver.specs.Runs.{Run, Timed}
use Rattle.bac_driver.specs.Seen.{Watcher}
use Rattle.bac_driver.specs.Serving.{performed_in}
use Rattle.bac_driver.specs.Turns.{Turn}
use Rattle.bac_driver.specs.declared.fault.RoundFault.{RoundFault}
use Rattle.bac_driver.specs.declared.wait_limit.WaitLimit.{WaitLimit}
use Rattle.bac_plant.specs.Steps.{AreSent, HoldsSomeTurn}

-- a turn at some moment, whose sends are held
pub record HoldsTurnOnce (before : BoundNode) (turn : Turn) (after : BoundNode) : Type 0 where
  pub now : ℕ
  pub is : HoldsSomeTurn now before turn after

-- such turns of one station, one after the other; the newest comes first
abbrev pub HeldChain : List Turn → (before after : BoundNode) → Type 0
HeldChain turns before after = Run HoldsTurnOnce turns before after

-- a link could not receive: its count and its calls change, and the buffer may
pub record FailsOnce (before after : BoundNode) : Type 0 where
  pub node : after.node ≡ before.node
  pub count : after.failures ≡ one_more before.failures
  pub calls : after.calls ≡ with_call before.calls FailedReceive
  pub rules : after.rules ≡ before.rules

-- a round stopped before it sent anything: it is as after the turns that it held, or then its link could not receive
abbrev pub HasStopped : (held after : BoundNode) → Type 0
HasStopped held after = (after ≡ held) ⊎ FailsOnce held after

-- turns of one round were held, or none was, and then the round stopped, or all that they hold was sent, in their order: so it is after each round
pub record IsAsHeldInChain (before after : BoundNode) : Type 0 where
  pub turns : List Turn
  pub held : BoundNode
  pub chain : HeldChain turns before held
  pub most : length turns ≤ ROUND
  pub ends : HasStopped held after ⊎ AreSent (in_order turns) held after

-- that is so of a round that stopped
pub record StopsInRound (before after : BoundNode) : Type 0 where
  pub as_held : IsAsHeldInChain before after
  pub stopped : HasStopped as_held.held after

-- a round: at most 32 turns are held, and then all that they hold is sent, in their order; so many requests were performed in it
pub record RoundInChain (before : BoundNode) (effects : ℕ) (after : BoundNode) : Type 0 where
  pub turns : List Turn
  pub middle : BoundNode
  pub held : HeldChain turns before middle
  pub sent : AreSent (in_order turns) middle after
  pub most : length turns ≤ ROUND
  pub counted : effects ≡ performed_in (in_order turns)

-- rounds of one station, one after the other, with how many requests were performed in each; the newest comes first
abbrev pub RoundChain : List ℕ → (before after : BoundNode) → Type 0
RoundChain counts before after = Run RoundInChain counts before after

-- what serving in rounds promises of a station: a chain of rounds, in which so many requests were performed
pub record ServesRoundsInChain (effects : ℕ) (before after : BoundNode) : Type 0 where
  pub counts : List ℕ
  pub chain : RoundChain counts before after
  pub counted : effects ≡ min (total counts) MOST_COUNTED

-- a chain of rounds, after which one stopped before it sent anything, and a power cut leaves the store before it, or that which the node then has
pub record StopsRoundsInChain {K : Type 0} (IsHonest : K → Type 0) (may_find : K → Store → Type 0) (keeper : K) (before after : BoundNode) : Type 0 where
  pub counts : List ℕ
  pub middle : BoundNode
  pub chain : RoundChain counts before middle
  pub stops : StopsInRound middle after
  pub unsent : OnlyReceives middle.calls after.calls
  pub finds : FindsOneOf IsHonest may_find middle.node.store after.node.store keeper

-- ---- what calls promise

-- a round is one of a chain
abbrev pub RoundIsInChain : {S : Type 0} → Watcher S → Type 0
RoundIsInChain {S} Sees =
    (p : WaitLimit) (old : Observed S) (effects : ℕ) (new : Observed S) → TakesRound Sees p old effects new
    → RoundInChain old.timed.bound_node effects new.timed.bound_node

-- after it the station is as after turns that it held
abbrev pub RoundEndsAsHeld : {S : Type 0} → Watcher S → Type 0
RoundEndsAsHeld {S} Sees =
    (p : WaitLimit) (old : Observed S) (effects : ℕ) (new : Observed S) → TakesRound Sees p old effects new
    → IsAsHeldInChain old.timed.bound_node new.timed.bound_node

-- a round that fails stops
abbrev pub FailedRoundStops : Type 0
FailedRoundStops = (why : RoundFault) (p : WaitLimit) (old new : Timed) → RoundFails why p old new → StopsInRound old.bound_node new.bound_node

-- serving in rounds is a chain of them
abbrev pub ServingRoundsIsChain : {S : Type 0} → Watcher S → Type 0
ServingRoundsIsChain {S} Sees =
    (p : WaitLimit) (rounds effects : ℕ) (old new : Observed S) → ServesRounds Sees p rounds effects old new
    → ServesRoundsInChain effects old.timed.bound_node new.timed.bound_node

-- serving in rounds that a fault stops was one until then
abbrev pub ServingRoundsStops : {S K : Type 0} → Watcher S → (IsHonest : K → Type 0) → (may_find : K → Store → Type 0) → Type 0
ServingRoundsStops {S} {K} Sees IsHonest may_find =
    (p : WaitLimit) (rounds : ℕ) (keeper : K) (old new : Observed S) → BreaksOff Sees p rounds IsHonest may_find keeper old new
    → StopsRoundsInChain IsHonest may_find keeper old.timed.bound_node new.timed.bound_node
