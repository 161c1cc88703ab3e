-- Two nodes, each on its own link, one turn after the other, beside one clock; the first of them asks.
use Rattle.std.specs.Prelude.{◌≡◌, ◌⊎◌, ℕ, Option, Some, None}
use Rattle.bac_driver.specs.Moments.{Told}
use Rattle.bac_requester.specs.TransactionViews.{ending_view}
use Rattle.bac_protocol.specs.Service.{Octets}
use Rattle.bac_world.specs.Node.{Node}
use Rattle.bac_driver.specs.BoundNodes.{BoundNode}
use Rattle.bac_driver.specs.Turns.{Turn}
use Rattle.bac_driver.specs.Runs.{CannotReceive, GoesBack, TakesTurn, Timed, timed}
use Rattle.bac_driver.specs.Asking.{Asks, Begins, EndsIn, IsRefused, NeverEnds, Question, Stops}
use Rattle.bac_driver.specs.Waits.{AT_ONCE, IsDue, MOST}
use Rattle.bac_driver.specs.declared.fault.TurnFault.{TurnFault}
use Rattle.bac_driver.specs.declared.fault.TurnFault.TheVariants as fault
use Rattle.bac_driver.specs.declared.wait_limit.WaitLimit.{WaitLimit}
use Rattle.bac_driver.specs.declared.question.AskEnd.{AskEnd}
use Rattle.bac_driver.specs.declared.question.AskEnd.TheVariants as end

pub record Pair : Type 0 where
  pub first : BoundNode
  pub second : BoundNode
  pub told : Told

abbrev pub paired : (first second : BoundNode) → Told → Pair
paired first second told = record { first = first; second = second; told = told }

-- what the turns of a round gave
pub record Round : Type 0 where
  pub of_first : Turn
  pub of_second : Turn

-- where a datagram has just come to the other node, more may have: then there is no wait
abbrev pub wait_beside : Option (Octets × ℕ) → ℕ
wait_beside None = MOST
wait_beside (Some datagram) = 0

-- how long a node may wait after such a turn of the other one: until something is due at that one
pub record IsBeside (other : Node) (turn : Turn) (p : WaitLimit) : Type 0 where
  pub wait : p.wait ≡ wait_beside turn.received
  pub due : IsDue other p.until

-- a turn of the first, which did not wait, after which the clock has told so much, and then one of the second
pub record TakesRound (old : Pair) (round : Round) (new : Pair) : Type 0 where
  pub told : Told
  pub first : TakesTurn AT_ONCE (timed old.first old.told) round.of_first (timed new.first told)
  pub wait_limit : WaitLimit
  pub beside : IsBeside new.first.node round.of_first wait_limit
  pub second : TakesTurn wait_limit (timed old.second told) round.of_second (timed new.second new.told)

-- a round, of which the turn of the first gave this
pub record RoundGives (turn : Turn) (old new : Pair) : Type 0 where
  pub round : Round
  pub is : turn ≡ round.of_first
  pub takes : TakesRound old round new

-- the first asks
pub record FirstAsks (q : Question) (old : Pair) (ticket : ℕ) (new : Pair) : Type 0 where
  pub first : Asks q (timed old.first old.told) ticket (timed new.first new.told)
  pub second : new.second ≡ old.second

-- this happened to the first, or, once it had taken its turn, to the second
pub record FirstFails (fails : Timed → Timed → Type 0) (old new : Pair) : Type 0 where
  pub first : fails (timed old.first old.told) (timed new.first new.told)
  pub second : new.second ≡ old.second

pub record SecondFails (fails : Timed → Timed → Type 0) (old new : Pair) : Type 0 where
  pub turn : Turn
  pub told : Told
  pub first : TakesTurn AT_ONCE (timed old.first old.told) turn (timed new.first told)
  pub second : fails (timed old.second told) (timed new.second new.told)

abbrev pub OneFails : (fails : Timed → Timed → Type 0) → (old new : Pair) → Type 0
OneFails fails old new = FirstFails fails old new ⊎ SecondFails fails old new

-- the one that was told
abbrev pub RoundFails : TurnFault → (old new : Pair) → Type 0
RoundFails fault.Link old new = OneFails CannotReceive old new
RoundFails fault.ClockBack old new = OneFails GoesBack old new

abbrev pub turn_of_first : Round → Turn
turn_of_first round = round.of_first

-- why waiting stopped
abbrev pub RoundsFail : TurnFault → (turns ticket : ℕ) → (old new : Pair) → Type 0
RoundsFail fault.Link turns ticket old new = Stops TakesRound turn_of_first turns (OneFails CannotReceive) ticket old new
RoundsFail fault.ClockBack turns ticket old new = Stops TakesRound turn_of_first turns (OneFails GoesBack) ticket old new

-- how asking ended
abbrev pub PairEnds : Question → AskEnd → (turns : ℕ) → (old new : Pair) → Type 0
PairEnds q (end.Ended how) turns old new = Begins (FirstAsks q) (EndsIn TakesRound turn_of_first turns (ending_view how)) old new
PairEnds q (end.Refused why) turns old new = FirstFails (IsRefused q why) old new
PairEnds q end.NoEnding turns old new = Begins (FirstAsks q) (NeverEnds TakesRound turn_of_first turns) old new

-- why asking stopped
abbrev pub PairFails : Question → TurnFault → (turns : ℕ) → (old new : Pair) → Type 0
PairFails q fault.Link turns old new = Begins (FirstAsks q) (Stops TakesRound turn_of_first turns (OneFails CannotReceive)) old new
PairFails q fault.ClockBack turns old new =
    FirstFails GoesBack old new ⊎ Begins (FirstAsks q) (Stops TakesRound turn_of_first turns (OneFails GoesBack)) old new
