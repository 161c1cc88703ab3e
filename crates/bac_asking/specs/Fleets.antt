-- The nodes of a client that asks lines several at once: the one that asks, and those that leave.
use Rattle.std.specs.Prelude.{◌≡◌, ℕ, ◌+◌, ◌++◌, Bool, List, [], ◌∷◌, if◌then◌else◌, slice_get, slice_set, MatchOption, Option, Some}
use Rattle.bac_driver.specs.BoundNodes.{BoundNode}
use Rattle.bac_driver.specs.Moments.{Told}
use Rattle.bac_driver.specs.Runs.{Timed, timed}
use Rattle.bac_driver.specs.Serving.{IsOver, TakesEarlyTurn}
use Rattle.bac_driver.specs.Views.{turn_view}
use Rattle.bac_driver.specs.declared.turn.Turn.{Turn}
use Rattle.bac_driver.specs.declared.wait_limit.WaitLimit.{WaitLimit}

-- so many nodes leave at once at the most
abbrev pub MOST_LEAVING : ℕ
MOST_LEAVING = 64

-- a node that had no invoke ID or no slot left while asks of it were under way: it is asked no more, and goes on until they are over
pub record Leaving : Type 0 where
  pub number : ℕ
  pub bound_node : BoundNode

-- the number of the node that asks, counted from 0, and the nodes that leave
pub record Fleet : Type 0 where
  pub number : ℕ
  pub leaving : List Leaving

abbrev pub NEW_FLEET : Fleet
NEW_FLEET = record { number = 0; leaving = [] }

-- the next node asks; the one before leaves, unless none of its asks is under way
abbrev pub next_fleet : (is_idle : Bool) → BoundNode → Fleet → Fleet
next_fleet is_idle bound_node f =
    record {
      number = f.number + 1;
      leaving = if is_idle then f.leaving else f.leaving ++ record { number = f.number; bound_node = bound_node } ∷ [];
    }

abbrev pub number_of : Leaving → ℕ
number_of l = l.number

-- a turn was taken, or it was too late for one
abbrev pub IsTurnOr : WaitLimit → Option Turn → (before after : Timed) → Type 0
IsTurnOr p turn before after = MatchOption turn (IsOver p before after) (λ t. TakesEarlyTurn p before (turn_view t) after)

-- so it was with the node at that place among those that leave, beside a clock
pub record IsTurnAt (at : ℕ) (p : WaitLimit) (turn : Option Turn) (before after : Told) (old new : Fleet) : Type 0 where
  pub leaving : Leaving
  pub is : slice_get old.leaving at ≡ Some leaving
  pub bound_node : BoundNode
  pub turned : IsTurnOr p turn (timed leaving.bound_node before) (timed bound_node after)
  pub fleet : new ≡ record old { leaving = slice_set old.leaving at (record { number = leaving.number; bound_node = bound_node }) }
