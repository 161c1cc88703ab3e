-- Runs in stretches: from one stretch to the next nodes may have other settings, as a node has that an operator restarts with others.
use Rattle.std.specs.Prelude.{◌≡◌, ℕ, List, [], ◌∷◌, ◌++◌}
use Rattle.bac_protocol.specs.Log.{StoreModel}
use Rattle.bac_protocol.specs.Transaction.{Rules}
use Rattle.bac_protocol.specs.World.{World, Event, run}
use Rattle.bac_protocol.specs.Claims.{IsBounded}

-- the events of a stretch, in which these rules stay
pub record Stretch : Type 0 where
  pub rules : Rules
  pub events : List Event

abbrev pub stretch : Rules → List Event → Stretch
stretch x events = record { rules = x; events = events }

-- the world after these stretches, in their order
abbrev pub run_in : (S : Type 0) → StoreModel S → List Stretch → World S → World S
run_in S model [] w = w
run_in S model (s ∷ ss) w = run_in S model ss (run S model s.rules s.events w)

-- in each of them all windows are at most W, and few enough later copies may overtake one
abbrev pub AreBounded : (W : ℕ) → List Stretch → Type 0
AreBounded W [] = Unit {0}
AreBounded W (s ∷ ss) = IsBounded W s.rules × AreBounded W ss

-- where the rules stay, a run in stretches is a run
pub record StretchesJoin (S : Type 0) (model : StoreModel S) : Type 0 where
  pub one : (x : Rules) (events : List Event) (w : World S) → run_in S model (stretch x events ∷ []) w ≡ run S model x events w
  pub two : (x : Rules) (a b : List Event) (ss : List Stretch) (w : World S)
      → run_in S model (stretch x a ∷ stretch x b ∷ ss) w ≡ run_in S model (stretch x (a ++ b) ∷ ss) w
