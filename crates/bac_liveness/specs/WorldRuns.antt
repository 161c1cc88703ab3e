-- What is said of a run: of each of its events, and of the endings in its log.
use Rattle.std.specs.Prelude.{ℕ, suc, List, [], ◌∷◌, if◌then◌else◌, nat_eq}
use Rattle.bac_world.specs.Once.{Fact}
use Rattle.bac_world.specs.Once.Fact.{Asked, Performed, Ended, Changed, Restarted, Served, AskedAway, EndedAway}
use Rattle.bac_world.specs.World.{World, Event, WorldRun}

-- each event of a run has that, in the world in which it happens
abbrev pub Throughout : (overtake : ℕ) → (World → Event → Type 0) → (old : World) (events : List Event) (new : World)
    → WorldRun overtake old events new → Type 0
Throughout overtake P old [] new run = Unit {0}
Throughout overtake P old (e ∷ es) new run = P old e × Throughout overtake P run.0 es new run.2

-- how many endings of ask n a log has
abbrev pub endings_of : ℕ → List Fact → ℕ
endings_of n [] = 0
endings_of n (Asked m c s r ∷ log) = endings_of n log
endings_of n (Performed m r p ∷ log) = endings_of n log
endings_of n (Ended m how ∷ log) = if nat_eq m n then suc (endings_of n log) else endings_of n log
endings_of n (Changed i c ∷ log) = endings_of n log
endings_of n (Restarted i o ∷ log) = endings_of n log
endings_of n (Served q i d b r p ∷ log) = endings_of n log
endings_of n (AskedAway m c q r ∷ log) = endings_of n log
endings_of n (EndedAway m how ∷ log) = endings_of n log
