-- Turns of a bound node at the moments of a clock, one after the other, and why one is not taken.
use Rattle.std.specs.Prelude.{◌≡◌, ◌<◌, ◌≤◌, ℕ, max, List, [], ◌∷◌, length}
use Rattle.bac_driver.specs.Calls.{one_more, with_call}
use Rattle.bac_driver.specs.Calls.Call.{FailedReceive}
use Rattle.bac_driver.specs.Moments.{Told, with_moment}
use Rattle.bac_driver.specs.BoundNodes.{BUFFER, BoundNode}
use Rattle.bac_driver.specs.Turns.{IsTurn, Turn}
use Rattle.bac_driver.specs.declared.fault.TurnFault.{TurnFault}
use Rattle.bac_driver.specs.declared.wait_limit.WaitLimit.{WaitLimit}
use Rattle.bac_driver.specs.declared.fault.TurnFault.TheVariants as fault

-- a bound node, and the moments that its clock has given
pub record Timed : Type 0 where
  pub bound_node : BoundNode
  pub told : Told

abbrev pub timed : BoundNode → Told → Timed
timed bound_node told = record { bound_node = bound_node; told = told }

-- a turn that began at a moment, not before the node's latest one; after the call to receive the clock gave another moment, and the node acted at the later of
-- both
pub record TakesTurnFrom (began : ℕ) (p : WaitLimit) (old : Timed) (turn : Turn) (new : Timed) : Type 0 where
  pub looked : ℕ
  pub told : new.told ≡ with_moment old.told looked
  pub timely : old.bound_node.node.latest ≤ began
  pub size : length new.bound_node.buffer ≡ BUFFER
  pub takes : IsTurn p began (max looked began) old.bound_node turn new.bound_node

-- the clock gave the moment at which it began
pub record TakesTurn (p : WaitLimit) (old : Timed) (turn : Turn) (new : Timed) : Type 0 where
  pub began : ℕ
  pub takes : TakesTurnFrom began p (timed old.bound_node (with_moment old.told began)) turn new

-- a step that returned this, after others
pub record IsLast {S T : Type 0} (before : S → Type 0) (step : S → T → S → Type 0) (given : T) (new : S) : Type 0 where
  pub middle : S
  pub so_far : before middle
  pub last : step middle given new

-- steps, one after the other, with what each of them returned; the newest comes first
abbrev pub Run : {S T : Type 0} → (step : S → T → S → Type 0) → List T → (old new : S) → Type 0
Run step [] old new = new ≡ old
Run step (given ∷ before) old new = IsLast (Run step before old) step given new

-- ---- why a turn is not taken

-- the clock gave a moment that is late enough, and the link could not receive
pub record CannotReceive (old new : Timed) : Type 0 where
  pub now : ℕ
  pub told : new.told ≡ with_moment old.told now
  pub timely : old.bound_node.node.latest ≤ now
  pub node : new.bound_node.node ≡ old.bound_node.node
  pub count : new.bound_node.failures ≡ one_more old.bound_node.failures
  pub calls : new.bound_node.calls ≡ with_call old.bound_node.calls FailedReceive
  pub rules : new.bound_node.rules ≡ old.bound_node.rules

-- the clock gave a moment before the latest one of the node; nothing else has changed
pub record GoesBack (old new : Timed) : Type 0 where
  pub now : ℕ
  pub told : new.told ≡ with_moment old.told now
  pub early : now < old.bound_node.node.latest
  pub same : new.bound_node ≡ old.bound_node

-- which of both
abbrev pub TurnFails : TurnFault → (old new : Timed) → Type 0
TurnFails fault.Link old new = CannotReceive old new
TurnFails fault.ClockBack old new = GoesBack old new
