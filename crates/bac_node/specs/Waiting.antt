-- How long a node has nothing to do without a datagram.
use Rattle.std.specs.Prelude.{◌≡◌, ◌≢◌, ℕ, ◌<◌, ◌≤◌, []}
use Rattle.bac_world.specs.Node.{Node, NodeTick, Outcome}

-- nothing is sent or ended, and neither end changes
pub record IsIdleTick (now : ℕ) (old new : Node) (o : Outcome) : Type 0 where
  pub node : new ≡ record old { latest = now }
  pub sends : o.sends ≡ []
  pub ended : o.ended ≡ []

-- so it is with each tick from the latest moment on and before that one
abbrev pub RestsUntil : (due : ℕ) → Node → Type 0
RestsUntil due n = (now : ℕ) (new : Node) (o : Outcome) → n.latest ≤ now → now < due → NodeTick now n new o → IsIdleTick now n new o

-- a tick at that moment, which is not before the latest, changes an end
pub record MovesAt (due : ℕ) (n : Node) : Type 0 where
  pub timely : n.latest ≤ due
  pub moves : (new : Node) (o : Outcome) → NodeTick due n new o → new ≢ record n { latest = due }

-- something is due by then: at that moment, or at an earlier one, a tick changes an end
pub record IsDueBy (now : ℕ) (n : Node) : Type 0 where
  pub due : ℕ
  pub reached : due ≤ now
  pub moves : MovesAt due n
