-- A bound node changes its own store, between turns.
use Rattle.std.specs.Prelude.{◌≡◌, List, Option, None}
use Rattle.bac_store.specs.AtNode.{Change, change_fault}
use Rattle.bac_world.specs.Node.{with_change}
use Rattle.bac_driver.specs.BoundNodes.{BoundNode}
use Rattle.bac_driver.specs.Runs.{Run}

-- it makes a change that has no fault, and nothing else is new
pub record MakesChange (old : BoundNode) (change : Change) (new : BoundNode) : Type 0 where
  pub may : change_fault old.node.store change ≡ None
  pub is : new ≡ record old { node = with_change change old.node }

-- it makes such changes, one after the other, the newest first
abbrev pub MakesChanges : List Change → (old new : BoundNode) → Type 0
MakesChanges changes old new = Run MakesChange changes old new
