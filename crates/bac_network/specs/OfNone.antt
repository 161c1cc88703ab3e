-- Strangers of a log are none of the nodes.
use Rattle.std.specs.Prelude.{List, [], ◌∷◌}
use Rattle.bac_world.specs.Node.{Node}
use Rattle.bac_world.specs.Once.{Fact}
use Rattle.bac_world.specs.Once.Fact.{Served, AskedAway}
use Rattle.bac_world.specs.World.{IsOfNone}
use Rattle.bac_network.specs.Histories.{WorldView}

-- each peer for which a request was performed as a stranger's, and each that was asked as a stranger, is at a link of no node
abbrev pub HasStrangersOfNone : List Node → List Fact → Type 0
HasStrangersOfNone nodes [] = Unit {0}
HasStrangersOfNone nodes (Served q i d b r p ∷ log) = IsOfNone nodes q.link × HasStrangersOfNone nodes log
HasStrangersOfNone nodes (AskedAway n c q r ∷ log) = IsOfNone nodes q.link × HasStrangersOfNone nodes log
HasStrangersOfNone nodes (f ∷ log) = HasStrangersOfNone nodes log

-- so it is in the world's log
abbrev pub HasStrangersOfNoneNow : WorldView → Type 0
HasStrangersOfNoneNow w = HasStrangersOfNone w.nodes w.log
