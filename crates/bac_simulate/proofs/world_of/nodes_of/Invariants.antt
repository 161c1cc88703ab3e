-- The nodes so far, and those from here on, are all of them.
use Rattle.std.proofs.Common.{◌≡◌, ◌-◌, ◌++◌}
use Rattle.bac_simulate.specs.Houses.{makers_from}
use Rattle.bac_simulate.proofs.world_of.nodes_of.Given as goal

abbrev pub invariant-loop-node : goal.invariant-loop-node
invariant-loop-node l =
    l.nodes.items ++ makers_from l.fn.limits l.fn.setting.window l.node (l.fn.setting.nodes - l.node)
    ≡ makers_from l.fn.limits l.fn.setting.window 0 l.fn.setting.nodes
