-- The copies before the next one were delivered, each while the ask had not ended.
use Rattle.std.proofs.Common.{◌-◌, ◌^◌, ◌≤◌}
use Rattle.bac_network.specs.Going.{HasGone}
use Rattle.bac_network.proofs.running.deliver_each.Given as goal

abbrev pub invariant-loop-world : goal.invariant-loop-world
invariant-loop-world l =
    record {
      from : l.first ≤ l.number;
      gone : HasGone l.ask l.since l.first l.fn.world l.world (l.number - l.first);
    }

abbrev pub decreases-loop-world : goal.decreases-loop-world
decreases-loop-world l = 2 ^ 64 - l.number
