-- One more round.
use Rattle.std.proofs.Common.{◌∙◌, inr, rules}
use Rattle.bac_driver.proofs.RoundsStopped.{breaks_off, of_fault, serving_stops}
use Rattle.bac_driver.proofs.RoundsTaken.{one_more_round, over_once, stops_early, taken_once}
use Rattle.bac_driver.proofs.bound_node.BoundNode.serve_kept.Goals as goal

pub loop-preserved : goal.loop-preserved
loop-preserved g c =
    record {
      taken =
          one_more_round g.O.Observer.Sees _ c.loop.counter c.loop.effects c.in-Some.more _ _ _ _ c.loop.invariant.taken
          (taken_once _ _ c.in-Some.more c.in-Some.is c.in_ok-once.ensures.taken) c.saturating_add-effects.ensures;
      kept = c.in_ok-once.ensures.kept;
      honest = λ honest. c.loop.invariant.honest (c.in_ok-once.ensures.honest honest);
      base = c.in_ok-once.ensures.base ∙ c.loop.invariant.base;
    }

pub returns-in_default-clause-served : goal.returns-in_default-clause-served
returns-in_default-clause-served g c =
    inr (stops_early g.O.Observer.Sees c.args.limit.now.wait_limit c.loop.counter c.args.limit.now.turns c.loop.effects _ _ _ _ (search rules)
    c.loop.invariant.taken (over_once _ _ _ c.in_default.is c.in_ok-once.ensures.over))

pub returns-in_err-once-clause-failed : goal.returns-in_err-once-clause-failed
returns-in_err-once-clause-failed g c =
    of_fault _ c.from_residual.result _ c.from_residual.ensures.1
    (serving_stops g.O.Observer.Sees c.args.limit.now.wait_limit c.loop.counter c.args.limit.now.turns c.loop.effects _ _ _ _ (search rules)
    c.loop.invariant.taken c.in_err-once.ensures.failed)

pub returns-in_err-once-clause-broken_off : goal.returns-in_err-once-clause-broken_off
returns-in_err-once-clause-broken_off g c =
    breaks_off g.O.Observer.Sees c.args.limit.now.wait_limit c.loop.counter c.args.limit.now.turns c.loop.effects g.K.Keeper.IsHonest g.K.Keeper.may_find _ _ _ _
    _ _ (search rules) c.loop.invariant.taken c.in_err-once.ensures.failed c.in_err-once.ensures.unsent c.in_err-once.ensures.crash
