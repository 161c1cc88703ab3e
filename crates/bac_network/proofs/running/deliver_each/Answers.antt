-- One copy more was delivered.
use Rattle.std.proofs.Common.{arith}
use Rattle.bac_network.specs.Going.{IsStuck}
use Rattle.bac_network.proofs.StraightGoing.{gone_none, gone_more, stopped_at, stuck_at, told_why, when_false, when_true}
use Rattle.bac_network.proofs.running.deliver_each.Goals as goal

pub loop-world-init : goal.loop-world-init
loop-world-init c = record { from = omega arith; gone = gone_none c.args.ask c.args.since c.args.first c.args.world.now c.requires }

pub loop-world-preserved : goal.loop-world-preserved
loop-world-preserved c =
    let going = when_false _ _ c.is_over.result c.is_over.ensures c.loop-world-test.true in
    record {
      from = omega (arith, c.loop-world.invariant.from);
      gone = gone_more c.args.ask c.args.since c.args.first c.loop-world.number c.args.world.now c.loop-world.world
          c.deliver.new.world c.loop-world.invariant.from c.loop-world.invariant.gone going.0 c.in_ok-deliver.ensures.went
          c.deliver.ensures.settings c.deliver.ensures.passed;
    }

pub returns-in_err-deliver : goal.returns-in_err-deliver
returns-in_err-deliver c =
    let old = c.args.world.now in
    let going = when_false _ _ c.is_over.result c.is_over.ensures c.loop-world-test.true in
    told_why _ (λ f. IsStuck f c.args.ask c.args.since c.args.first old c.deliver.new.world) _ c.from_residual.result c.from_residual.ensures.1
    (stuck_at _ c.args.ask c.args.since c.args.first c.loop-world.number old c.loop-world.world c.deliver.new.world c.loop-world.invariant.from
    c.loop-world.invariant.gone going.0 going.1 c.in_err-deliver.ensures.fault c.in_err-deliver.ensures.err)

pub returns : goal.returns
returns c = stopped_at c.args.ask c.args.since c.args.first c.loop-world.number c.args.world.now c.loop-world.world
    c.loop-world.invariant.from c.loop-world.invariant.gone (when_true _ _ c.is_over.result c.is_over.ensures c.loop-world-test.false)
