-- One more stretch; it is the last where it says so.
use Rattle.bac_serving.proofs.Stretches.{until_input, with_more}
use Rattle.bac_serving.proofs.looking.serve_stretches.Goals as goal

pub loop-count-preserved : goal.loop-count-preserved
loop-count-preserved g c =
    let state = g.S.Stretching.state in (
      with_more g.S.Stretching.serves c.args.stop.at c.loop-count._count c.loop-count.effects c.saturating_add-effects.result (state c.args.server.now)
          (state c.loop-count.server) (state c.take_stretch.new.server) c.in_ok-stretch.field-0 c.in-Some.stretch c.in-Some.is
          c.in_ok-stretch.ensures.taken c.loop-count.invariant.0 c.saturating_add-effects.ensures,
      c.in_ok-stretch.ensures.sound,
      λ h. c.loop-count.invariant.2 (c.in_ok-stretch.ensures.honest h),
    )

pub returns-then-stretch-clause-taken : goal.returns-then-stretch-clause-taken
returns-then-stretch-clause-taken g c =
    let state = g.S.Stretching.state in
    until_input g.S.Stretching.serves c.args.stop _ _ _ _ c.in_ok-stretch.field-0 c.in-Some.stretch c.in-Some.is c.if-stretch.true c.in_ok-stretch.ensures.input
    (with_more g.S.Stretching.serves c.args.stop.at c.loop-count._count c.loop-count.effects c.saturating_add-effects.result (state c.args.server.now)
    (state c.loop-count.server) (state c.take_stretch.new.server) c.in_ok-stretch.field-0 c.in-Some.stretch c.in-Some.is
    c.in_ok-stretch.ensures.taken c.loop-count.invariant.0 c.saturating_add-effects.ensures)
