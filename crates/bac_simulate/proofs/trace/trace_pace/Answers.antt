use Rattle.bac_simulate.proofs.Tracing.{pace_drawn, pace_not_drawn}
use Rattle.bac_simulate.proofs.trace.trace_pace.Goals as goal

pub returns-in_ok-push-in-Ok : goal.returns-in_ok-push-in-Ok
returns-in_ok-push-in-Ok g c =
    let clock = c.args.clock.now in
    pace_drawn c.args.line clock.node clock.rate c.ms_now.result c.args.world.now c.set_pace.new.self c.args.marks.now.items c.push.new.self.items c.in_ok-mark.mark
    c.set_pace.ensures.same c.set_pace.ensures.settings.0 c.set_pace.ensures.settings.2 c.in-Ok.ensures.paced c.in-Ok.ensures.within c.ms_now.ensures c.in_ok-mark.ensures
    c.in_ok-push-in-Ok.ensures.items

pub returns-in-Err : goal.returns-in-Err
returns-in-Err g c =
    let clock = c.args.clock.now in
    let told = c.in-Err.ensures in
    pace_not_drawn c.args.line clock.node clock.rate c.in-Err.fault c.args.world.now c.set_pace.new.self c.args.marks.now.items c.stops.result told.node
    told.beyond told.err c.stops.ensures
