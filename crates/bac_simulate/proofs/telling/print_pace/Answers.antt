use Rattle.bac_simulate.proofs.ToldTexts.{pace_told}
use Rattle.bac_simulate.proofs.telling.print_pace.Goals as goal

pub returns-in_ok-print_paced-in-Ok : goal.returns-in_ok-print_paced-in-Ok
returns-in_ok-print_paced-in-Ok g c =
    let clock = c.args.clock.now in
    pace_told c.args.style c.args.line clock.node clock.rate c.ms_now.result c.args.world.now c.set_pace.new.self _ _ c.set_pace.ensures.same
    c.set_pace.ensures.settings.0 c.set_pace.ensures.settings.2 c.in-Ok.ensures.paced c.in-Ok.ensures.within c.ms_now.ensures c.in_ok-print_paced-in-Ok.ensures
