use Rattle.std.proofs.Common.{◌∙◌, sym}
use Rattle.bac_simulate.proofs.Stepping.{happened, turned_down}
use Rattle.bac_simulate.proofs.simulate.event_and_print.Goals as goal

pub returns-in-Ok : goal.returns-in-Ok
returns-in-Ok g c =
    happened c.args.line c.args.event.now c.in-Ok.refused c.args.world.now c.step.new.self c.of-before.result.facts c.of-before.result.copies _ _
    c.of-before.ensures.facts c.of-before.ensures.copies c.in-Ok.ensures.went c.in-Ok.ensures.told c.step.ensures.settings.0 c.step.ensures.settings.2 c.in-Ok.ensures.passed
    c.in_ok-print_outcome-in-Ok.ensures

pub returns-in_ok-print_refused-in-Some : goal.returns-in_ok-print_refused-in-Some
returns-in_ok-print_refused-in-Some g c =
    let told = c.in-Err.ensures in
    turned_down c.args.line c.args.event.now c.in-Err.fault c.in-Some.why c.args.world.now c.step.new.self c.number.result _ _
    (sym c.change_fault_in.ensures ∙ c.in-Some.is) told.faults.change told.err c.number.ensures c.in_ok-print_refused-in-Some.ensures
