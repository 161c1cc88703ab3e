-- The line that ended is the one that was printed.
use Rattle.std.proofs.lemmas.Option.{slice_get-get_or}
use Rattle.bac_asking.specs.InFlight.{plan_view}
use Rattle.bac_environment.specs.Sockets.{OnPort}
use Rattle.bac_asking.proofs.InFlight.{told_so}
use Rattle.bac_asking.proofs.window.tell_line.Goals as goal

pub returns-in-Ok-clause-told : goal.returns-in-Ok-clause-told
returns-in-Ok-clause-told g c =
    told_so (OnPort g.M.Sockets.is_bound g.M.Link.Link.failures g.M.Link.Link.calls) (plan_view c.args.plan.now) c.args.place _ c.in-Ok.end _ _ _ _
    c.print_line.result (slice_get-get_or c.args.plan.now.lines.now c.args.place _ c.requires) c.in-Ok.ensures.ended
    c.print_line.ensures.told
