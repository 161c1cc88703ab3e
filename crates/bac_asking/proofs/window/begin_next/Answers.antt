-- The ask of the first line that may begin began, or had to wait.
use Rattle.std.proofs.Common.{◌≡◌, ◌<◌, length, slice_get, Some, refl, sym, ◌∙◌, rules}
use Rattle.std.proofs.lemmas.Option.{slice_get_read}
use Rattle.bac_asking.specs.InFlight.{plan_view, sky}
use Rattle.bac_environment.specs.Sockets.{OnPort}
use Rattle.bac_asking.proofs.InFlight.{begins_so, holds_so}
use Rattle.bac_asking.proofs.window.begin_next.Goals as goal

pub returns-in-None-clause-goes : goal.returns-in-None-clause-goes
returns-in-None-clause-goes g c =
    let within : c.waiting_at-waiting.result.place < length c.args.plan.now.lines.now = search rules in
    let line_is : slice_get c.args.plan.now.lines.now c.waiting_at-waiting.result.place ≡ Some c.in-Some-get.line.now =
    slice_get_read c.args.plan.now.lines.now _ c.waiting_at-waiting.result.place c.in-Some-get.line.now refl within c.in-Some-get.ensures.lookup.1 in
    holds_so (OnPort g.M.Sockets.is_bound g.M.Link.Link.failures g.M.Link.Link.calls) (plan_view c.args.plan.now) c.waiting_at-waiting.result.place
    c.number.result c.in-Some-get.line.now c.is_idle-is_idle.result c.in_ok-begun.begun (sky c.args.traffic.now.flights) _ _ _ _ line_is
    c.is_idle-is_idle.ensures c.number.ensures c.in-None.is c.in_ok-begun.ensures.begun

pub returns-in_ok-take_up-in-Some-begun-clause-goes : goal.returns-in_ok-take_up-in-Some-begun-clause-goes
returns-in_ok-take_up-in-Some-begun-clause-goes g c =
    let within : c.waiting_at-waiting.result.place < length c.args.plan.now.lines.now = search rules in
    let line_is : slice_get c.args.plan.now.lines.now c.waiting_at-waiting.result.place ≡ Some c.in-Some-get.line.now =
    slice_get_read c.args.plan.now.lines.now _ c.waiting_at-waiting.result.place c.in-Some-get.line.now refl within c.in-Some-get.ensures.lookup.1 in
    begins_so (OnPort g.M.Sockets.is_bound g.M.Link.Link.failures g.M.Link.Link.calls) (plan_view c.args.plan.now) c.in-Some.at c.number.result c.number-in-Some-begun.result
    c.waiting_at-waiting.result c.in-Some-get.line.now c.is_idle-is_idle.result c.in_ok-begun.begun c.in-Some-begun.begun (sky c.args.traffic.now.flights)
    (sky c.take_up.new.self) _ _ _ _ (search rules) (sym c.next_to_begin.ensures ∙ c.in-Some.is) c.waiting_at-waiting.ensures line_is
    c.is_idle-is_idle.ensures c.number.ensures c.in-Some-begun.is c.in_ok-begun.ensures.begun c.number-in-Some-begun.ensures c.in_ok-take_up-in-Some-begun.ensures.taken
