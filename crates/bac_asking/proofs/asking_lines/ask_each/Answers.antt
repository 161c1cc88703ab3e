use Rattle.std.proofs.Common.{◌<◌, ◌+◌, length, drop, refl, arith}
use Rattle.std.proofs.lemmas.List.{drop_all}
use Rattle.std.proofs.lemmas.Option.{slice_get_read}
use Rattle.bac_driver.specs.Runs.{timed}
use Rattle.bac_environment.proofs.Lists.{drop_next}
use Rattle.bac_asking.specs.AskedLines.{AsksEach}
use Rattle.bac_environment.specs.Sockets.{OnPort}
use Rattle.bac_asking.proofs.AskedLines.{all_asked, one_more_asked}
use Rattle.bac_asking.proofs.asking_lines.ask_each.Goals as goal

pub loop-place-preserved : goal.loop-place-preserved
loop-place-preserved g c =
    let at = c.loop-place in
    let e = c.index-lines-place.result in
    let lt : at.place < length c.args.lines.now = omega arith in
    λ all last end more. one_more_asked (OnPort g.M.Sockets.is_bound g.M.Link.Link.failures g.M.Link.Link.calls) c.args.asking.now
    (drop at.place c.args.lines.now) (drop (at.place + 1) c.args.lines.now) e at.all _ _ all _ _ last _ _ end
    (λ b t o. AsksEach (OnPort g.M.Sockets.is_bound g.M.Link.Link.failures g.M.Link.Link.calls) c.args.asking.now c.args.lines.now b
    (timed c.args.client.now.station.bound_node (g.M.Timer.Clock.told c.args.client.now.station.clock)) t (g.O.Write.contents c.args.out.now) o)
    (drop_next c.args.lines.now at.place e (slice_get_read c.args.lines.now _ at.place e refl lt c.index-lines-place.is))
    c.both-all.ensures c.in_ok-succeeded.ensures.asked at.invariant more

pub returns-clause-asked : goal.returns-clause-asked
returns-clause-asked g c =
    let at = c.loop-place in
    all_asked (OnPort g.M.Sockets.is_bound g.M.Link.Link.failures g.M.Link.Link.calls) c.args.asking.now (drop at.place c.args.lines.now) at.all _ _
    (λ b t o. AsksEach (OnPort g.M.Sockets.is_bound g.M.Link.Link.failures g.M.Link.Link.calls) c.args.asking.now c.args.lines.now b
    (timed c.args.client.now.station.bound_node (g.M.Timer.Clock.told c.args.client.now.station.clock)) t (g.O.Write.contents c.args.out.now) o)
    (drop_all at.place c.args.lines.now (omega arith)) at.invariant
