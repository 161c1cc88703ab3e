-- The elements of one batch more.
use Rattle.std.proofs.Common.{rules, ◌≡◌, ◌+◌, ◌≤◌, refl, map, arith}
use Rattle.bac_points.specs.Lists.{elements}
use Rattle.bac_value.specs.Views.{object_identifier_view}
use Rattle.bac_service.specs.Views.{property_reference_view}
use Rattle.bac_environment.specs.Sockets.{OnPort}
use Rattle.bac_points.proofs.Batches.{more_came, one_lacked}
use Rattle.bac_points.proofs.Elements.{all_came, not_all_came}
use Rattle.bac_points.proofs.objects.objects_in_parts.Goals as goal

pub returns-then-not-came-clause-read : goal.returns-then-not-came-clause-read
returns-then-not-came-clause-read g c =
    let came = c.in_ok-came.ensures.added in
    let are : map property_reference_view c.deref.result.now ≡ elements (object_identifier_view c.args.device) c.loop-behind.behind c.min-more.result = search rules in
    let within : c.loop-behind.behind + c.min-more.result ≤ c.args.count = search (rules, arith) in
    one_lacked (OnPort g.M.Sockets.is_bound g.M.Link.Link.failures g.M.Link.Link.calls) _ _ _ _ _ _ _ came.ends _ _ _ _ within are c.loop-behind.invariant.0 came.asks
    (not_all_came (OnPort g.M.Sockets.is_bound g.M.Link.Link.failures g.M.Link.Link.calls) _ _ _ _ _ _ _ _ came c.if-not-came.true)

pub loop-behind-preserved : goal.loop-behind-preserved
loop-behind-preserved g c =
    let came = c.in_ok-came.ensures.added in
    let are : map property_reference_view c.deref.result.now ≡ elements (object_identifier_view c.args.device) c.loop-behind.behind c.min-more.result = search rules in
    let within : c.loop-behind.behind + c.min-more.result ≤ c.args.count = search (rules, arith) in (
      more_came (OnPort g.M.Sockets.is_bound g.M.Link.Link.failures g.M.Link.Link.calls) _ _ _ _ _ _ _ came.ends _ _ _ _ _ refl are c.loop-behind.invariant.0 came.asks
          (all_came (OnPort g.M.Sockets.is_bound g.M.Link.Link.failures g.M.Link.Link.calls) _ _ _ _ _ _ _ _ came c.if-not-came.false),
      within,
    )
