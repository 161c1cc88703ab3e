-- The columns of one batch more.
use Rattle.std.proofs.Common.{◌≡◌, ◌&&◌, ◌∙◌, ap, sym}
use Rattle.bac_value.specs.Views.{object_identifier_view}
use Rattle.bac_environment.specs.Sockets.{OnPort}
use Rattle.bac_points.proofs.Batches.{columns_stopped, more_columns, split_maps}
use Rattle.bac_points.proofs.listing.list_objects.Goals as goal
use Rattle.bac_points.proofs.listing.list_objects.Goals.{then-all, else-all}

pub returns-then-listed-clause-read : goal.returns-then-listed-clause-read
returns-then-listed-clause-read g c =
    let all : c.if-all.all ≡ c.loop-rest.all && c.in_ok-listed.listed.is_whole = elim c.if-all.branch [
      | then-all w ↦ w.all-is ∙ ap (λ before. before && c.in_ok-listed.listed.is_whole) (sym w.if-all.true)
      | else-all w ↦ w.all-is ∙ w.if-all.false ∙ ap (λ before. before && c.in_ok-listed.listed.is_whole) (sym w.if-all.false)
    ] in
    columns_stopped (OnPort g.M.Sockets.is_bound g.M.Link.Link.failures g.M.Link.Link.calls) _ _ _ _ _ _ _ _ _ _ _ _ _
    (split_maps object_identifier_view _ c.loop-rest.rest.now c.split_at.result.0.now c.split_at.result.1.now c.split_at.ensures.front c.split_at.ensures.back)
    all c.if-listed.true c.loop-rest.invariant c.in_ok-listed.ensures.asked

pub loop-rest-preserved : goal.loop-rest-preserved
loop-rest-preserved g c =
    let all : c.if-all.all ≡ c.loop-rest.all && c.in_ok-listed.listed.is_whole = elim c.if-all.branch [
      | then-all w ↦ w.all-is ∙ ap (λ before. before && c.in_ok-listed.listed.is_whole) (sym w.if-all.true)
      | else-all w ↦ w.all-is ∙ w.if-all.false ∙ ap (λ before. before && c.in_ok-listed.listed.is_whole) (sym w.if-all.false)
    ] in
    more_columns (OnPort g.M.Sockets.is_bound g.M.Link.Link.failures g.M.Link.Link.calls) _ _ _ _ _ _ _ _ _ _ _ _ _
    (split_maps object_identifier_view _ c.loop-rest.rest.now c.split_at.result.0.now c.split_at.result.1.now c.split_at.ensures.front c.split_at.ensures.back)
    all c.loop-rest.invariant c.in_ok-listed.ensures.asked
