-- One more line has ended.
use Rattle.std.proofs.Common.{◌≡◌, ◌++◌, [], ◌∷◌, arith}
use Rattle.std.proofs.lemmas.Grind.{common_steps}
use Rattle.bac_environment.specs.Sockets.{OnPort}
use Rattle.bac_asking.proofs.Gathered.{none_so_far, one_more_so_far}
use Rattle.bac_asking.proofs.gathering.end_all_lines.Goals as goal

pub loop-place-init : goal.loop-place-init
loop-place-init g c = none_so_far (OnPort g.M.Sockets.is_bound g.M.Link.Link.failures g.M.Link.Link.calls) _ _ _ c.new-ends.ensures.items

pub loop-place-preserved : goal.loop-place-preserved
loop-place-preserved g c =
    let items : c.push.new.self.items ≡ c.loop-place.ends.items ++ (c.in_ok-end.end ∷ []) = grind (arith, common_steps) in
    one_more_so_far (OnPort g.M.Sockets.is_bound g.M.Link.Link.failures g.M.Link.Link.calls) _ _ _ _ _ _ _ _ c.loop-place.invariant
    c.in_ok-end.ensures.ended items
