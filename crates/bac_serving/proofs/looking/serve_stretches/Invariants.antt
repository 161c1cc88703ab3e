-- So many stretches were taken, and nothing else.
use Rattle.bac_serving.specs.Stretches.{AreTaken}
use Rattle.bac_serving.proofs.looking.serve_stretches.Given as goal

abbrev pub invariant-loop-count : goal.invariant-loop-count
invariant-loop-count g l =
    AreTaken g.S.Stretching.serves l.stop.at l._count l.effects (g.S.Stretching.state l.fn.server) (g.S.Stretching.state l.server)
    × g.S.Stretching.IsSound l.server × (g.S.Stretching.IsHonest l.server → g.S.Stretching.IsHonest l.fn.server)
