-- A run without reuse is as ever.
use Rattle.bac_reuse.proofs.Likewise.{runs_same}
use Rattle.bac_reuse.proofs.none_reuses.Goals as goal

pub returns : goal.returns
returns g c = λ model rules reusing none events world. runs_same _ model rules reusing none events world
