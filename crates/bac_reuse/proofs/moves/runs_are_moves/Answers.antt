-- Each run is moves.
use Rattle.bac_reuse.proofs.Stored.{run_reached}
use Rattle.bac_reuse.proofs.moves.runs_are_moves.Goals as goal

pub returns : goal.returns
returns g c = λ model opening W rules bound reusing pace timely clocks events. run_reached _ model opening W rules bound reusing pace timely clocks events
