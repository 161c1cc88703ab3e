-- Power cuts, and starts with other settings after them, are moves of the plant.
use Rattle.std.proofs.Common.{[], ◌∷◌, ap, subst}
use Rattle.bac_plant.specs.CutMoves.{CutMove, CutMovesAreMoves, CutMovesGoOn, moves_of}
use Rattle.bac_plant.specs.Cuts.{CutPlant, CutStep}
use Rattle.bac_plant.specs.Moves.{MoveRun}
use Rattle.bac_plant.specs.Plants.{Plant}
use Rattle.bac_plant.proofs.Moves.{moves_go_on}

pub cut_moves : CutMovesAreMoves
cut_moves overtake [] old new run = ap (λ (c : CutPlant). c.plant) run
cut_moves overtake (CutMove.Goes (CutStep.Goes step) ∷ later) old new run = ((run.0).plant, (run.1).goes, cut_moves overtake later run.0 new run.2)
cut_moves overtake (CutMove.Goes (CutStep.Loses i source turn) ∷ later) old new run =
    subst (λ (p : Plant). MoveRun overtake p (moves_of later) new.plant) (ap (λ (c : CutPlant). c.plant) (run.1).is)
    (cut_moves overtake later run.0 new run.2)
cut_moves overtake (CutMove.Goes (CutStep.Cuts i exact) ∷ later) old new run =
    ((run.0).plant, (run.1).starts, cut_moves overtake later run.0 new run.2)
cut_moves overtake (CutMove.StartsAnew anew ∷ later) old new run = ((run.0).plant, (run.1).starts, cut_moves overtake later run.0 new run.2)

pub cut_moves_go_on : CutMovesGoOn
cut_moves_go_on W overtake ever first old new r moves may run =
    moves_go_on W overtake ever first old.plant r (moves_of moves) may new.plant (cut_moves overtake moves old new run)
