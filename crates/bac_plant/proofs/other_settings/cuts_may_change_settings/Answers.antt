-- Cuts, and starts after them, are moves.
use Rattle.bac_plant.proofs.CutMoves.{cut_moves, cut_moves_go_on}
use Rattle.bac_plant.proofs.other_settings.cuts_may_change_settings.Goals as goal

pub returns-clause-moves : goal.returns-clause-moves
returns-clause-moves c = cut_moves

pub returns-clause-reached : goal.returns-clause-reached
returns-clause-reached c = cut_moves_go_on
