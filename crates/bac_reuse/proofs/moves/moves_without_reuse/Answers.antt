-- Each move is as ever.
use Rattle.bac_reuse.proofs.ReusingMoves.{apart_same, moves_same, orderly_same, reached_same}
use Rattle.bac_reuse.proofs.moves.moves_without_reuse.Goals as goal

pub returns-clause-moves : goal.returns-clause-moves
returns-clause-moves c = λ rules reusing none net move. moves_same rules reusing none net move

pub returns-clause-reached : goal.returns-clause-reached
returns-clause-reached c = λ rules reusing none from net reached. reached_same rules reusing none from net reached

pub returns-clause-orderly : goal.returns-clause-orderly
returns-clause-orderly c = λ reusing none log orderly. orderly_same reusing none log orderly

pub returns-clause-apart : goal.returns-clause-apart
returns-clause-apart c = λ reusing none net apart. apart_same reusing none net apart
