use Rattle.bac_liveness.proofs.StraightRuns.Room.{have_room}
use Rattle.bac_liveness.proofs.tables.tables_have_room.Goals as goal

pub returns : goal.returns
returns c = λ overtake first old fresh events run. have_room overtake events first old run fresh
