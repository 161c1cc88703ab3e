-- The log of each run in stretches is right.
use Rattle.bac_world.proofs.Stretched.{apart_in, once_ever_in, once_in}
use Rattle.bac_world.proofs.stretches.at_most_once.Goals as goal

pub returns-clause-once : goal.returns-clause-once
returns-clause-once c = λ W overtake ever before among w w' fresh timely bounded stretches permitted run.
    once_in W overtake ever before among w w' fresh timely bounded stretches permitted run

pub returns-clause-once_without_reuse : goal.returns-clause-once_without_reuse
returns-clause-once_without_reuse c = λ W overtake ever before among w w' fresh timely bounded stretches permitted run none.
    once_ever_in W overtake ever before among w w' fresh timely bounded stretches permitted run none

pub returns-clause-apart : goal.returns-clause-apart
returns-clause-apart c = λ W overtake ever before among w w' fresh timely bounded stretches permitted run none.
    apart_in W overtake ever before among w w' fresh timely bounded stretches permitted run none
