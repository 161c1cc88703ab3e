-- The log of each run in stretches is right, where all transfers are short.
use Rattle.bac_world.proofs.Stretched.{apart_long_in, once_ever_long_in, once_long_in}
use Rattle.bac_world.proofs.stretches.long_apdus_need_no_bound_on_overtaking.Goals as goal

pub returns-clause-once : goal.returns-clause-once
returns-clause-once c = λ W overtake ever before among w w' fresh timely long stretches permitted throughout run fits.
    once_long_in W overtake ever before among w w' fresh timely long stretches permitted throughout run fits

pub returns-clause-once_without_reuse : goal.returns-clause-once_without_reuse
returns-clause-once_without_reuse c = λ W overtake ever before among w w' fresh timely long stretches permitted throughout run fits none.
    once_ever_long_in W overtake ever before among w w' fresh timely long stretches permitted throughout run fits none

pub returns-clause-apart : goal.returns-clause-apart
returns-clause-apart c = λ W overtake ever before among w w' fresh timely long stretches permitted throughout run fits none.
    apart_long_in W overtake ever before among w w' fresh timely long stretches permitted throughout run fits none
