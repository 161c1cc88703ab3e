use Rattle.bac_world.proofs.Headline.{apart_long, headline_long, headline_long_so}
use Rattle.bac_world.proofs.long_apdus_need_no_bound_on_overtaking.Goals as goal

pub returns-clause-once : goal.returns-clause-once
returns-clause-once c = λ W overtake w w' fresh timely long events asks run fits. headline_long W overtake w w' fresh timely long events asks run fits

pub returns-clause-once_where_reused : goal.returns-clause-once_where_reused
returns-clause-once_where_reused c = λ u W overtake w w' fresh timely long events asks run fits.
    headline_long_so u W overtake w w' fresh timely long events asks run fits

pub returns-clause-apart : goal.returns-clause-apart
returns-clause-apart c = λ W overtake w w' fresh timely long events asks run fits. apart_long W overtake w w' fresh timely long events asks run fits
