use Rattle.bac_world.proofs.Headline.{headline_so}
use Rattle.bac_world.proofs.at_most_once_where_reused.Goals as goal

pub returns : goal.returns
returns c = λ W overtake u w w' fresh timely bound events run. headline_so u W overtake w w' fresh timely bound events run
