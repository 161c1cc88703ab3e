use Rattle.bac_store.proofs.OrderLaws.{same_reply, store_after}
use Rattle.bac_store.proofs.laws.order_says_nothing.Goals as goal

pub returns-clause-replies : goal.returns-clause-replies
returns-clause-replies c = same_reply

pub returns-clause-after : goal.returns-clause-after
returns-clause-after c = store_after
