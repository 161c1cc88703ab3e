use Rattle.std.proofs.Common.{◌≤◌, subst}
use Rattle.bac_store.specs.Replies.{reply_to}
use Rattle.bac_store.specs.ReplyLengths.{DATA_LIMIT, reply_length}
use Rattle.bac_store.proofs.ReplySizes.{replies_within}
use Rattle.bac_store.proofs.laws.replies_can_be_sent.Goals as goal

pub returns : goal.returns
returns c = λ r. subst (λ s. reply_length (reply_to s r) ≤ DATA_LIMIT) c.store.view_is (replies_within _ c.store.invariant r)
