use Rattle.bac_store.proofs.ReplyKinds.{replies_fit}
use Rattle.bac_store.proofs.laws.replies_fit_requests.Goals as goal

pub returns : goal.returns
returns c = replies_fit
