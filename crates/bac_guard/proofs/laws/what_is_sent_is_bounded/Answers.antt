-- What is sent through a bucket is bounded.
use Rattle.bac_guard.proofs.Bounds.{fresh_bounded}
use Rattle.bac_guard.proofs.laws.what_is_sent_is_bounded.Goals as goal

pub returns : goal.returns
returns c = fresh_bounded
