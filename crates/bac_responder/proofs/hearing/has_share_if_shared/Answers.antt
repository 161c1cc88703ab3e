-- Where slots are shared, the address is asked for its share.
use Rattle.std.proofs.Common.{sym, ◌∙◌}
use Rattle.bac_responder.proofs.Shares.{asked}
use Rattle.bac_responder.proofs.hearing.has_share_if_shared.Goals as goal

pub returns-then-shares : goal.returns-then-shares
returns-then-shares g c = c.has_share.ensures c.args.told.now.restart ∙ asked _ _ (sym c.shares.ensures ∙ c.if-shares.true)
