-- What the table says of its slots, the end says.
use Rattle.std.proofs.Common.{ap, ◌∙◌}
use Rattle.bac_transaction.specs.Sharing.{address_of, has_share}
use Rattle.bac_responder.proofs.responder.Responder.has_share.Goals as goal

pub returns : goal.returns
returns g c = c.has_share.ensures c.self.inside.restart ∙ ap (has_share c.args.now (address_of c.args.link.now)) c.self.view_is
