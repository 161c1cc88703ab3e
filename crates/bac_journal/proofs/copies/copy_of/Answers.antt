-- The datagram's copy.
use Rattle.std.proofs.Common.{refl, ap, Some, ◌∙◌}
use Rattle.bac_apdu.specs.Views.{apdu_view}
use Rattle.bac_journal.proofs.Sends.{becomes_nothing, becomes_copy}
use Rattle.bac_journal.proofs.copies.copy_of.Goals as goal

pub returns-in_err-apdu-clause-none : goal.returns-in_err-apdu-clause-none
returns-in_err-apdu-clause-none c = λ nodes linked d k none.
    becomes_nothing nodes c.args.links.now linked c.args.now c.args.sender _ c.args.datagram c.octets.result.now c.octets.ensures
    (c.in_err-apdu.ensures.none refl) d k

pub returns-clause-some : goal.returns-clause-some
returns-clause-some c = λ nodes linked.
    becomes_copy nodes c.args.links.now linked c.args.now c.args.sender c.in_ok-to.to _ c.args.datagram _ c.octets.result.now c.into_octets.result.items
    c.requires.sender (c.in_ok-to.ensures.some ∙ ap Some c.to.ensures) c.octets.ensures c.into_octets.ensures
    (apdu_view c.in_ok-apdu.apdu) c.in_ok-apdu.ensures.means c.transaction_of-transaction.ensures.is
