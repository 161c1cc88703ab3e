-- What is due first in the table is due first at the end.
use Rattle.std.proofs.Common.{◌∙◌, sym}
use Rattle.bac_protocol.specs.declared.times.TheConstants.{REST}
use Rattle.bac_transaction.specs.Ends.{Client, first_after}
use Rattle.bac_transaction.proofs.Viewed.{due_viewed, each_viewed}
use Rattle.bac_requester.specs.Timers.{IsHeldQuiet}
use Rattle.bac_requester.specs.Aging.{client_due}
use Rattle.bac_requester.specs.Views.{end_of}
use Rattle.bac_requester.proofs.Waiting.{clients_move, clients_rest}
use Rattle.bac_requester.proofs.requester.Requester.next_due.Goals as goal

pub returns-clause-rests : goal.returns-clause-rests
returns-clause-rests g c =
    let slots = g.S.SlotTable.slots c.self.inside.aged.table in
    let end = end_of slots (g.S.SlotTable.capacity c.self.inside.aged.table) c.self.inside.asked (first_after REST c.self.inside.restart) c.self.inside.first_id in
    rw (← c.self.view_is) (λ settings now before. clients_rest settings now c.first_due.result before end
    (each_viewed Client (λ v. IsHeldQuiet c.first_due.result v.held) slots c.first_due.ensures.quiet))

pub returns-clause-moves : goal.returns-clause-moves
returns-clause-moves g c =
    let slots = g.S.SlotTable.slots c.self.inside.aged.table in
    let end = end_of slots (g.S.SlotTable.capacity c.self.inside.aged.table) c.self.inside.asked (first_after REST c.self.inside.restart) c.self.inside.first_id in
    rw (← c.self.view_is) (λ settings now reached within. clients_move settings now c.first_due.result end reached within
    (due_viewed Client (client_due 0) slots ∙ sym c.first_due.ensures.due)
    (each_viewed Client (λ v. IsHeldQuiet c.first_due.result v.held) slots c.first_due.ensures.quiet))
