-- What is due first in the table is due first at the end.
use Rattle.std.proofs.Common.{◌∙◌, sym, arith}
use Rattle.bac_protocol.specs.Server.{ServerTransaction}
use Rattle.bac_transaction.proofs.Viewed.{due_viewed, each_viewed}
use Rattle.bac_responder.specs.Timers.{IsQuiet, due_of, life_end}
use Rattle.bac_responder.specs.Views.{end_of}
use Rattle.bac_responder.proofs.Waiting.{servers_move, servers_rest}
use Rattle.bac_responder.proofs.responder.Responder.next_due.Goals as goal

pub returns-clause-rests : goal.returns-clause-rests
returns-clause-rests g c =
    let slots = g.S.SlotTable.slots c.self.inside.aged.table in
    let end = end_of slots (g.S.SlotTable.capacity c.self.inside.aged.table) c.self.inside.restart in
    let lives = c.first_end.ensures ∙ sym (due_viewed ServerTransaction life_end slots) in
    let first = c.min.ensures in
    rw (← c.self.view_is) (λ settings moment started before. servers_rest settings moment c.args.from c.first_timer.result started (omega (arith, first, before)) end
    (each_viewed ServerTransaction (IsQuiet c.args.from c.first_timer.result) slots c.first_timer.ensures.quiet) (omega (arith, first, before, lives)))

pub returns-clause-moves : goal.returns-clause-moves
returns-clause-moves g c =
    let slots = g.S.SlotTable.slots c.self.inside.aged.table in
    let end = end_of slots (g.S.SlotTable.capacity c.self.inside.aged.table) c.self.inside.restart in
    rw (← c.self.view_is) (λ settings within. servers_move settings c.args.from c.first_timer.result c.first_end.result c.min.result end
    (λ soon. due_viewed ServerTransaction (due_of c.args.from) slots ∙ c.first_timer.ensures.first soon)
    (c.first_end.ensures ∙ sym (due_viewed ServerTransaction life_end slots)) c.min.ensures within)
