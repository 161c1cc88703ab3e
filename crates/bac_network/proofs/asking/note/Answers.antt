-- It is noted.
use Rattle.std.proofs.Common.{length, ap, ◌∙◌}
use Rattle.bac_service.specs.Views.{owned_request_view}
use Rattle.bac_network.specs.Views.{log_view}
use Rattle.bac_network.proofs.Asked.{noted_ask}
use Rattle.bac_network.proofs.Entered.{log_push, notes_many}
use Rattle.bac_network.proofs.asking.note.Goals as goal

pub returns : goal.returns
returns c = λ nodes linked.
    noted_ask nodes c.args.client c.args.server (owned_request_view c.args.request) c.args.asked.invoke_id c.args.asked.ticket c.args.asked.sends.items
    c.args.journal.now c.note.new.self c.send.new.self c.begin_ask.new.self (log_view c.args.log.now.items) (log_view c.push_reserved.new.self.items) _
    c.note.ensures c.send.ensures.same linked (c.send.ensures.copies nodes) c.begin_ask.ensures.is c.begin_ask.ensures.lives _
    (ap log_view c.push_reserved.ensures.items ∙ log_push c.args.log.now.items _)
    (notes_many c.notes-number.result.now ∙ ap length c.notes-number.ensures)
