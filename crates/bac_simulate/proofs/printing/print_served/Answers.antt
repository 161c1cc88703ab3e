use Rattle.std.proofs.Common.{◌++◌}
use Rattle.bac_npdu.specs.Views.{peer_view}
use Rattle.bac_service.specs.Views.{owned_reply_view}
use Rattle.bac_service_text.specs.Answers.{reply_text}
use Rattle.bac_simulate.specs.Printed.{served_head}
use Rattle.bac_text.specs.Texts.{line_end}
use Rattle.bac_simulate.proofs.Appending.{before}
use Rattle.bac_simulate.proofs.printing.print_served.Goals as goal

pub returns : goal.returns
returns g c =
    before c.print_reply_line.result _ _ _ (served_head c.args.node (peer_view c.args.peer)) (reply_text (owned_reply_view c.args.reply.now) ++ line_end)
    c.in_ok-print_served_head.ensures c.print_reply_line.ensures
