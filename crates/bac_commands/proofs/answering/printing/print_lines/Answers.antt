use Rattle.bac_commands.proofs.PrintedAnswers.{one_more}
use Rattle.bac_commands.proofs.answering.printing.print_lines.Goals as goal

pub loop-datagram-preserved : goal.loop-datagram-preserved
loop-datagram-preserved g c =
    one_more _ _ _ c.args.sent.now c.loop-datagram.datagram-index c.datagram-item.result c.loop-datagram-test.true c.loop-datagram.invariant
    (rw (← c.datagram-item.is) c.in_ok-print_line.ensures)
