use Rattle.std.proofs.Common.{take}
use Rattle.std.specs.Io.KnownBytes.{Appends}
use Rattle.bac_commands.specs.AnswerTexts.{lines_of}
use Rattle.bac_commands.proofs.answering.printing.print_lines.Given as goal

abbrev pub invariant-loop-datagram : goal.invariant-loop-datagram
invariant-loop-datagram g l = Appends (g.W.Write.contents l.initial.out) (g.W.Write.contents l.out) (lines_of (take l.datagram-index l.sent))
