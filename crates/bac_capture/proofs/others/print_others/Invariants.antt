-- The kinds before this index are printed.
use Rattle.std.specs.Io.KnownBytes.{Appends}
use Rattle.bac_capture.specs.Checked.{others_text}
use Rattle.bac_capture.proofs.others.print_others.Given as goal

abbrev pub invariant-loop-place : goal.invariant-loop-place
invariant-loop-place g l = Appends (g.W.Write.contents l.initial.out) (g.W.Write.contents l.out) (others_text l.place l.others)
