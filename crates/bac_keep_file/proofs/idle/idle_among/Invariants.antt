use Rattle.std.proofs.Common.{take}
use Rattle.bac_keep_file.specs.Idle.{AreIdle}
use Rattle.bac_keep_file.proofs.idle.idle_among.Given as goal

abbrev pub invariant-loop-at : goal.invariant-loop-at
invariant-loop-at l = AreIdle l.document (take l.at l.cells) l.idle.items
