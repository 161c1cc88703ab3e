use Rattle.sqlite_wal.specs.Reads.{OnlyReads}
use Rattle.bac_keep_file.proofs.whole.has_pages.Given as goal

abbrev pub invariant-loop-i : goal.invariant-loop-i
invariant-loop-i g l = OnlyReads g.D.Disk l.initial.log l.log × OnlyReads g.D.Disk l.initial.db l.db
