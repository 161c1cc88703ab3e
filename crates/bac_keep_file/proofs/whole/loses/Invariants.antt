use Rattle.sqlite_wal.specs.Reads.{OnlyReads}
use Rattle.bac_keep_file.proofs.whole.loses.Given as goal

abbrev pub invariant-loop : goal.invariant-loop
invariant-loop g l = OnlyReads g.D.Disk l.initial.log l.log
