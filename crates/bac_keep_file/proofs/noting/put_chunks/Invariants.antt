use Rattle.bac_value.specs.Views.{object_identifier_view}
use Rattle.bac_keep_file.proofs.Puts.{IsPutting}
use Rattle.bac_keep_file.proofs.noting.put_chunks.Given as goal

abbrev pub invariant-loop-at : goal.invariant-loop-at
invariant-loop-at g l = IsPutting g.S.Store.view g.S.Store.faults g.S.Store.recovers (object_identifier_view l.object) l.octets l.initial.database l.at l.database
