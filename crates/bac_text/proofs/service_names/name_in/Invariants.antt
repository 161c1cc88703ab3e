use Rattle.std.proofs.Common.{◌≡◌, drop}
use Rattle.bac_value_text.specs.Names.{name_in, plain}
use Rattle.bac_text.proofs.service_names.name_in.Given as goal

abbrev pub invariant-loop-row : goal.invariant-loop-row
invariant-loop-row l = name_in (plain l.rows) l.number ≡ name_in (plain (drop l.row-index l.rows)) l.number
