use Rattle.std.proofs.Common.{◌≡◌, drop}
use Rattle.bac_value_text.specs.Names.{number_in, plain}
use Rattle.bac_value_text.proofs.rows.number_in.Given as goal

abbrev pub invariant-loop-row : goal.invariant-loop-row
invariant-loop-row l = number_in (plain l.rows) l.name ≡ number_in (plain (drop l.row-index l.rows)) l.name
