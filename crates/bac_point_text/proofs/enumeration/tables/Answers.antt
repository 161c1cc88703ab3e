use Rattle.std.proofs.Common.{refl}
use Rattle.bac_point_text.specs.Enumerations.{TABLES}
use Rattle.bac_point_text.proofs.enumeration.tables.Goals as goal

pub returns : goal.returns
unfolding TABLES
returns c = refl
