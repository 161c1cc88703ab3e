-- The table is that of the file at the path.
use Rattle.std.proofs.Common.{refl}
use Rattle.bac_asking.proofs.unheard.is_unlisted.Goals as goal

pub returns-in-Ok : goal.returns-in-Ok
returns-in-Ok g c = λ yes.
    record {
      content = g.F.File.Read.remaining c.in-Ok.file;
      at = record { file = c.in-Ok.file; opened = c.in-Ok.ensures; is = refl };
      says = c.is_unheard_by.ensures yes;
    }
