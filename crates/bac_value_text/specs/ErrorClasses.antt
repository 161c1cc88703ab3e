-- The error classes of the standard: the table in code.
use Rattle.std.specs.Prelude.{List, map}
use Rattle.bac_value_text.specs.Names.{Row}
use Rattle.bac_value_text.specs.declared.error_classes.TheConstants as code

unfoldable pub ERROR_CLASSES : List Row
ERROR_CLASSES = map (λ r. (r.0.now, r.1)) code.ROWS.now
