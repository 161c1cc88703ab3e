-- The object types of the standard: the table in code.
use Rattle.std.specs.Prelude.{List, map}
use Rattle.bac_value_text.specs.Names.{Row}
use Rattle.bac_value_text.specs.declared.object_types.TheConstants as code

unfoldable pub OBJECT_TYPES : List Row
OBJECT_TYPES = map (λ r. (r.0.now, r.1)) code.ROWS.now
