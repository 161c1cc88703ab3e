-- The Abort reasons of the standard: the table in code.
use Rattle.std.specs.Prelude.{List, map}
use Rattle.bac_value_text.specs.Names.{Row}
use Rattle.bac_value_text.specs.declared.abort_reasons.TheConstants as code

unfoldable pub ABORT_REASONS : List Row
ABORT_REASONS = map (λ r. (r.0.now, r.1)) code.ROWS.now
