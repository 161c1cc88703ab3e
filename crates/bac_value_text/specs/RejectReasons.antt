-- The Reject reasons of the standard: the table in code.
use Rattle.std.specs.Prelude.{List, map}
use Rattle.bac_value_text.specs.Names.{Row}
use Rattle.bac_value_text.specs.declared.reject_reasons.TheConstants as code

unfoldable pub REJECT_REASONS : List Row
REJECT_REASONS = map (λ r. (r.0.now, r.1)) code.ROWS.now
