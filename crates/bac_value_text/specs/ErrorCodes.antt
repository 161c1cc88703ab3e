-- The error codes of the standard: the tables in code, joined.
use Rattle.std.specs.Prelude.{List, ◌++◌, map}
use Rattle.bac_value_text.specs.Names.{Row}
use Rattle.bac_value_text.specs.declared.error_codes.a_to_c.TheConstants as a_to_c
use Rattle.bac_value_text.specs.declared.error_codes.d_to_k.TheConstants as d_to_k
use Rattle.bac_value_text.specs.declared.error_codes.l_to_r.TheConstants as l_to_r
use Rattle.bac_value_text.specs.declared.error_codes.s_to_z.TheConstants as s_to_z

unfoldable pub A_TO_C : List Row
A_TO_C = map (λ r. (r.0.now, r.1)) a_to_c.ROWS.now

unfoldable pub D_TO_K : List Row
D_TO_K = map (λ r. (r.0.now, r.1)) d_to_k.ROWS.now

unfoldable pub L_TO_R : List Row
L_TO_R = map (λ r. (r.0.now, r.1)) l_to_r.ROWS.now

unfoldable pub S_TO_Z : List Row
S_TO_Z = map (λ r. (r.0.now, r.1)) s_to_z.ROWS.now

abbrev pub ERROR_CODES : List Row
ERROR_CODES = ((A_TO_C ++ D_TO_K) ++ L_TO_R) ++ S_TO_Z
