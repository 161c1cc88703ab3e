-- The properties of the standard: the tables in code, joined.
use Rattle.std.specs.Prelude.{List, ◌++◌, map}
use Rattle.bac_value_text.specs.Names.{Row}
use Rattle.bac_value_text.specs.declared.properties.a_to_b.TheConstants as a_to_b
use Rattle.bac_value_text.specs.declared.properties.c.TheConstants as c
use Rattle.bac_value_text.specs.declared.properties.d_to_e.TheConstants as d_to_e
use Rattle.bac_value_text.specs.declared.properties.f_to_l.TheConstants as f_to_l
use Rattle.bac_value_text.specs.declared.properties.m_to_n.TheConstants as m_to_n
use Rattle.bac_value_text.specs.declared.properties.o_to_p.TheConstants as o_to_p
use Rattle.bac_value_text.specs.declared.properties.r_to_s.TheConstants as r_to_s
use Rattle.bac_value_text.specs.declared.properties.t_to_z.TheConstants as t_to_z

unfoldable pub A_TO_B : List Row
A_TO_B = map (λ r. (r.0.now, r.1)) a_to_b.ROWS.now

unfoldable pub C : List Row
C = map (λ r. (r.0.now, r.1)) c.ROWS.now

unfoldable pub D_TO_E : List Row
D_TO_E = map (λ r. (r.0.now, r.1)) d_to_e.ROWS.now

unfoldable pub F_TO_L : List Row
F_TO_L = map (λ r. (r.0.now, r.1)) f_to_l.ROWS.now

unfoldable pub M_TO_N : List Row
M_TO_N = map (λ r. (r.0.now, r.1)) m_to_n.ROWS.now

unfoldable pub O_TO_P : List Row
O_TO_P = map (λ r. (r.0.now, r.1)) o_to_p.ROWS.now

unfoldable pub R_TO_S : List Row
R_TO_S = map (λ r. (r.0.now, r.1)) r_to_s.ROWS.now

unfoldable pub T_TO_Z : List Row
T_TO_Z = map (λ r. (r.0.now, r.1)) t_to_z.ROWS.now

abbrev pub PROPERTIES : List Row
PROPERTIES = ((((((A_TO_B ++ C) ++ D_TO_E) ++ F_TO_L) ++ M_TO_N) ++ O_TO_P) ++ R_TO_S) ++ T_TO_Z
