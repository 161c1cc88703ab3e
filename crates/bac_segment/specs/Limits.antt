-- The limits of a transfer (own rules of this profile), as constants in code.
use Rattle.std.specs.Prelude.{ℕ}
use Rattle.bac_segment.specs.declared.limits.TheConstants as code

-- how often a window is sent again before the sender gives up
abbrev pub N_RETRY : ℕ
N_RETRY = code.N_RETRY

-- the greatest length of service data in octets, and the greatest number of segments of one transfer
abbrev pub DATA : ℕ
DATA = code.DATA
