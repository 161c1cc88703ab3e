-- Blanks.
use Rattle.std.specs.Prelude.{ℕ, Bool, ◌==◌, ◌||◌}

-- a space, a tab or a carriage return
abbrev pub is_blank : ℕ → Bool
is_blank octet = (octet == 32 || octet == 9) || octet == 13

-- a blank or the end of a line
abbrev pub is_space : ℕ → Bool
is_space octet = is_blank octet || octet == 10
