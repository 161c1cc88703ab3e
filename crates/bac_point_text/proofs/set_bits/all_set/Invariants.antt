use Rattle.std.proofs.Common.{◌≡◌, ◌++◌, drop}
use Rattle.bac_point_text.specs.Alone.{set_from}
use Rattle.bac_point_text.specs.Views.{names_view}
use Rattle.bac_point_text.proofs.set_bits.all_set.Given as goal

-- the names so far, and those of the bits that are left
abbrev pub invariant-loop-digit : goal.invariant-loop-digit
invariant-loop-digit l = l.text.items ++ set_from (names_view l.names) l.place (drop l.digit-index l.digits) ≡ set_from (names_view l.names) 0 l.digits
