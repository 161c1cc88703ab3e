-- Characters that act on a terminal, or hide.
use Rattle.std.specs.Prelude.{◌==◌, ◌&&◌, ◌||◌, ℕ, Bool, not, nat_le}
use Rattle.ucd_category.specs.GeneralCategory.{general_category, general_category_eq}
use Rattle.ucd_category.specs.declared.GeneralCategory.{GeneralCategory}
use Rattle.ucd_category.specs.declared.GeneralCategory.TheVariants.{Control, Format, LineSeparator, ParagraphSeparator, Unassigned}

-- Cc, Cf, Zl, Zp and Cn: what shows nothing of its own
abbrev pub is_hidden : GeneralCategory → Bool
is_hidden c =
    general_category_eq c Control || general_category_eq c Format || general_category_eq c LineSeparator || general_category_eq c ParagraphSeparator
    || general_category_eq c Unassigned

-- all of these but a tab and a line feed
abbrev pub is_harmful : (character : ℕ) → Bool
is_harmful character = is_hidden (general_category character) && not (character == 9) && not (character == 10)

-- a space, a printable character of ASCII, a tab or a line feed
abbrev pub is_plain : (octet : ℕ) → Bool
is_plain octet = (nat_le 32 octet && nat_le octet 126) || (octet == 9) || (octet == 10)
