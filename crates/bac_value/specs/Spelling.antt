-- The one spelling of each tag (clause 20.2.1).
use Rattle.std.specs.Prelude.{◌≡◌, ℕ, ◌+◌, ◌*◌, ◌<◌, ◌^◌, nat_lt, if◌then◌else◌, IsTrue, List, [], ◌∷◌, ◌++◌}
use Rattle.std.specs.Int.{w16, w32, to_be_bytes}
use Rattle.bac_value.specs.declared.tag.Class.{Class}
use Rattle.bac_value.specs.declared.tag.Class.TheVariants.{Application, Context}
use Rattle.bac_value.specs.declared.tag.Form.{Form}
use Rattle.bac_value.specs.declared.tag.Form.TheVariants.{Length, Boolean, Opening, Closing}
use Rattle.bac_value.specs.Limits.{tag_fits}

-- the abstract tag
pub record Mark : Type 0 where
  pub number : ℕ
  pub class : Class
  pub form : Form

-- clause 20.2.1.2: numbers 0 to 14 are in bits 7 to 4, 15 to 254 in the next octet
abbrev pub number_bits : ℕ → ℕ
number_bits n = if nat_lt n 15 then n else 15

abbrev pub number_octets : ℕ → List ℕ
number_octets n = if nat_lt n 15 then [] else n ∷ []

-- clause 20.2.1.1: bit 3 is the class
abbrev pub class_bit : Class → ℕ
class_bit Application = 0
class_bit Context = 8

-- clause 20.2.1.3.1: lengths 0 to 4 are in bits 2 to 0; longer ones follow the number, in one, two or four octets
abbrev pub length_octets : ℕ → List ℕ
length_octets k = if nat_lt k 5 then [] else (if nat_lt k 254 then k ∷ [] else (if nat_lt k 65536 then 254 ∷ to_be_bytes w16 k else 255 ∷ to_be_bytes w32 k))

-- clauses 20.2.1.3.1, 20.2.1.3.2 and 20.2.3: bits 2 to 0 are a length, a Boolean's value, or 6 and 7 for opening and closing tags
abbrev pub form_bits : Form → ℕ
form_bits (Length k) = if nat_lt k 5 then k else 5
form_bits (Boolean b) = if b then 1 else 0
form_bits Opening = 6
form_bits Closing = 7

abbrev pub form_octets : Form → List ℕ
form_octets (Length k) = length_octets k
form_octets (Boolean b) = []
form_octets Opening = []
form_octets Closing = []

-- a length fits four octets
abbrev pub length_fits : Form → Type 0
length_fits (Length k) = k < 2 ^ 32
length_fits (Boolean b) = Unit {0}
length_fits Opening = Unit {0}
length_fits Closing = Unit {0}

unfoldable pub tag_spelling : Mark → List ℕ
tag_spelling t = (16 * number_bits t.number + class_bit t.class + form_bits t.form) ∷ (number_octets t.number ++ form_octets t.form)

-- the octets encode a tag
pub record SpellsTag (t : Mark) (bytes : List ℕ) : Type 0 where
  pub fits : IsTrue (tag_fits t.number t.class t.form)
  pub length_in : length_fits t.form
  pub is : bytes ≡ tag_spelling t
