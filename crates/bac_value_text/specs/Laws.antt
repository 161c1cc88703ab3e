-- The printed text of a value reads as that value.
use Rattle.std.specs.Prelude.{◌≡◌, ◌<◌, ℕ, List, Some}
use Rattle.bac_value.specs.Octets.{IsBytes}
use Rattle.bac_value.specs.Value.{Datum, IsValue, real, double, octets, characters, bits, date, time}
use Rattle.bac_value_text.specs.Numbers.{separator_octet}
use Rattle.bac_value_text.specs.Reading.{value_in}
use Rattle.bac_value_text.specs.Texts.{IsTextOf}
use Rattle.bac_value_text.specs.declared.separator.Separator.{Separator}

-- the parts of a value are octets
abbrev pub HasOctets : Datum → Type 0
HasOctets (real a) = IsBytes a
HasOctets (double a) = IsBytes a
HasOctets (octets a) = IsBytes a
HasOctets (characters set a) = (set < 256) × IsBytes a
HasOctets (bits unused a) = IsBytes a
HasOctets (date a) = IsBytes a
HasOctets (time a) = IsBytes a
HasOctets _ = Unit {0}

abbrev pub AreRead : Type 0
AreRead = (s : Separator) (d : Datum) (text : List ℕ) → IsValue d → HasOctets d → IsTextOf (separator_octet s) d text
    → value_in (separator_octet s) text ≡ Some d
