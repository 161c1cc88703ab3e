-- Printed texts, and octets, as JSON.
use Rattle.std.specs.Prelude.{ℕ, List, if◌then◌else◌, Option, Some, None}
use Rattle.std.specs.Str.{is_utf8}
use Rattle.hex.specs.Hex.{encode_upper}
use Rattle.bac_value.specs.Value.{ObjectId}
use Rattle.bac_value_text.specs.Texts as texts
use Rattle.serde_json.specs.Data.{Data, null, number, string, unsigned}
use Rattle.serde_json.specs.Read.{read}

-- octets that are UTF-8
abbrev pub utf8_of : List ℕ → Option (List ℕ)
utf8_of octets = if is_utf8 octets then Some octets else None

abbrev pub string_or_null : Option (List ℕ) → Data
string_or_null None = null
string_or_null (Some text) = string text

abbrev pub text_form : List ℕ → Data
text_form text = string_or_null (utf8_of text)

abbrev pub octets_form : List ℕ → Data
octets_form octets = string (encode_upper octets)

-- what was read, or the text itself where that is nothing
abbrev pub read_or_text : List ℕ → Option Data → Data
read_or_text text None = string text
read_or_text text (Some d) = d

abbrev pub number_or_null : Option (List ℕ) → Data
number_or_null None = null
number_or_null (Some text) = read_or_text text (read text)

-- the text of a number
abbrev pub number_form : List ℕ → Data
number_form text = number_or_null (utf8_of text)

abbrev pub object_form : ObjectId → Data
object_form o = text_form (texts.object_text o)

abbrev pub property_form : ℕ → Data
property_form p = string (texts.property_text p)

-- a number, or null where there is none
abbrev pub optional_number : Option ℕ → Data
optional_number None = null
optional_number (Some n) = number (unsigned n)
