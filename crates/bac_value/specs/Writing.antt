-- The one spelling of each value as a function: what writers append.
use Rattle.std.specs.Prelude.{◌≡◌, ℕ, ◌+◌, ◌*◌, ◌^◌, List, [], ◌∷◌, ◌++◌, length}
use Rattle.std.specs.Int.{w32, to_be_bytes}
use Rattle.bac_value.specs.declared.tag.Class.{Class}
use Rattle.bac_value.specs.declared.tag.Form.TheVariants as form
use Rattle.bac_value.specs.Spelling.{Mark, tag_spelling}
use Rattle.bac_value.specs.Number.{unsigned_octets, signed_octets}
use Rattle.bac_value.specs.Value.{Datum, null, boolean, unsigned, signed, real, double, octets, characters, bits, enumerated, date, time}
use Rattle.bac_value.specs.Value.{object, ObjectId, mark_for, SpellsValue}

-- a tag with a length
abbrev pub length_mark : Class → ℕ → ℕ → Mark
length_mark c n k = record { number = n; class = c; form = form.Length k }

-- a tag with the length of contents, and the contents
abbrev pub primitive : Class → ℕ → List ℕ → List ℕ
primitive c n xs = tag_spelling (length_mark c n (length xs)) ++ xs

abbrev pub object_octets : ObjectId → List ℕ
object_octets i = to_be_bytes w32 (i.kind * 2 ^ 22 + i.instance)

-- the contents of a value
abbrev pub contents_of : Datum → List ℕ
contents_of null = []
contents_of (boolean b) = []
contents_of (unsigned n) = unsigned_octets n
contents_of (signed z) = signed_octets z
contents_of (real a) = a
contents_of (double a) = a
contents_of (octets a) = a
contents_of (characters set text) = set ∷ text
contents_of (bits unused text) = unused ∷ text
contents_of (enumerated n) = unsigned_octets n
contents_of (date a) = a
contents_of (time a) = a
contents_of (object i) = object_octets i

abbrev pub value_spelling : Datum → List ℕ
value_spelling d = tag_spelling (mark_for d (length (contents_of d))) ++ contents_of d

-- new is old followed by the spelling of a value
pub record AppendsValue (d : Datum) (old new : List ℕ) : Type 0 where
  pub spelled : SpellsValue d (value_spelling d)
  pub is : new ≡ old ++ value_spelling d
