-- Members of decoded lines: a name and a value, as ` name=value`, and what it means that a line is printed.
use Rattle.std.specs.Prelude.{◌≡◌, ℕ, ℤ, Bool, true, false, List, [], ◌∷◌, ◌++◌, codes, decimal, Option, Some, None}
use Rattle.std.specs.Fmt.{signed_decimal}
use Rattle.std.specs.Int.{from_bool}
use Rattle.std.specs.Io.KnownBytes.{Appends}
use Rattle.hex.specs.Hex.{encode_upper}
use Rattle.bac_service.specs.Members.{◌⨾◌}
use Rattle.bac_service.specs.Values.{Member, EndOfFile, Object, Property, Index, Position, Record, Count, Content, Records, Values, Priority}
use Rattle.bac_service.specs.MemberViews.{member_view}
use Rattle.bac_service.specs.declared.member.Member as code
use Rattle.bac_value.specs.Value.{ObjectId}
use Rattle.bac_value_text.specs.DataTexts.{IsDataText}
use Rattle.bac_value_text.specs.Texts as names
use Rattle.bac_service_text.specs.Strings.{AreTheStrings, strings_text}

abbrev pub line_end : List ℕ
line_end = 10 ∷ []

-- a member that is left out where there is none
abbrev pub optional : {A : Type 0} → (A → List ℕ) → Option A → List ℕ
optional text None = []
optional text (Some x) = text x

abbrev pub bit_text : Bool → List ℕ
bit_text b = decimal (from_bool b)

-- a number after a name
abbrev pub number_text : List ℕ → ℕ → List ℕ
number_text name number = codes " " ++ (name ++ (codes "=" ++ decimal number))

-- octets in hexadecimal, after a name
abbrev pub octets_text : List ℕ → List ℕ → List ℕ
octets_text name octets = codes " " ++ (name ++ (codes "=" ++ encode_upper octets))

-- these octets, and none else
abbrev pub Is : List ℕ → List ℕ → Type 0
Is line text = text ≡ line

-- in words: an object and a property by their names
abbrev pub object_name : (in_words : Bool) → ObjectId → List ℕ
object_name false o = decimal o.kind ++ (codes ":" ++ decimal o.instance)
object_name true o = names.object_text o

abbrev pub object_member : (in_words : Bool) → ObjectId → List ℕ
object_member in_words o = codes " object=" ++ object_name in_words o

abbrev pub property_name : (in_words : Bool) → ℕ → List ℕ
property_name false property = decimal property
property_name true property = names.property_text property

abbrev pub property_member : (in_words : Bool) → ℕ → List ℕ
property_member in_words property = codes " property=" ++ property_name in_words property

-- in words: each value by its kind
abbrev pub IsValuesMember : (in_words : Bool) → (values text : List ℕ) → Type 0
IsValuesMember false values = Is (octets_text (codes "values") values)
IsValuesMember true values = Is (codes " values=") ⨾ IsDataText values

abbrev pub count_member : ℕ → List ℕ
count_member count = codes " count=" ++ decimal count

abbrev pub position_member : ℤ → List ℕ
position_member start = codes " position=" ++ signed_decimal start

abbrev pub record_member : ℤ → List ℕ
record_member start = codes " record=" ++ signed_decimal start

-- of records their octet strings
pub record IsRecordsMember (run text : List ℕ) : Type 0 where
  pub strings : List (List ℕ)
  pub are : AreTheStrings strings run
  pub is : text ≡ codes " octets=" ++ strings_text strings

abbrev pub IsMember : (in_words : Bool) → Member → List ℕ → Type 0
IsMember in_words (EndOfFile is_end) = Is (codes " end=" ++ bit_text is_end)
IsMember in_words (Object o) = Is (object_member in_words o)
IsMember in_words (Property number) = Is (property_member in_words number)
IsMember in_words (Index index) = Is (optional (number_text (codes "index")) index)
IsMember in_words (Position start) = Is (position_member start)
IsMember in_words (Record start) = Is (record_member start)
IsMember in_words (Count count) = Is (count_member count)
IsMember in_words (Content octets) = Is (octets_text (codes "octets") octets)
IsMember in_words (Records run) = IsRecordsMember run
IsMember in_words (Values octets) = IsValuesMember in_words octets
IsMember in_words (Priority priority) = Is (optional (number_text (codes "priority")) priority)

-- a member of a list in code, where there is one
abbrev pub IsListed : (in_words : Bool) → Option code.Member → List ℕ → Type 0
IsListed in_words None = Is []
IsListed in_words (Some m) = IsMember in_words (member_view m)

-- one after the other
abbrev pub AreMembers : (in_words : Bool) → List Member → List ℕ → Type 0
AreMembers in_words [] = Is []
AreMembers in_words (m ∷ members) = IsMember in_words m ⨾ AreMembers in_words members

-- a name, and members after it
abbrev pub IsNamed : (in_words : Bool) → (name : List ℕ) → List Member → List ℕ → Type 0
IsNamed in_words name members = Is name ⨾ AreMembers in_words members

-- ---- printing

-- one of these texts was appended
abbrev pub AppendsText : Option (List ℕ) → Option (List ℕ) → (List ℕ → Type 0) → Type 0
AppendsText old new IsText = (text : List ℕ) × (IsText text × Appends old new text)

-- a line with one of these texts was appended
abbrev pub AppendsLine : Option (List ℕ) → Option (List ℕ) → (List ℕ → Type 0) → Type 0
AppendsLine old new IsText = (text : List ℕ) × (IsText text × Appends old new (text ++ line_end))
