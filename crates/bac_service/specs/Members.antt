-- The members of a production (clause 21): each is the contents of a value after a tag, one member after the other.
use Rattle.std.specs.Prelude.{◌≡◌, ℕ, ℤ, Bool, ◌^◌, ◌<◌, List, [], ◌++◌, length, Option, Some, None}
use Rattle.bac_value.specs.declared.tag.Class.{Class}
use Rattle.bac_value.specs.declared.tag.Class.TheVariants.{Application, Context}
use Rattle.bac_value.specs.declared.tag.Form.TheVariants as form
use Rattle.bac_value.specs.Spelling.{Mark, tag_spelling}
use Rattle.bac_value.specs.Value.{ObjectId, IsNumber, IsInteger, IsObject}
use Rattle.bac_value.specs.Data.{opening, closing, IsData}
use Rattle.bac_value.specs.Number.{unsigned_octets}
use Rattle.bac_value.specs.Writing.{primitive}

abbrev pub Octets : Type 0
Octets = List ℕ

-- one member after the other
infixr 15 ◌⨾◌
pub record ◌⨾◌ (P Q : Octets → Type 0) (bytes : Octets) : Type 0 where
  pub front : Octets
  pub back : Octets
  pub first : P front
  pub second : Q back
  pub is : bytes ≡ front ++ back

-- an optional member
abbrev pub Optional : {A : Type 0} → (A → Octets → Type 0) → Option A → Octets → Type 0
Optional Spells None bytes = bytes ≡ []
Optional Spells (Some x) bytes = Spells x bytes

-- a member between an opening and a closing tag with this number
pub record Enclosed (number : ℕ) (P : Octets → Type 0) (bytes : Octets) : Type 0 where
  pub inside : Octets
  pub are : P inside
  pub is : bytes ≡ opening number ++ (inside ++ closing number)

-- the same as a function: what writers append
abbrev pub enclosed_spelling : ℕ → Octets → Octets
enclosed_spelling number inside = opening number ++ (inside ++ closing number)

-- an optional number after a context tag, as a function
abbrev pub optional_spelling : ℕ → Option ℕ → Octets
optional_spelling number None = []
optional_spelling number (Some n) = primitive Context number (unsigned_octets n)

-- a tag with this class and number, which announces this many octets of contents
abbrev pub mark_of : Class → ℕ → ℕ → Mark
mark_of class number len = record { number = number; class = class; form = form.Length len }

-- such a tag, followed by contents with a property
pub record Tagged (class : Class) (number : ℕ) (IsContents : Octets → Type 0) (bytes : Octets) : Type 0 where
  pub contents : Octets
  pub are : IsContents contents
  pub fits : length contents < 2 ^ 32
  pub is : bytes ≡ tag_spelling (mark_of class number (length contents)) ++ contents

abbrev pub IsString : Octets → Octets → Type 0
IsString octets xs = xs ≡ octets

-- ---- members with an application tag (clauses 20.2.3 to 20.2.14)

abbrev pub ApplicationObject : ObjectId → Octets → Type 0
ApplicationObject o = Tagged Application 12 (IsObject o)

abbrev pub ApplicationSigned : ℤ → Octets → Type 0
ApplicationSigned z = Tagged Application 3 (IsInteger 8 z)

abbrev pub ApplicationUnsigned : ℕ → Octets → Type 0
ApplicationUnsigned n = Tagged Application 2 (IsNumber 8 n)

abbrev pub ApplicationString : Octets → Octets → Type 0
ApplicationString octets = Tagged Application 6 (IsString octets)

abbrev pub ApplicationBoolean : Bool → Octets → Type 0
ApplicationBoolean b bytes = bytes ≡ tag_spelling (record { number = 1; class = Application; form = form.Boolean b })

-- ---- data

-- the octets encode data, and are these
pub record AreData (values bytes : Octets) : Type 0 where
  pub spelled : IsData values
  pub is : bytes ≡ values
