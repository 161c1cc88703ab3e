-- The thirteen kinds of application values, and the one spelling of each (clause 20.2).
use Rattle.std.specs.Prelude.{◌≡◌, ℕ, ◌+◌, ◌*◌, ◌^◌, ◌<◌, ◌≤◌, ℤ, Bool, IsTrue, List, [], ◌∷◌, ◌++◌, length}
use Rattle.std.specs.Int.{w32, to_be_bytes}
use Rattle.bac_value.specs.declared.tag.Class.TheVariants.{Application}
use Rattle.bac_value.specs.declared.tag.Form.{Form}
use Rattle.bac_value.specs.declared.tag.Form.TheVariants as form
use Rattle.bac_value.specs.Limits.{bits_fit}
use Rattle.bac_value.specs.Spelling.{Mark, tag_spelling}
use Rattle.bac_value.specs.Number.{IsUnsigned, IsSigned, distance}

-- the type and the instance of an object
pub record ObjectId : Type 0 where
  pub kind : ℕ
  pub instance : ℕ

-- an abstract value, independent of its place in memory
pub data Datum : Type 0 where
  null : Datum
  boolean : Bool → Datum
  unsigned : ℕ → Datum
  signed : ℤ → Datum
  real : List ℕ → Datum
  double : List ℕ → Datum
  octets : List ℕ → Datum
  characters : (set : ℕ) (text : List ℕ) → Datum
  bits : (unused : ℕ) (text : List ℕ) → Datum
  enumerated : ℕ → Datum
  date : List ℕ → Datum
  time : List ℕ → Datum
  object : ObjectId → Datum

-- clause 20.2.1.4: the number of the application tag
abbrev pub kind_number : Datum → ℕ
kind_number null = 0
kind_number (boolean b) = 1
kind_number (unsigned n) = 2
kind_number (signed z) = 3
kind_number (real a) = 4
kind_number (double a) = 5
kind_number (octets xs) = 6
kind_number (characters set xs) = 7
kind_number (bits unused xs) = 8
kind_number (enumerated n) = 9
kind_number (date a) = 10
kind_number (time a) = 11
kind_number (object i) = 12

-- a number of at most this many octets
pub record IsNumber (most n : ℕ) (xs : List ℕ) : Type 0 where
  pub spelled : IsUnsigned n xs
  pub few : length xs ≤ most

pub record IsInteger (most : ℕ) (z : ℤ) (xs : List ℕ) : Type 0 where
  pub spelled : IsSigned z xs
  pub few : length xs ≤ most

-- this many raw octets
pub record IsRaw (size : ℕ) (a xs : List ℕ) : Type 0 where
  pub is : xs ≡ a
  pub sized : length a ≡ size

-- clause 20.2.10: the number of unused bits, then the bits
pub record IsBits (unused : ℕ) (text xs : List ℕ) : Type 0 where
  pub is : xs ≡ unused ∷ text
  pub fits : IsTrue (bits_fit unused text)

-- clause 20.2.14: 10 bits of object type, 22 bits of instance
pub record IsObject (i : ObjectId) (xs : List ℕ) : Type 0 where
  pub kind_fits : i.kind < 1024
  pub instance_fits : i.instance < 2 ^ 22
  pub is : xs ≡ to_be_bytes w32 (i.kind * 2 ^ 22 + i.instance)

-- the contents of a value (clauses 20.2.2 to 20.2.14); numbers have at most 8 octets, an Enumerated 4 (own rule of this profile)
abbrev pub IsContents : Datum → List ℕ → Type 0
IsContents null xs = xs ≡ []
IsContents (boolean b) xs = xs ≡ []
IsContents (unsigned n) xs = IsNumber 8 n xs
IsContents (signed z) xs = IsInteger 8 z xs
IsContents (real a) xs = IsRaw 4 a xs
IsContents (double a) xs = IsRaw 8 a xs
IsContents (octets a) xs = xs ≡ a
IsContents (characters set text) xs = xs ≡ set ∷ text
IsContents (bits unused text) xs = IsBits unused text xs
IsContents (enumerated n) xs = IsNumber 4 n xs
IsContents (date a) xs = IsRaw 4 a xs
IsContents (time a) xs = IsRaw 4 a xs
IsContents (object i) xs = IsObject i xs

-- clause 20.2.3: the tag holds the value of a Boolean, and the length of all others
abbrev pub form_of : Datum → ℕ → Form
form_of (boolean b) k = form.Boolean b
form_of _ k = form.Length k

-- the application tag of a value whose contents have this many octets
abbrev pub mark_for : Datum → ℕ → Mark
mark_for d k = record { number = kind_number d; class = Application; form = form_of d k }

-- the octets encode a value: its tag, then its contents
pub record SpellsValue (d : Datum) (bytes : List ℕ) : Type 0 where
  pub contents : List ℕ
  pub are : IsContents d contents
  pub fits : length contents < 2 ^ 32
  pub is : bytes ≡ tag_spelling (mark_for d (length contents)) ++ contents

-- the values that can be encoded (own rule of this profile: numbers of at most 64 bits, an Enumerated of at most 32)
abbrev pub IsValue : Datum → Type 0
IsValue null = Unit {0}
IsValue (boolean b) = Unit {0}
IsValue (unsigned n) = n < 2 ^ 64
IsValue (signed z) = distance z < 2 ^ 63
IsValue (real a) = length a ≡ 4
IsValue (double a) = length a ≡ 8
IsValue (octets a) = length a < 2 ^ 32
IsValue (characters set text) = length text + 1 < 2 ^ 32
IsValue (bits unused text) = IsTrue (bits_fit unused text) × (length text + 1 < 2 ^ 32)
IsValue (enumerated n) = n < 2 ^ 32
IsValue (date a) = length a ≡ 4
IsValue (time a) = length a ≡ 4
IsValue (object i) = (i.kind < 1024) × (i.instance < 2 ^ 22)
