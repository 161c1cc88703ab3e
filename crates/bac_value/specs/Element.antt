-- One tag with its contents (clause 20.2.1): an application value, raw octets under a context tag, an opening or a closing tag.
use Rattle.std.specs.Prelude.{◌≡◌, ℕ, List, [], ◌++◌, length}
use Rattle.bac_value.specs.declared.tag.Class.{Class}
use Rattle.bac_value.specs.declared.tag.Class.TheVariants.{Application, Context}
use Rattle.bac_value.specs.declared.tag.Form.{Form}
use Rattle.bac_value.specs.declared.tag.Form.TheVariants.{Length, Boolean, Opening, Closing}
use Rattle.bac_value.specs.Spelling.{Mark, tag_spelling, SpellsTag}
use Rattle.bac_value.specs.Value.{Datum, kind_number, IsContents}

-- a tag and its contents
pub record Part : Type 0 where
  pub mark : Mark
  pub contents : List ℕ

-- the contents are the contents of a value of this kind
abbrev pub IsOfKind : ℕ → List ℕ → Type 0
IsOfKind n xs = (d : Datum) × (kind_number d ≡ n) × IsContents d xs

-- this many octets, which are the contents of a value of this kind
pub record AreOfKind (n k : ℕ) (xs text : List ℕ) : Type 0 where
  pub is : text ≡ xs
  pub len : length text ≡ k
  pub kind : IsOfKind n text

-- this many octets, which are the contents of this value
pub record HasContents {Y : Type 0} (datum_of : Y → Datum) (k : ℕ) (y : Y) (text : List ℕ) : Type 0 where
  pub are : IsContents (datum_of y) text
  pub len : length text ≡ k

-- the contents after a context tag are raw; the contents after an application tag are those of a value
abbrev pub IsOfClass : Class → ℕ → List ℕ → Type 0
IsOfClass Application n xs = IsOfKind n xs
IsOfClass Context n xs = Unit {0}

-- the contents have the length and kind that the tag announces
abbrev pub IsAnnounced : Class → ℕ → Form → List ℕ → Type 0
IsAnnounced c n (Length k) xs = (length xs ≡ k) × IsOfClass c n xs
IsAnnounced c n (Boolean b) xs = xs ≡ []
IsAnnounced c n Opening xs = xs ≡ []
IsAnnounced c n Closing xs = xs ≡ []

abbrev pub part_spelling : Part → List ℕ
part_spelling p = tag_spelling p.mark ++ p.contents

-- the octets encode an element
pub record SpellsElement (p : Part) (bytes : List ℕ) : Type 0 where
  pub tag : SpellsTag p.mark (tag_spelling p.mark)
  pub contents : IsAnnounced p.mark.class p.mark.number p.mark.form p.contents
  pub is : bytes ≡ part_spelling p
