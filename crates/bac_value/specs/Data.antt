-- Data: lists of trees of elements (clauses 20.2.1.3.2 and 20.2.19), with at most 8 tags open at once (own rule of this profile).
use Rattle.std.specs.Prelude.{◌≡◌, ℕ, zero, suc, ◌<◌, ◌⊎◌, List, [], ◌∷◌, ◌++◌, take, drop}
use Rattle.bac_value.specs.declared.tag.Class.TheVariants.{Context}
use Rattle.bac_value.specs.declared.tag.Form.{Form}
use Rattle.bac_value.specs.declared.tag.Form.TheVariants.{Length, Boolean, Opening, Closing}
use Rattle.bac_value.specs.Spelling.{tag_spelling}
use Rattle.bac_value.specs.Element.{Part, part_spelling, SpellsElement}

-- a list of trees: the first tree is an element, or a pair of tags of one number with a list of trees between them
pub data Forest : Type 0 where
  none : Forest
  leaf : Part → Forest → Forest
  pair : ℕ → Forest → Forest → Forest

abbrev pub opening : ℕ → List ℕ
opening n = tag_spelling (record { number = n; class = Context; form = Opening })

abbrev pub closing : ℕ → List ℕ
closing n = tag_spelling (record { number = n; class = Context; form = Closing })

unfoldable pub spelling : Forest → List ℕ
spelling none = []
spelling (leaf p f) = part_spelling p ++ spelling f
spelling (pair n inside f) = opening n ++ (spelling inside ++ (closing n ++ spelling f))

abbrev pub IsPrimitiveForm : Form → Type 0
IsPrimitiveForm (Length k) = Unit {0}
IsPrimitiveForm (Boolean b) = Unit {0}
IsPrimitiveForm Opening = ⊥
IsPrimitiveForm Closing = ⊥

-- an element that is neither an opening nor a closing tag
pub record IsPrimitive (p : Part) : Type 0 where
  pub form : IsPrimitiveForm p.mark.form
  pub spelled : SpellsElement p (part_spelling p)

-- elements and pairs, with at most this many tags open at once
unfoldable pub IsWithin : ℕ → Forest → Type 0
IsWithin d none = Unit {0}
IsWithin d (leaf p f) = IsPrimitive p × IsWithin d f
IsWithin zero (pair n inside f) = ⊥
IsWithin (suc d) (pair n inside f) = (n < 255) × IsWithin d inside × IsWithin (suc d) f

-- the octets encode these trees
pub record SpellsData (f : Forest) (bytes : List ℕ) : Type 0 where
  pub within : IsWithin 8 f
  pub is : bytes ≡ spelling f

abbrev pub IsData : List ℕ → Type 0
IsData bytes = (f : Forest) × SpellsData f bytes

-- the end of the octets, or a closing tag
abbrev pub Ends : List ℕ → Type 0
Ends rest = (rest ≡ []) ⊎ ((n : ℕ) × (after : List ℕ) × (n < 255) × (rest ≡ closing n ++ after))

-- the first k octets are data, followed by the end or a closing tag
pub record IsDataFront (bytes : List ℕ) (k : ℕ) : Type 0 where
  pub trees : Forest
  pub spelled : SpellsData trees (take k bytes)
  pub ends : Ends (drop k bytes)

-- the octets are a sequence of elements
unfoldable pub AreElements : List Part → List ℕ → Type 0
AreElements [] bytes = bytes ≡ []
AreElements (p ∷ ps) bytes = (rest : List ℕ) × SpellsElement p (part_spelling p) × (bytes ≡ part_spelling p ++ rest) × AreElements ps rest

abbrev pub SomeElements : List ℕ → Type 0
SomeElements bytes = (ps : List Part) × AreElements ps bytes
