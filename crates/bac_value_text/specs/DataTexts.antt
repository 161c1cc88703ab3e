-- The text of data: the elements, separated by commas.
use Rattle.std.specs.Prelude.{◌≡◌, ◌⊎◌, ℕ, List, [], ◌∷◌, ◌++◌, codes, decimal}
use Rattle.std.specs.List.{flat_map}
use Rattle.hex.specs.Hex.{encode_upper}
use Rattle.bac_value.specs.declared.tag.Form.{Form}
use Rattle.bac_value.specs.declared.tag.Form.TheVariants.{Length, Boolean, Opening, Closing}
use Rattle.bac_value.specs.Element.{Part, part_spelling, SpellsElement}
use Rattle.bac_value.specs.Meaning.{IsValueOf}
use Rattle.bac_value.specs.Value.{Datum}
use Rattle.bac_value_text.specs.Texts.{IsTextOf}

-- an element with a context tag: the tag number, and raw contents in hexadecimal
abbrev pub context_text : ℕ → List ℕ → List ℕ
context_text number contents = codes "context " ++ decimal number ++ codes " " ++ encode_upper contents

abbrev pub opening_text : ℕ → List ℕ
opening_text number = codes "opening " ++ decimal number

abbrev pub closing_text : ℕ → List ℕ
closing_text number = codes "closing " ++ decimal number

abbrev pub tagged_text : Form → ℕ → List ℕ → List ℕ
tagged_text Opening number contents = opening_text number
tagged_text Closing number contents = closing_text number
tagged_text (Length length) number contents = context_text number contents
tagged_text (Boolean b) number contents = context_text number contents

-- a value, after the name of its kind and a space
pub record IsValueText (p : Part) (text : List ℕ) : Type 0 where
  pub value : Datum
  pub is : IsValueOf value p
  pub text_of : IsTextOf 32 value text

-- or an element that is not a value
pub record IsTaggedText (p : Part) (text : List ℕ) : Type 0 where
  pub no_value : (d : Datum) → IsValueOf d p → ⊥
  pub is : text ≡ tagged_text p.mark.form p.mark.number p.contents

abbrev pub IsElementText : Part → List ℕ → Type 0
IsElementText p text = IsValueText p text ⊎ IsTaggedText p text

-- the text of the first element, followed by those of the others
pub record IsFirstText (text : List ℕ) (AreOthers : List ℕ → Type 0) (run : List ℕ) : Type 0 where
  pub element : Part
  pub others : List ℕ
  pub spelled : SpellsElement element (part_spelling element)
  pub is : run ≡ part_spelling element ++ others
  pub text_of : IsElementText element text
  pub more : AreOthers others

-- the texts of consecutive elements
abbrev pub AreElementTexts : List (List ℕ) → List ℕ → Type 0
AreElementTexts [] run = run ≡ []
AreElementTexts (text ∷ texts) run = IsFirstText text (AreElementTexts texts) run

abbrev pub behind_comma : List ℕ → List ℕ
behind_comma text = codes ", " ++ text

abbrev pub joined_texts : List (List ℕ) → List ℕ
joined_texts [] = codes "no values"
joined_texts (text ∷ texts) = text ++ flat_map behind_comma texts

-- the text of data
pub record IsDataText (run text : List ℕ) : Type 0 where
  pub texts : List (List ℕ)
  pub are : AreElementTexts texts run
  pub is : text ≡ joined_texts texts
