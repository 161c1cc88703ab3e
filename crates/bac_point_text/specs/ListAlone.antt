-- The text of data: the values alone, separated by commas.
use Rattle.std.specs.Prelude.{◌≡◌, ◌⊎◌, ℕ, List, [], ◌∷◌, ◌++◌, Option}
use Rattle.bac_value.specs.Element.{Part, part_spelling, SpellsElement}
use Rattle.bac_value.specs.Meaning.{IsValueOf}
use Rattle.bac_value.specs.Value.{Datum}
use Rattle.bac_value_text.specs.DataTexts.{IsTaggedText, joined_texts}
use Rattle.bac_point_text.specs.Alone.{IsAlone}
use Rattle.bac_point_text.specs.Enumerations.{Names}

-- a value alone
pub record IsValueAlone (names : Option Names) (p : Part) (text : List ℕ) : Type 0 where
  pub value : Datum
  pub is : IsValueOf value p
  pub alone : IsAlone names value text

-- or an element that is not a value
abbrev pub IsElementAlone : Option Names → Part → List ℕ → Type 0
IsElementAlone names p text = IsValueAlone names p text ⊎ IsTaggedText p text

-- the text of the first element, followed by those of the others
pub record IsFirstAlone (names : Option Names) (text : List ℕ) (AreOthers : List ℕ → Type 0) (run : List ℕ) : Type 0 where
  pub element : Part
  pub others : List ℕ
  pub spelled : SpellsElement element (part_spelling element)
  pub is : run ≡ part_spelling element ++ others
  pub text_of : IsElementAlone names element text
  pub more : AreOthers others

-- the texts of consecutive elements
abbrev pub AreAlone : Option Names → List (List ℕ) → List ℕ → Type 0
AreAlone names [] run = run ≡ []
AreAlone names (text ∷ texts) run = IsFirstAlone names text (AreAlone names texts) run

-- the text of data
pub record IsListAlone (names : Option Names) (run text : List ℕ) : Type 0 where
  pub texts : List (List ℕ)
  pub are : AreAlone names texts run
  pub is : text ≡ joined_texts texts
