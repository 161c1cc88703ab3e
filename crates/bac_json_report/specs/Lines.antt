-- The text of a JSON value.
use Rattle.std.specs.Prelude.{◌≡◌, ◌≤◌, ℕ, List, [], ◌∷◌, ◌++◌, false, Some}
use Rattle.serde_json.specs.Data.{Data, depth}
use Rattle.serde_json.specs.Read.{max_depth, read}
use Rattle.serde_json.specs.Written.{compact_text, has_float}

-- the text reads as the value, unless it nests too deep to be read; without floats it is the compact text
pub record IsJsonText (d : Data) (text : List ℕ) : Type 0 where
  pub reads : depth d ≤ max_depth → read text ≡ Some d
  pub is : has_float d ≡ false → text ≡ compact_text d

-- with the end of its line
pub record IsJsonLine (d : Data) (text : List ℕ) : Type 0 where
  pub words : List ℕ
  pub are : IsJsonText d words
  pub is : text ≡ words ++ (10 ∷ [])

-- the line of such a value
pub record IsLineOf (IsForm : Data → Type 0) (text : List ℕ) : Type 0 where
  pub json : Data
  pub is_form : IsForm json
  pub line : IsJsonLine json text
