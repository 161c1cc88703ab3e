-- A moment as JSON.
use Rattle.std.specs.Prelude.{◌≡◌, ℕ, List, Option}
use Rattle.bac_json.specs.Forms.{string_or_null}
use Rattle.bac_moment.specs.Times.{IsTextOf}
use Rattle.serde_json.specs.Data.{Data}

-- a string, or null where the time of day is not known, or beyond the year 9999
pub record IsTimeForm (time : Option ℕ) (d : Data) : Type 0 where
  pub text : Option (List ℕ)
  pub text_of : IsTextOf time text
  pub is : d ≡ string_or_null text
