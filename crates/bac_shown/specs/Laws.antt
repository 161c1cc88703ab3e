-- Laws of how a text is shown.
use Rattle.std.specs.Prelude.{◌≡◌, ℕ, true, List}
use Rattle.std.specs.List.{list_all}
use Rattle.bac_shown.specs.Going.{IsHarmless}
use Rattle.bac_shown.specs.Harmful.{is_plain}
use Rattle.bac_shown.specs.Pieces.{shown}
use Rattle.bac_shown.specs.declared.form.Form.{Form}

-- what is shown is the UTF-8 of characters of which none is harmful
abbrev pub NothingHarmfulIsShown : Type 0
NothingHarmfulIsShown = (f : Form) (text : List ℕ) → IsHarmless (shown f text)

pub record PlainTextsAreUnchanged : Type 0 where
  pub ascii : (f : Form) (text : List ℕ) → list_all is_plain text ≡ true → shown f text ≡ text
  pub harmless : (f : Form) (text : List ℕ) → IsHarmless text → shown f text ≡ text
