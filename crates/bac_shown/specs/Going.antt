-- What goes out, and what is held and waits meanwhile.
use Rattle.std.specs.Prelude.{◌≡◌, ℕ, true, ⊤, List, [], ◌++◌, not, Option, Some, None}
use Rattle.std.specs.List.{list_all}
use Rattle.std.specs.Str.{encode_utf8_all}
use Rattle.std.proofs.Math.Utf8.{scalars}
use Rattle.bac_shown.specs.Harmful.{is_harmful}
use Rattle.bac_shown.specs.Pieces.{shown}
use Rattle.bac_shown.specs.declared.form.Form.{Form}

-- the UTF-8 of characters of which none is harmful
pub record IsHarmless (text : List ℕ) : Type 0 where
  pub characters : List ℕ
  pub scalar : scalars characters ≡ true
  pub is : text ≡ encode_utf8_all characters
  pub harmless : list_all (λ c. not (is_harmful c)) characters ≡ true

-- the text of what was held goes out, but for what is held now: whatever follows, it is shown so
pub record Goes (f : Form) (held held' text : List ℕ) : Type 0 where
  pub follows : (more : List ℕ) → shown f (held ++ more) ≡ text ++ shown f (held' ++ more)
  pub harmless : IsHarmless text

-- the text is behind what a writer has and what waits for it
abbrev pub Follows : (known known' : Option (List ℕ)) → (waiting waiting' text : List ℕ) → Type 0
Follows None known' waiting waiting' text = ⊤
Follows (Some x) None waiting waiting' text = ⊥
Follows (Some x) (Some y) waiting waiting' text = y ++ waiting' ≡ (x ++ waiting) ++ text

-- so far a writer, what waits for it and what is held went on
pub record Puts (f : Form) (known known' : Option (List ℕ)) (held held' waiting waiting' : List ℕ) : Type 0 where
  pub text : List ℕ
  pub goes : Goes f held held' text
  pub follows : Follows known known' waiting waiting' text
