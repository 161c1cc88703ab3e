-- What a test for UTF-8 means.
use Rattle.std.proofs.Common.{◌≡◌, ℕ, true, false, Bool, List, Result, Ok, Err, is_ok, MatchResult, refl, sym}
use Rattle.std.specs.Str.{IsUtf8, is_utf8}
use Rattle.std.proofs.lemmas.Str.{IsUtf8-from_is_utf8, is_utf8-from_IsUtf8}

pub utf8_told : {A E : Type 0} (P : A → Type 0) (Q : E → Type 0) (bs : List ℕ) (r : Result A E)
    → MatchResult r (λ s. P s × IsUtf8 bs) (λ e. ¬ (IsUtf8 bs) × Q e) → is_ok r ≡ is_utf8 bs
utf8_told P Q bs (Ok s) h = sym (is_utf8-from_IsUtf8 bs h.1)
utf8_told P Q bs (Err e) h = go (is_utf8 bs) refl where
  go : (b : Bool) → is_utf8 bs ≡ b → false ≡ is_utf8 bs
  go false e = sym e
  go true e = absurd (h.0 (IsUtf8-from_is_utf8 bs e))
