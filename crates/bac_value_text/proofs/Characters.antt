-- Escaped texts read as themselves.
use Rattle.std.proofs.Common.{◌≡◌, ◌≢◌, ℕ, suc, ◌<◌, nat_lt, true, false, Bool, ◌||◌, ◌==◌, List, [], ◌∷◌, ◌++◌, Result, Ok, Err, is_ok, MatchResult}
use Rattle.std.proofs.Common.{rules, refl, sym, ◌∙◌, ap, if◌then◌else◌}
use Rattle.std.specs.Str.{IsUtf8, is_utf8}
use Rattle.std.proofs.lemmas.Str.{IsUtf8-from_is_utf8, is_utf8-from_IsUtf8}
use Rattle.percent_encoding.specs.Percent.{percent_decode, percent_encode_byte}
use Rattle.percent_encoding.proofs.PercentLemmas.{percent_decode-nil, percent_decode-percent_encode_byte, percent_decode_not_percent}
use Rattle.bac_value.specs.Octets.{IsBytes}
use Rattle.bac_value_text.specs.Texts.{escaped, escaped_octet}

-- what a test for UTF-8 means
pub utf8_told : {A E : Type 0} (P : A → Type 0) (Q : E → Type 0) (bs : List ℕ) (r : Result A E)
    → MatchResult r (λ s. P s × IsUtf8 bs) (λ e. ¬ (IsUtf8 bs) × Q e) → is_ok r ≡ is_utf8 bs
utf8_told P Q bs (Ok s) h = sym (is_utf8-from_IsUtf8 bs h.1)
utf8_told P Q bs (Err e) h = go (is_utf8 bs) refl where
  go : (b : Bool) → is_utf8 bs ≡ b → false ≡ is_utf8 bs
  go false e = sym e
  go true e = absurd (h.0 (IsUtf8-from_is_utf8 bs e))

octet_read : (octet : ℕ) (rest : List ℕ) → octet < 256 → percent_decode (escaped_octet octet ++ rest) ≡ octet ∷ percent_decode rest
octet_read octet rest small = go (nat_lt octet 32 || (octet == 37 || octet == 127)) refl where
  no_percent : (nat_lt octet 32 || (octet == 37 || octet == 127)) ≡ false → octet ≢ 37
  no_percent e is = absurd (search (rules, rw is at e))

  go : (b : Bool) → (nat_lt octet 32 || (octet == 37 || octet == 127)) ≡ b
      → percent_decode ((if b then percent_encode_byte octet else octet ∷ []) ++ rest) ≡ octet ∷ percent_decode rest
  go true e = percent_decode-percent_encode_byte octet rest small
  go false e = percent_decode_not_percent octet rest (no_percent e)

pub escaped_read : (text : List ℕ) → IsBytes text → percent_decode (escaped text) ≡ text
escaped_read [] each = percent_decode-nil
escaped_read (x ∷ xs) each = octet_read x (escaped xs) (each 0) ∙ ap (λ (l : List ℕ). x ∷ l) (escaped_read xs (λ i. each (suc i)))
