-- Whether octets are text, as a test.
use Rattle.std.proofs.Common.{◌≡◌, ℕ, Bool, true, false, List, refl}
use Rattle.std.specs.Str.{IsUtf8, is_utf8}
use Rattle.std.proofs.lemmas.Str.{IsUtf8-from_is_utf8, is_utf8-from_IsUtf8}

pub text_is : (octets : List ℕ) → IsUtf8 octets → is_utf8 octets ≡ true
text_is octets text = is_utf8-from_IsUtf8 octets text

told : (octets : List ℕ) (b : Bool) → is_utf8 octets ≡ b → (IsUtf8 octets → ⊥) → b ≡ false
told octets true is none = absurd (none (IsUtf8-from_is_utf8 octets is))
told octets false is none = refl

pub text_is_not : (octets : List ℕ) → (IsUtf8 octets → ⊥) → is_utf8 octets ≡ false
text_is_not octets none = told octets (is_utf8 octets) refl none
