-- Octets that are UTF-8 or not, and texts that JSON refuses.
use Rattle.std.proofs.Common.{◌≡◌, ◌↔◌, ℕ, Bool, true, false, IsTrue, List, Some, None, refl, ap, sym}
use Rattle.std.proofs.lemmas.Bool.{iff_false}
use Rattle.std.proofs.lemmas.Str.{IsUtf8-from_is_utf8, is_utf8-from_IsUtf8}
use Rattle.std.specs.Str.{IsUtf8, is_utf8}
use Rattle.serde_json.specs.Read.{read}
use Rattle.bac_json.specs.Forms.{utf8_of}

told : (octets : List ℕ) (b : Bool) → is_utf8 octets ≡ b → (IsUtf8 octets → ⊥) → b ≡ false
told octets true is none = absurd (none (IsUtf8-from_is_utf8 octets is))
told octets false is none = refl

pub text_is : (octets text : List ℕ) → text ≡ octets → IsUtf8 octets → Some text ≡ utf8_of octets
text_is octets text same utf8 = rw (is_utf8-from_IsUtf8 octets utf8) (ap Some same)

pub text_is_not : (octets : List ℕ) → (IsUtf8 octets → ⊥) → None ≡ utf8_of octets
text_is_not octets none = rw (told octets (is_utf8 octets) refl none) refl

-- an error that is not of memory
pub is_refused : (text : List ℕ) (is_memory : Bool) (IsMemory : Type 0) → (IsTrue is_memory ↔ IsMemory) → is_memory ≡ false
    → ((IsMemory → ⊥) → read text ≡ None) → None ≡ read text
is_refused text is_memory IsMemory same none refused = sym (refused (iff_false same none))
