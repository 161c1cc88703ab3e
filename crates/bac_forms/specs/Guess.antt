-- The form that a text seems to have.
use Rattle.std.specs.Prelude.{ℕ, Bool, false, ◌==◌, ◌&&◌, ◌||◌, List, [], ◌∷◌, if◌then◌else◌}
use Rattle.std.specs.List.{list_all, list_any}
use Rattle.bac_forms.specs.Blanks.{is_space}
use Rattle.bac_forms.specs.Digits.{is_digit}
use Rattle.bac_forms.specs.declared.form.Form.{Form}
use Rattle.bac_forms.specs.declared.form.Form.TheVariants as form

-- the first character that is no blank is a quote
abbrev pub begins_quoted : List ℕ → Bool
begins_quoted [] = false
begins_quoted (octet ∷ text) = if is_space octet then begins_quoted text else octet == 34

-- three zeros
abbrev pub begins_dump : List ℕ → Bool
begins_dump (a ∷ b ∷ c ∷ text) = a == 48 && (b == 48 && c == 48)
begins_dump text = false

abbrev pub opens : List ℕ → Bool
opens text = list_any (λ octet. octet == 123) text

abbrev pub is_of_stream : ℕ → Bool
is_of_stream octet = is_digit octet || (is_space octet || (octet == 58 || octet == 120))

abbrev pub are_of_stream : List ℕ → Bool
are_of_stream text = list_all is_of_stream text

abbrev pub begins_note : List ℕ → Bool
begins_note [] = false
begins_note (octet ∷ text) = octet == 35

abbrev pub guess : List ℕ → Form
guess text =
    if begins_quoted text then form.Escaped else
    (if opens text then form.CArray else
    (if begins_dump text then form.HexDump else
    (if begins_note text || are_of_stream text then form.Hex else form.Base64)))

-- zeros at the front end at a blank or a colon
abbrev pub ends_offset : List ℕ → Bool
ends_offset [] = false
ends_offset (octet ∷ text) = if octet == 48 then ends_offset text else octet == 32 || (octet == 9 || octet == 58)

-- 0x81 and a function below 0x10
abbrev pub begins_base64 : List ℕ → Bool
begins_base64 (a ∷ b ∷ text) = a == 103 && b == 81
begins_base64 text = false

abbrev pub evident_in : Form → List ℕ → Form
evident_in form.Hex text = form.Hex
evident_in form.HexDump text = if ends_offset text then form.HexDump else form.Hex
evident_in form.Escaped text = form.Escaped
evident_in form.CArray text = form.CArray
evident_in form.Base64 text = if begins_base64 text then form.Base64 else form.Hex

-- the form that a text has beyond doubt
abbrev pub evident : List ℕ → Form
evident text = evident_in (guess text) text
