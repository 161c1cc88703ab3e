-- Escapes.
use Rattle.std.specs.Prelude.{ℕ, ◌+◌, ◌-◌, ◌/◌, ◌%◌, true, false, nat_lt, List, [], ◌∷◌, ◌++◌, codes, if◌then◌else◌}
use Rattle.std.specs.Fmt.{digit_glyph, digits}
use Rattle.bac_shown.specs.declared.form.Form.{Form}
use Rattle.bac_shown.specs.declared.form.Form.TheVariants.{Text, Json}

-- a unit of UTF-16 as `\u202e`
abbrev pub unit_text : (unit : ℕ) → List ℕ
unit_text unit =
    92 ∷ 117 ∷ digit_glyph false (unit / 4096) ∷ digit_glyph false (unit / 256 % 16) ∷ digit_glyph false (unit / 16 % 16) ∷ digit_glyph false (unit % 16) ∷ []

-- the halves of a character beyond U+FFFF
abbrev pub json_pair : (code : ℕ) → List ℕ
json_pair code = unit_text (55296 + (code - 65536) / 1024) ++ unit_text (56320 + (code - 65536) % 1024)

-- a character as `\u{202E}`, in JSON as `\u202e`
abbrev pub escaped : Form → (code : ℕ) → List ℕ
escaped Text code = 92 ∷ 117 ∷ 123 ∷ (digits 16 true code ++ (125 ∷ []))
escaped Json code = if nat_lt code 65536 then unit_text code else json_pair code

-- an octet that is no UTF-8 as `\x9B`, in JSON as the character that stands for such octets
abbrev pub octet_text : Form → (octet : ℕ) → List ℕ
octet_text Text octet = 92 ∷ 120 ∷ digit_glyph true (octet / 16 % 16) ∷ digit_glyph true (octet % 16) ∷ []
octet_text Json octet = codes "\\ufffd"
