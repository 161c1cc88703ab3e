-- The names of the forms.
use Rattle.std.specs.Prelude.{ℕ, List, codes, Option, Some, None, if◌then◌else◌}
use Rattle.std.specs.Str.{bytes_eq}
use Rattle.bac_forms.specs.declared.form.Form.{Form}
use Rattle.bac_forms.specs.declared.form.Form.TheVariants as form

abbrev pub form_named : (name : List ℕ) → Option Form
form_named name =
    if bytes_eq name (codes "hex") then Some form.Hex else
    (if bytes_eq name (codes "hexdump") then Some form.HexDump else
    (if bytes_eq name (codes "escaped") then Some form.Escaped else
    (if bytes_eq name (codes "c") then Some form.CArray else
    (if bytes_eq name (codes "base64") then Some form.Base64 else None))))

abbrev pub form_name : Form → List ℕ
form_name form.Hex = codes "hex"
form_name form.HexDump = codes "hexdump"
form_name form.Escaped = codes "escaped"
form_name form.CArray = codes "c"
form_name form.Base64 = codes "base64"
