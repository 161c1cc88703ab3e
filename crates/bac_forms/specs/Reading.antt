-- What reading a text gives.
use Rattle.std.specs.Prelude.{◌≡◌, ℕ, ◌≤◌, List, map, take, ⊤, Option, Result, Err}
use Rattle.std.specs.Global.{Vec}
use Rattle.std.specs.List.{slice_get}
use Rattle.bac_forms.specs.declared.fault.FormFault.{FormFault}
use Rattle.bac_forms.specs.declared.fault.FormFault.TheVariants as form_fault
use Rattle.bac_forms.specs.declared.fault.ScanFault.{ScanFault}
use Rattle.bac_forms.specs.declared.fault.ScanFault.TheVariants as fault
use Rattle.bac_forms.specs.declared.form.Form.{Form}
use Rattle.bac_forms.specs.declared.form.Form.TheVariants as form
use Rattle.bac_forms.specs.declared.array.Array.TheVariants as array
use Rattle.bac_forms.specs.declared.escaped.Escaped.TheVariants as escaped
use Rattle.bac_forms.specs.declared.place.Position.{Position}
use Rattle.bac_forms.specs.declared.scan.Scan.TheVariants as scan
use Rattle.bac_forms.specs.declared.stream.Stream.TheVariants as stream
use Rattle.bac_forms.specs.Base64.{base64_whole}
use Rattle.bac_forms.specs.Dump.{begun}
use Rattle.bac_forms.specs.Positions.{position_of}
use Rattle.bac_forms.specs.Scans.{Reading, scanned_whole}

-- the datagrams that a text spells in a form; or how many characters stand before the first that does not fit
abbrev pub reading_of : Form → (text : List ℕ) → Reading
reading_of form.Hex text = scanned_whole (scan.Stream stream.Line) text
reading_of form.HexDump text = scanned_whole (scan.Dump begun) text
reading_of form.Escaped text = scanned_whole (scan.Escaped escaped.Before) text
reading_of form.CArray text = scanned_whole (scan.Array array.Outside) text
reading_of form.Base64 text = base64_whole text

-- that fault is there; a failed allocation says nothing of the text
abbrev pub IsMisfit : {A : Type 0} → Result A ℕ → ScanFault → Type 0
IsMisfit r (fault.At place) = r ≡ Err place
IsMisfit r fault.NoMemory = ⊤

abbrev pub IsWithin : (most : ℕ) → ScanFault → Type 0
IsWithin most (fault.At place) = place ≤ most
IsWithin most fault.NoMemory = ⊤

abbrev pub octets_of : List (Vec ℕ) → List (List ℕ)
octets_of datagrams = map (λ d. d.items) datagrams

-- the first character that does not fit, if the text does not end there, and its place
pub record IsAt (r : Reading) (text : List ℕ) (position : Position) (found : Option ℕ) : Type 0 where
  pub before : ℕ
  pub misfit : r ≡ Err before
  pub is : position ≡ position_of (take before text)
  pub character : found ≡ slice_get text before

-- that is the place of the first character that does not fit; a failed allocation says nothing of the text
abbrev pub IsFormFault : Reading → (text : List ℕ) → FormFault → Type 0
IsFormFault r text (form_fault.Misfit position found) = IsAt r text position found
IsFormFault r text form_fault.NoMemory = ⊤
