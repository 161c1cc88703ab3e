-- What `decode` prints of a datagram, and of those on standard input.
use Rattle.std.specs.Prelude.{ℕ, Bool, true, false, List, Option, Some, None, codes}
use Rattle.std.specs.Str.{bytes_eq}
use Rattle.bac_json_report.specs.Decoded as json
use Rattle.bac_forms.specs.declared.form.Form.{Form}
use Rattle.bac_reading.specs.Copied.{AreDecodedCopied, AreDecodedOf}
use Rattle.bac_reading.specs.declared.copied.Copied as copied
use Rattle.bac_reading.specs.declared.copied.FormChoice.TheVariants as choice
use Rattle.bac_reading.specs.Files.{IsPrintedFile}
use Rattle.bac_reading.specs.declared.decoding.Decoding.{Decoding}
use Rattle.bac_reading.specs.declared.decoding.Decoding.TheVariants.{Copied, Lines}
use Rattle.bac_reading.specs.declared.decoding.LayerForm.{LayerForm}
use Rattle.bac_reading.specs.declared.decoding.LayerForm.TheVariants.{Numbers, Objects, Words}
use Rattle.bac_text.specs.DecodedLines.{AreDecoded}
use Rattle.bac_text.specs.Outcome.{IsDecodedAs}
use Rattle.bac_text.specs.declared.status.Status.{Status}

-- each line was printed
abbrev pub AreLayered : LayerForm → (content old new : Option (List ℕ)) → Status → Type 0
AreLayered Numbers content old new s = AreDecoded false content old new s
AreLayered Words content old new s = AreDecoded true content old new s
AreLayered Objects content old new s = json.AreDecoded content old new s

-- the datagram was printed
abbrev pub IsLayered : LayerForm → (text : List ℕ) → (old new : Option (List ℕ)) → Status → Type 0
IsLayered Numbers text old new s = IsDecodedAs false text old new s
IsLayered Words text old new s = IsDecodedAs true text old new s
IsLayered Objects text old new s = json.IsDecoded text old new s

-- the same of datagrams that are copied in a form
abbrev pub in_words : LayerForm → Bool
in_words Numbers = false
in_words Words = true
in_words Objects = false

abbrev pub copied_as : Form → LayerForm → copied.Copied
copied_as form layers = record { form = choice.Named form; printing = record { in_words = in_words layers; numbered = false; frames = false } }

-- each line was printed, or each datagram that is copied in another form
abbrev pub AreReadAs : LayerForm → (form : Option Form) → (content old new : Option (List ℕ)) → Status → Type 0
AreReadAs layers None content old new s = AreLayered layers content old new s
AreReadAs layers (Some form) content old new s = AreDecodedOf (copied_as form layers) content old new s

pub record AreRead (layers : LayerForm) (content old new : Option (List ℕ)) (s : Status) : Type 0 where
  pub form : Option Form
  pub are : AreReadAs layers form content old new s

-- so of the file
abbrev pub AreLayeredIn : (IsAt : (path : List ℕ) → (content : Option (List ℕ)) → Type 0) → LayerForm → (path : List ℕ) → Status → (old new : Option (List ℕ)) → Type 0
AreLayeredIn IsAt form path s old new = IsPrintedFile IsAt path s (λ content. AreRead form content old new s)

-- the datagram was, or where the text is that of standard input each line of it
abbrev pub IsLayeredBy : (IsAt : (path : List ℕ) → (content : Option (List ℕ)) → Type 0) → LayerForm → (is_input : Bool) → (text : List ℕ) → Status
    → (old new : Option (List ℕ)) → Type 0
IsLayeredBy IsAt form true text s old new = AreLayeredIn IsAt form text s old new
IsLayeredBy IsAt form false text s old new = IsLayered form text old new s

abbrev pub IsLayeredFrom : (IsAt : (path : List ℕ) → (content : Option (List ℕ)) → Type 0) → LayerForm → (text : List ℕ) → Status → (old new : Option (List ℕ)) → Type 0
IsLayeredFrom IsAt form text s old new = IsLayeredBy IsAt form (bytes_eq text (codes "-")) text s old new

abbrev pub IsDecodedFrom : (IsAt : (path : List ℕ) → (content : Option (List ℕ)) → Type 0) → Decoding → (text : List ℕ) → Status → (old new : Option (List ℕ)) → Type 0
IsDecodedFrom IsAt (Lines form) text s old new = IsLayeredFrom IsAt form text s old new
IsDecodedFrom IsAt (Copied copied) text s old new = AreDecodedCopied IsAt copied text s old new
