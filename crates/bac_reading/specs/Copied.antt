-- What `decode` prints of datagrams in another form, or with their numbers.
use Rattle.std.specs.Prelude.{ℕ, Bool, true, false, List, Option, Some, None, ⊤, codes}
use Rattle.std.specs.Str.{bytes_eq}
use Rattle.bac_commands.specs.Statuses.{ByStatus}
use Rattle.bac_forms.specs.Decoded.{IsFormDecoded}
use Rattle.bac_forms.specs.Guess.{evident, guess}
use Rattle.bac_forms.specs.declared.form.Form.{Form}
use Rattle.bac_text.specs.declared.status.Status.{Status}
use Rattle.bac_reading.specs.Files.{IsPrintedFile}
use Rattle.bac_reading.specs.declared.copied.Copied.{Copied}
use Rattle.bac_reading.specs.declared.copied.FormChoice.{FormChoice}
use Rattle.bac_reading.specs.declared.copied.FormChoice.TheVariants as choice

-- the form that is named, the one that the text seems to have, or the one that it has beyond doubt
abbrev pub form_in : FormChoice → (text : List ℕ) → Form
form_in (choice.Named form) text = form
form_in choice.Guessed text = guess text
form_in choice.Evident text = evident text

abbrev pub AreDecodedIn : Copied → (text : List ℕ) → (old new : Option (List ℕ)) → Status → Type 0
AreDecodedIn copied text old new s = IsFormDecoded (form_in copied.form text) copied.printing text old new s

-- where the octets of the file are known
abbrev pub IfKnown : Option (List ℕ) → (List ℕ → Type 0) → Type 0
IfKnown None Says = ⊤
IfKnown (Some text) Says = Says text

-- those of an input were printed where the command ended with 0 or 1
abbrev pub AreDecodedOf : Copied → (content old new : Option (List ℕ)) → Status → Type 0
AreDecodedOf copied content old new s =
    ByStatus s (IfKnown content (λ text. AreDecodedIn copied text old new s)) (IfKnown content (λ text. AreDecodedIn copied text old new s)) ⊤

abbrev pub IsCopiedFile : (IsAt : (path : List ℕ) → (content : Option (List ℕ)) → Type 0) → Copied → (path : List ℕ) → Status → (old new : Option (List ℕ)) → Type 0
IsCopiedFile IsAt copied path s old new =
    IsPrintedFile IsAt path s (λ content. IfKnown content (λ text. AreDecodedIn copied text old new s))

abbrev pub IsCopiedBy : (IsAt : (path : List ℕ) → (content : Option (List ℕ)) → Type 0) → Copied → (is_input : Bool) → (text : List ℕ) → Status
    → (old new : Option (List ℕ)) → Type 0
IsCopiedBy IsAt copied true text s old new = IsCopiedFile IsAt copied text s old new
IsCopiedBy IsAt copied false text s old new = AreDecodedIn copied text old new s

-- the datagrams of the text were printed, or where the text is that of standard input those of it
abbrev pub AreDecodedCopied : (IsAt : (path : List ℕ) → (content : Option (List ℕ)) → Type 0) → Copied → (text : List ℕ) → Status → (old new : Option (List ℕ)) → Type 0
AreDecodedCopied IsAt copied text s old new = IsCopiedBy IsAt copied (bytes_eq text (codes "-")) text s old new
