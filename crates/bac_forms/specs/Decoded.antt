-- What is printed of the datagrams of a text in any form.
use Rattle.std.specs.Prelude.{◌≡◌, ℕ, ◌+◌, ◌++◌, Bool, true, false, List, [], ◌∷◌, codes, decimal, Option, Ok, Err}
use Rattle.std.specs.Io.KnownBytes.{Keeps}
use Rattle.bac_service.specs.Members.{◌⨾◌}
use Rattle.bac_text.specs.DecodedLines.{IsFirstText}
use Rattle.bac_text.specs.Texts.{AppendsText, Is, line_end}
use Rattle.bac_text.specs.declared.status.Status.{Status}
use Rattle.bac_text.specs.declared.status.Status.TheVariants as status
use Rattle.bac_forms.specs.Framed.{IsItemText}
use Rattle.bac_forms.specs.Reading.{reading_of}
use Rattle.bac_forms.specs.declared.decode.Printing.{Printing}
use Rattle.bac_forms.specs.declared.fault.FormFault.{FormFault}
use Rattle.bac_forms.specs.declared.fault.FormFault.TheVariants as fault
use Rattle.bac_forms.specs.declared.form.Form.{Form}

abbrev pub number_line : (numbered : Bool) → (number : ℕ) → List ℕ
number_line false number = []
number_line true number = (codes "datagram " ++ decimal number) ++ line_end

-- the lines of a datagram or a frame, which has no fault or one, behind that of its number
abbrev pub IsNumberedText : Printing → (number : ℕ) → (datagram : List ℕ) → (fine : Bool) → (text : List ℕ) → Type 0
IsNumberedText p number datagram fine = Is (number_line p.numbered number) ⨾ IsItemText p.frames p.in_words datagram fine

-- the same of some datagrams in order, of which the first has that number; all of them are fine, or one is not
abbrev pub AreDatagramTexts : Printing → (number : ℕ) → List (List ℕ) → (fine : Bool) → (text : List ℕ) → Type 0
AreDatagramTexts p number [] fine text = (fine ≡ true) × (text ≡ [])
AreDatagramTexts p number (datagram ∷ datagrams) fine text =
    IsFirstText (IsNumberedText p number datagram) (AreDatagramTexts p (number + 1) datagrams) fine text

-- the lines of these datagrams were printed, and the status says whether one has a fault
abbrev pub AreAllShown : Printing → List (List ℕ) → (old new : Option (List ℕ)) → Status → Type 0
AreAllShown p datagrams old new status.Done = AppendsText old new (AreDatagramTexts p 1 datagrams true)
AreAllShown p datagrams old new status.Faulty = AppendsText old new (AreDatagramTexts p 1 datagrams false)
AreAllShown p datagrams old new status.CommandLine = ⊥
AreAllShown p datagrams old new status.Output = ⊥
AreAllShown p datagrams old new status.Memory = ⊥

-- the same of the datagrams that a text spells
pub record AreShown (form : Form) (p : Printing) (text : List ℕ) (old new : Option (List ℕ)) (s : Status) : Type 0 where
  pub datagrams : List (List ℕ)
  pub spelled : reading_of form text ≡ Ok datagrams
  pub shown : AreAllShown p datagrams old new s

-- a character does not fit, or the text ends too early
abbrev pub IsMisread : Form → (text : List ℕ) → Type 0
IsMisread form text = (place : ℕ) × (reading_of form text ≡ Err place)

-- of text that is not of the form nothing is printed; of output and memory the status says nothing
abbrev pub IsFormDecoded : Form → Printing → (text : List ℕ) → (old new : Option (List ℕ)) → Status → Type 0
IsFormDecoded form p text old new status.Done = AreShown form p text old new status.Done
IsFormDecoded form p text old new status.Faulty = AreShown form p text old new status.Faulty
IsFormDecoded form p text old new status.CommandLine = IsMisread form text × Keeps old new
IsFormDecoded form p text old new status.Output = Unit {0}
IsFormDecoded form p text old new status.Memory = Unit {0}

abbrev pub IsRefusal : FormFault → Status → Type 0
IsRefusal (fault.Misfit position found) s = s ≡ status.CommandLine
IsRefusal fault.NoMemory s = s ≡ status.Memory
