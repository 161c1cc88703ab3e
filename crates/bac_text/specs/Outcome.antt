-- What `bac decode` prints, and what its status says.
use Rattle.std.specs.Prelude.{ℕ, Bool, true, false, List, Option, Some, None}
use Rattle.std.specs.Io.KnownBytes.{Keeps}
use Rattle.bac_text.specs.declared.fault.LayerFault.{LayerFault}
use Rattle.bac_text.specs.declared.status.Status.{Status}
use Rattle.bac_text.specs.declared.status.Status.TheVariants as status
use Rattle.bac_text.specs.Decoded.{AreLines}
use Rattle.bac_text.specs.Groups.{octets_in}
use Rattle.bac_text.specs.Layers.{IsFine, IsAtFault}
use Rattle.bac_text.specs.Texts.{AppendsText}

-- no layer of the datagram is at fault, and its lines were printed, in words or not
abbrev pub IsShownFine : (in_words : Bool) → List ℕ → Option (List ℕ) → Option (List ℕ) → Type 0
IsShownFine in_words datagram old new = IsFine datagram × AppendsText old new (AreLines in_words datagram None)

-- this layer is at fault, and the lines of those around it were printed, and then that of the fault
pub record IsShownFaulty (in_words : Bool) (datagram : List ℕ) (old new : Option (List ℕ)) : Type 0 where
  pub fault : LayerFault
  pub at_fault : IsAtFault datagram fault
  pub printed : AppendsText old new (AreLines in_words datagram (Some fault))

abbrev pub IsPrinted : (in_words fine : Bool) → List ℕ → Option (List ℕ) → Option (List ℕ) → Type 0
IsPrinted in_words true datagram old new = IsShownFine in_words datagram old new
IsPrinted in_words false datagram old new = IsShownFaulty in_words datagram old new

abbrev pub shown_status : (fine : Bool) → Status
shown_status true = status.Done
shown_status false = status.Faulty

-- what was printed of a datagram, and the status
abbrev pub IsShown : (in_words : Bool) → List ℕ → Option (List ℕ) → Option (List ℕ) → Status → Type 0
IsShown in_words datagram old new status.Done = IsShownFine in_words datagram old new
IsShown in_words datagram old new status.Faulty = IsShownFaulty in_words datagram old new
IsShown in_words datagram old new status.CommandLine = ⊥
IsShown in_words datagram old new status.Output = ⊥
IsShown in_words datagram old new status.Memory = ⊥

abbrev pub IfOctets : Option (List ℕ) → (List ℕ → Type 0) → (none : Type 0) → Type 0
IfOctets None P none = none
IfOctets (Some octets) P none = P octets

-- the same of a datagram given in hexadecimal; of text that is no hexadecimal nothing is printed; of output and memory the status says nothing
abbrev pub IsDecodedAs : (in_words : Bool) → List ℕ → Option (List ℕ) → Option (List ℕ) → Status → Type 0
IsDecodedAs in_words text old new status.Done = IfOctets (octets_in text) (λ octets. IsShownFine in_words octets old new) ⊥
IsDecodedAs in_words text old new status.Faulty = IfOctets (octets_in text) (λ octets. IsShownFaulty in_words octets old new) ⊥
IsDecodedAs in_words text old new status.CommandLine = IfOctets (octets_in text) (λ octets. ⊥) (Keeps old new)
IsDecodedAs in_words text old new status.Output = Unit {0}
IsDecodedAs in_words text old new status.Memory = Unit {0}

abbrev pub IsDecoded : List ℕ → Option (List ℕ) → Option (List ℕ) → Status → Type 0
IsDecoded text old new status = IsDecodedAs false text old new status
