-- What `bac decode --json` prints of a datagram.
use Rattle.std.specs.Prelude.{◌≡◌, ℕ, Bool, true, false, List, codes, length, Option, Some, None}
use Rattle.bac_json.specs.Datagrams.{AreLayerForms, LayersView}
use Rattle.bac_json.specs.Forms.{string_or_null}
use Rattle.bac_json_report.specs.Lines.{IsLineOf}
use Rattle.bac_json_report.specs.Faults.{fault_form, outer_fault_form}
use Rattle.bac_json_report.specs.Names.{name_at}
use Rattle.bac_npdu.specs.Reading.{bvll_at}
use Rattle.serde_json.specs.Data.{Data, member, no_members, null, number, object, unsigned}
use Rattle.bac_text.specs.declared.fault.LayerFault.{LayerFault}
use Rattle.bac_text.specs.Layers.{IsFine, IsAtFault}

abbrev pub optional_fault : Option LayerFault → Data
optional_fault None = null
optional_fault (Some fault) = fault_form fault

abbrev pub datagram_members : (line : ℕ) → (len fault name : Data) → LayersView → Data
datagram_members line len fault name l =
    object (member (codes "apdu") l.apdu (member (codes "fault") fault (member (codes "length") len
    (member (codes "line") (number (unsigned line)) (member (codes "name") name (member (codes "npdu") l.npdu
    (member (codes "service") l.service no_members)))))))

-- a datagram on a line: its layers that can be read, the standard's name for what it is, and what is wrong with it
pub record IsDatagramForm (line : ℕ) (datagram : List ℕ) (fault : Option LayerFault) (d : Data) : Type 0 where
  pub layers : LayersView
  pub are : AreLayerForms (bvll_at datagram) layers
  pub is : d ≡ datagram_members line (number (unsigned (length datagram))) (optional_fault fault) (string_or_null (name_at datagram)) layers

-- a line that is no hexadecimal
abbrev pub bad_line_form : (line : ℕ) → Data
bad_line_form line =
    datagram_members line null (outer_fault_form (codes "line") (codes "bad hex")) null (record { npdu = null; apdu = null; service = null })

abbrev pub IsDatagramLine : (line : ℕ) → (datagram : List ℕ) → Option LayerFault → List ℕ → Type 0
IsDatagramLine line datagram fault text = IsLineOf (IsDatagramForm line datagram fault) text

-- it has a fault: this one
pub record IsFaultyLine (line : ℕ) (datagram text : List ℕ) : Type 0 where
  pub fault : LayerFault
  pub at_fault : IsAtFault datagram fault
  pub line_of : IsDatagramLine line datagram (Some fault) text

-- whether it has no fault
abbrev pub IsDatagramText : (line : ℕ) → (fine : Bool) → (datagram text : List ℕ) → Type 0
IsDatagramText line true datagram text = IsFine datagram × IsDatagramLine line datagram None text
IsDatagramText line false datagram text = IsFaultyLine line datagram text
