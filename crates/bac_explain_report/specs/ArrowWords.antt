-- What stands beside the arrow of a datagram, with the values of an answer or without.
use Rattle.std.specs.Prelude.{◌≡◌, ℕ, ◌==◌, Bool, true, false, List, [], ◌∷◌, ◌++◌, codes, Option, Some, None, Result, Ok, Err, if◌then◌else◌}
use Rattle.bac_apdu.specs.Apdu.{Apdu, Segment, ConfirmedRequest, UnconfirmedRequest, SimpleAck, ComplexAck, SegmentAck, Error, Reject, Abort}
use Rattle.bac_apdu.specs.Reading.{apdu_at}
use Rattle.bac_apdu.specs.declared.fault.ApduFault.{ApduFault}
use Rattle.bac_chart.specs.Labels.{apdu_words, octets_words, read_words}
use Rattle.bac_chart.specs.declared.drawing.ChartFormat.{ChartFormat}
use Rattle.bac_chart.specs.declared.drawing.ChartFormat.TheVariants as form
use Rattle.bac_service.specs.Services.{complex_at}
use Rattle.bac_service.specs.Values.{Complex}
use Rattle.bac_service_text.specs.ServiceData.{AreReplyDataWords}
use Rattle.bac_value.specs.declared.fault.Fault.{Fault}

-- what stands for an octet that Mermaid would read as its own: a number sign or a semicolon
abbrev pub mark : ℕ → Option (List ℕ)
mark octet = if octet == 35 then Some (codes "#35;") else if octet == 59 then Some (codes "#59;") else None

abbrev pub shown_as : ℕ → Option (List ℕ) → List ℕ
shown_as octet None = octet ∷ []
shown_as octet (Some name) = name

abbrev pub escaped : List ℕ → List ℕ
escaped [] = []
escaped (octet ∷ text) = shown_as octet (mark octet) ++ escaped text

abbrev pub said_in : ChartFormat → List ℕ → List ℕ
said_in form.Chart said = said
said_in form.Mermaid said = escaped said

-- the kind of an answer, and what it says
pub record AreSaidWords (f : ChartFormat) (choice : ℕ) (service words : List ℕ) : Type 0 where
  pub said : List ℕ
  pub are : AreReplyDataWords choice service said
  pub is : words ≡ codes "complex-ack " ++ said_in f said

abbrev pub AreFoundWords : ChartFormat → (choice : ℕ) → (service : List ℕ) → Result Complex Fault → (words : List ℕ) → Type 0
AreFoundWords f choice service (Ok c) words = AreSaidWords f choice service words
AreFoundWords f choice service (Err fault) words = words ≡ codes "complex-ack"

-- what a whole ComplexACK says, if it can be read
abbrev pub AreWholeWords : ChartFormat → (choice : ℕ) → (service words : List ℕ) → Type 0
AreWholeWords f choice service words = AreFoundWords f choice service (complex_at choice service) words

abbrev pub AreComplexWords : ChartFormat → Option Segment → (choice : ℕ) → (service short words : List ℕ) → Type 0
AreComplexWords f None choice service short words = AreWholeWords f choice service words
AreComplexWords f (Some s) choice service short words = words ≡ short

-- another APDU has its words in short
abbrev pub AreApduWords : ChartFormat → Apdu → (short words : List ℕ) → Type 0
AreApduWords f (ConfirmedRequest limits invoke_id segment choice service) short words = words ≡ short
AreApduWords f (UnconfirmedRequest choice service) short words = words ≡ short
AreApduWords f (SimpleAck invoke_id choice) short words = words ≡ short
AreApduWords f (ComplexAck invoke_id segment choice service) short words = AreComplexWords f segment choice service short words
AreApduWords f (SegmentAck server invoke_id k) short words = words ≡ short
AreApduWords f (Error invoke_id choice class code) short words = words ≡ short
AreApduWords f (Reject invoke_id reason) short words = words ≡ short
AreApduWords f (Abort server invoke_id reason) short words = words ≡ short

abbrev pub AreValuedWords : ChartFormat → Result Apdu ApduFault → (words : List ℕ) → Type 0
AreValuedWords f (Ok a) words = AreApduWords f a (apdu_words a) words
AreValuedWords f (Err fault) words = words ≡ octets_words

-- with the values of an answer or without
abbrev pub AreArrowWords : ChartFormat → (values : Bool) → (octets words : List ℕ) → Type 0
AreArrowWords f true octets words = AreValuedWords f (apdu_at octets) words
AreArrowWords f false octets words = words ≡ read_words (apdu_at octets)
