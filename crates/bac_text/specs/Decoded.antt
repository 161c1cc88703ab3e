-- What `bac decode` prints of a datagram.
use Rattle.std.specs.Prelude.{◌≡◌, ℕ, Bool, true, false, List, [], ◌++◌, length, drop, Option, Some, None}
use Rattle.bac_apdu.specs.Apdu.{Apdu}
use Rattle.bac_apdu.specs.Spelling.{SpellsApdu}
use Rattle.bac_npdu.specs.Npdu.{NpduView, MessageView, SpellsNpdu, SpellsBvll}
use Rattle.bac_service.specs.Members.{◌⨾◌}
use Rattle.bac_service.specs.Values.{Request, Complex}
use Rattle.bac_service.specs.Requests.{SpellsRequest}
use Rattle.bac_service.specs.Replies.{SpellsComplex}
use Rattle.bac_text.specs.declared.fault.LayerFault.{LayerFault}
use Rattle.bac_text.specs.declared.bvlc.BvlcFunction.{BvlcFunction}
use Rattle.bac_text.specs.declared.bvlc.OtherBvll.{OtherBvll}
use Rattle.bac_text.specs.declared.bvlc.OtherBvll.TheVariants as other
use Rattle.bac_text.specs.Bvlc.{other_bvll_of}
use Rattle.bac_text.specs.Carried.{carried_at, function_line}
use Rattle.bac_text.specs.Faults.{function_in, printed_fault}
use Rattle.bac_text.specs.Layers.{Service, request_data_in, complex_data_in}
use Rattle.bac_text.specs.NameLines.{message_lines, service_lines}
use Rattle.bac_text.specs.Texts.{Is, line_end, bvll_text, npdu_text, apdu_text, IsRequestText, IsComplexText}

-- ---- one layer

-- the octets spell this layer, and the text is that of it and of what is in it; octets that spell none have no text
abbrev pub IsLayerOf : {A : Type 0} → (A → List ℕ → Type 0) → (A → List ℕ → Type 0) → Option A → List ℕ → List ℕ → Type 0
IsLayerOf {A} Spells IsText None octets text = ((x : A) → Spells x octets → ⊥) × (text ≡ [])
IsLayerOf Spells IsText (Some x) octets text = Spells x octets × IsText x text

pub record IsLayer {A : Type 0} (Spells : A → List ℕ → Type 0) (IsText : A → List ℕ → Type 0) (octets text : List ℕ) : Type 0 where
  pub layer : Option A
  pub is : IsLayerOf Spells IsText layer octets text

-- ---- the layers, from the inside out

abbrev pub IsRequestLine : (in_words : Bool) → Request → List ℕ → Type 0
IsRequestLine in_words r = IsRequestText in_words r ⨾ Is line_end

abbrev pub IsComplexLine : (in_words : Bool) → Complex → List ℕ → Type 0
IsComplexLine in_words c = IsComplexText in_words c ⨾ Is line_end

-- the line of the request that an APDU carries whole, where its service data spell one
abbrev pub AreRequestLines : (in_words : Bool) → Option Service → List ℕ → Type 0
AreRequestLines in_words None = Is []
AreRequestLines in_words (Some s) = IsLayer (SpellsRequest s.0) (IsRequestLine in_words) s.1

-- the line of the service data that a ComplexACK carries whole, where they spell some
abbrev pub AreComplexLines : (in_words : Bool) → Option Service → List ℕ → Type 0
AreComplexLines in_words None = Is []
AreComplexLines in_words (Some s) = IsLayer (SpellsComplex s.0) (IsComplexLine in_words) s.1

-- the line of an APDU, and after it that of its service data; in words the name of another service than the four
abbrev pub AreApduLinesAs : (in_words : Bool) → Apdu → List ℕ → Type 0
AreApduLinesAs in_words a =
    Is (apdu_text in_words a) ⨾ (AreRequestLines in_words (request_data_in a) ⨾ (AreComplexLines in_words (complex_data_in a) ⨾ Is (service_lines in_words a)))

abbrev pub AreApduLines : Apdu → List ℕ → Type 0
AreApduLines a = AreApduLinesAs false a

-- the contents of a network message stand in the line of its NPDU; in words its name is below it
abbrev pub AreContentLines : (in_words : Bool) → Option MessageView → List ℕ → List ℕ → Type 0
AreContentLines in_words None contents = IsLayer SpellsApdu (AreApduLinesAs in_words) contents
AreContentLines in_words (Some message) contents = Is (message_lines in_words message)

abbrev pub AreNpduLines : (in_words : Bool) → NpduView → List ℕ → Type 0
AreNpduLines in_words n = Is (npdu_text n) ⨾ AreContentLines in_words n.message n.contents

abbrev pub AreBvllLines : (in_words : Bool) → ℕ → List ℕ → List ℕ → Type 0
AreBvllLines in_words len npdu = Is (bvll_text len) ⨾ IsLayer SpellsNpdu (AreNpduLines in_words) npdu

-- ---- a datagram

-- the lines of the layers that can be read, from the outside in
abbrev pub AreLayerLines : (in_words : Bool) → List ℕ → List ℕ → Type 0
AreLayerLines in_words datagram = IsLayer SpellsBvll (AreBvllLines in_words (length datagram)) datagram

abbrev pub fault_line : (in_words : Bool) → (datagram : List ℕ) → LayerFault → List ℕ
fault_line in_words datagram fault = printed_fault in_words (function_in datagram) fault ++ line_end

-- ---- in words, what a BVLL with another function is

abbrev pub IsCarriedBy : BvlcFunction → (datagram octets : List ℕ) → List ℕ → Type 0
IsCarriedBy f datagram octets = Is (function_line f datagram) ⨾ IsLayer SpellsNpdu (AreNpduLines true) octets

-- the function, and the layers of what it carries, where that is an NPDU
abbrev pub AreCarriedLines : BvlcFunction → (datagram : List ℕ) → Option ℕ → List ℕ → Type 0
AreCarriedLines f datagram None = Is (function_line f datagram)
AreCarriedLines f datagram (Some place) = IsCarriedBy f datagram (drop place datagram)

abbrev pub AreFunctionLines : BvlcFunction → (datagram : List ℕ) → List ℕ → Type 0
AreFunctionLines f datagram = AreCarriedLines f datagram (carried_at f)

abbrev pub AreLinesOf : (datagram : List ℕ) → Option OtherBvll → List ℕ → Type 0
AreLinesOf datagram None = Is []
AreLinesOf datagram (Some other.Ipv6) = Is []
AreLinesOf datagram (Some (other.Ipv4 f)) = AreFunctionLines f datagram

abbrev pub AreOtherLines : (in_words : Bool) → (datagram : List ℕ) → List ℕ → Type 0
AreOtherLines false datagram = Is []
AreOtherLines true datagram = AreLinesOf datagram (other_bvll_of datagram)

-- ---- all lines

abbrev pub AreFaultLines : (in_words : Bool) → List ℕ → Option LayerFault → List ℕ → Type 0
AreFaultLines in_words datagram None = Is []
AreFaultLines in_words datagram (Some fault) = Is (fault_line in_words datagram fault) ⨾ AreOtherLines in_words datagram

-- the lines of the layers, and then that of the fault, if there is one, and what else is told
abbrev pub AreLines : (in_words : Bool) → List ℕ → Option LayerFault → List ℕ → Type 0
AreLines in_words datagram fault = AreLayerLines in_words datagram ⨾ AreFaultLines in_words datagram fault
