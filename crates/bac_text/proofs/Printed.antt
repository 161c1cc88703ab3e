-- The lines of a layer, and of what is in it.
use Rattle.std.proofs.Common.{ℕ, Bool, true, false, List, [], ◌++◌, Option, Some, None, Result, Ok, Err, OnOk, refl}
use Rattle.std.specs.Io.KnownBytes.{Appends, Keeps}
use Rattle.bac_service.specs.Members.{◌⨾◌}
use Rattle.bac_service.specs.Values.{Request, Complex}
use Rattle.std.proofs.KnownBytes.{Appends-kept}
use Rattle.bac_text.specs.Decoded.{IsLayer, AreRequestLines, AreComplexLines, AreLayerLines, fault_line, AreFaultLines, AreLines, AreOtherLines}
use Rattle.bac_text.specs.declared.fault.LayerFault.{LayerFault}
use Rattle.bac_text.specs.Layers.{Service, IsRequestIn, IsComplexIn, HasNoRequest, HasNoComplex, IsFine, IsAtFault}
use Rattle.bac_text.specs.Outcome.{IsPrinted, IsShown, shown_status}
use Rattle.bac_text.specs.Texts.{Is, line_end, IsRequestText, IsComplexText, AppendsText, AppendsLine}
use Rattle.bac_service_text.proofs.Appending.{both, line_is, no_line, nothing}

pub no_layer : {A : Type 0} (Spells : A → List ℕ → Type 0) (IsText : A → List ℕ → Type 0) (octets : List ℕ) (a : Option (List ℕ))
    → ((x : A) → Spells x octets → ⊥) → AppendsText a a (IsLayer Spells IsText octets)
no_layer Spells IsText octets a none = ([], (record { layer = None; is = (none, refl) }, nothing a))

pub a_layer : {T E A : Type 0} (r : Result T E) (Spells : A → List ℕ → Type 0) (IsText : A → List ℕ → Type 0) (octets : List ℕ) (x : A)
    (a b : Option (List ℕ)) → Spells x octets → OnOk r (AppendsText a b (IsText x)) → OnOk r (AppendsText a b (IsLayer Spells IsText octets))
a_layer (Ok t) Spells IsText octets x a b spelled p = (p.0, (record { layer = Some x; is = (spelled, p.1.0) }, p.1.1))
a_layer (Err e) Spells IsText octets x a b spelled p = tt

-- the line of what was read of service data, and none where nothing was
module _ {X : Type 0} (IsText : X → List ℕ → Type 0) where
  abbrev Line : X → List ℕ → Type 0
  Line x = IsText x ⨾ Is line_end

  pub with_end : (x : X) (a b : Option (List ℕ)) → AppendsLine a b (IsText x) → AppendsText a b (Line x)
  with_end x a b p = (p.0 ++ line_end, (record { front = p.0; back = line_end; first = p.1.0; second = refl; is = refl }, p.1.1))

pub request_line : {T E : Type 0} (r : Result T E) (in_words : Bool) (service : Option Service) (request : Request) (a b : Option (List ℕ))
    → IsRequestIn service (Some request) → OnOk r (AppendsLine a b (IsRequestText in_words request)) → OnOk r (AppendsText a b (AreRequestLines in_words service))
request_line (Err e) in_words service request a b is p = tt
request_line (Ok t) in_words None request a b is p = absurd is
request_line (Ok t) in_words (Some s) request a b is p =
    let line = with_end (IsRequestText in_words) request a b p in
    (line.0, (record { layer = Some request; is = (is, line.1.0) }, line.1.1))

pub no_request_line : (in_words : Bool) (service : Option Service) (a : Option (List ℕ)) → IsRequestIn service None
    → AppendsText a a (AreRequestLines in_words service)
no_request_line in_words None a is = no_line a
no_request_line in_words (Some s) a is = absurd is

pub request_refused : (in_words : Bool) (service : Option Service) (a : Option (List ℕ)) → HasNoRequest service
    → AppendsText a a (AreRequestLines in_words service)
request_refused in_words None a none = absurd none
request_refused in_words (Some s) a none = ([], (record { layer = None; is = (none, refl) }, nothing a))

-- the same of the service data of a ComplexACK
pub complex_line : {T E : Type 0} (r : Result T E) (in_words : Bool) (service : Option Service) (complex : Complex) (a b : Option (List ℕ))
    → IsComplexIn service (Some complex) → OnOk r (AppendsLine a b (IsComplexText in_words complex)) → OnOk r (AppendsText a b (AreComplexLines in_words service))
complex_line (Err e) in_words service complex a b is p = tt
complex_line (Ok t) in_words None complex a b is p = absurd is
complex_line (Ok t) in_words (Some s) complex a b is p =
    let line = with_end (IsComplexText in_words) complex a b p in
    (line.0, (record { layer = Some complex; is = (is, line.1.0) }, line.1.1))

pub no_complex_line : (in_words : Bool) (service : Option Service) (a : Option (List ℕ)) → IsComplexIn service None
    → AppendsText a a (AreComplexLines in_words service)
no_complex_line in_words None a is = no_line a
no_complex_line in_words (Some s) a is = absurd is

pub complex_refused : (in_words : Bool) (service : Option Service) (a : Option (List ℕ)) → HasNoComplex service
    → AppendsText a a (AreComplexLines in_words service)
complex_refused in_words None a none = absurd none
complex_refused in_words (Some s) a none = ([], (record { layer = None; is = (none, refl) }, nothing a))

-- the layers were printed
pub printed_fine : (in_words : Bool) (datagram : List ℕ) (a b : Option (List ℕ)) → AppendsText a b (AreLayerLines in_words datagram) → IsFine datagram
    → IsPrinted in_words true datagram a b
printed_fine in_words datagram a b p fine = (fine, both a b b (AreLayerLines in_words datagram) (Is []) p (no_line b))

-- the layers were printed, then the fault, and then what else is told
pub printed_faulty : (in_words : Bool) (datagram : List ℕ) (fault : LayerFault) (a b c d : Option (List ℕ)) → AppendsText a b (AreLayerLines in_words datagram)
    → IsAtFault datagram fault → Appends b c (fault_line in_words datagram fault) → AppendsText c d (AreOtherLines in_words datagram)
    → IsPrinted in_words false datagram a d
printed_faulty in_words datagram fault a b c d p at q o = record {
  fault = fault;
  at_fault = at;
  printed = both a b d (AreLayerLines in_words datagram) (AreFaultLines in_words datagram (Some fault)) p
      (both b c d (Is (fault_line in_words datagram fault)) (AreOtherLines in_words datagram) (line_is b c (fault_line in_words datagram fault) q) o);
}

-- what was printed stands after a flush
kept : (a b c : Option (List ℕ)) (P : List ℕ → Type 0) → AppendsText a b P → Keeps b c → AppendsText a c P
kept a b c P p keeps = (p.0, (p.1.0, Appends-kept a b c p.0 p.1.1 keeps))

pub flushed : (in_words fine : Bool) (datagram : List ℕ) (a b c : Option (List ℕ)) → IsPrinted in_words fine datagram a b → Keeps b c
    → IsShown in_words datagram a c (shown_status fine)
flushed in_words true datagram a b c told keeps = (told.0, kept a b c (AreLines in_words datagram None) told.1 keeps)
flushed in_words false datagram a b c told keeps = record {
  fault = told.fault;
  at_fault = told.at_fault;
  printed = kept a b c (AreLines in_words datagram (Some told.fault)) told.printed keeps;
}
