-- A datagram without a fault has none.
use Rattle.std.proofs.Common.{◌≡◌, ℕ, List, Option, Some, None, sym, subst}
use Rattle.bac_apdu.specs.Apdu.{Apdu}
use Rattle.bac_apdu.specs.Spelling.{SpellsApdu}
use Rattle.bac_npdu.specs.Npdu.{NpduView, SpellsNpdu, SpellsBvll}
use Rattle.bac_npdu.specs.Datagram.{IsFrameOf}
use Rattle.bac_service.specs.Values.{Request, Complex}
use Rattle.bac_text.specs.declared.fault.LayerFault.{LayerFault}
use Rattle.bac_text.specs.declared.fault.LayerFault.TheVariants as fault
use Rattle.bac_text.specs.Layers.{Service, request_data_in, complex_data_in, IsRequestIn, IsComplexIn, HasNoRequest, HasNoComplex}
use Rattle.bac_text.specs.Layers.{IsFineApdu, IsFineContent, IsFine, CarriesOctets, IsAtFault}

no_request : (s : Option Service) (r : Option Request) → IsRequestIn s r → HasNoRequest s → ⊥
no_request None r is_request none = none
no_request (Some s) None is_request none = is_request
no_request (Some s) (Some r) is_request none = none r is_request

no_complex : (s : Option Service) (c : Option Complex) → IsComplexIn s c → HasNoComplex s → ⊥
no_complex None c is_complex none = none
no_complex (Some s) None is_complex none = is_complex
no_complex (Some s) (Some c) is_complex none = none c is_complex

module _ (one_bvll : (m n octets : List ℕ) → SpellsBvll m octets → SpellsBvll n octets → m ≡ n)
    (one_npdu : (m n : NpduView) (octets : List ℕ) → SpellsNpdu m octets → SpellsNpdu n octets → m ≡ n)
    (one_apdu : (a b : Apdu) (octets : List ℕ) → SpellsApdu a octets → SpellsApdu b octets → a ≡ b) where
  one_frame : (m n : NpduView) (datagram : List ℕ) → IsFrameOf m datagram → IsFrameOf n datagram → m ≡ n
  one_frame m n datagram f g =
      let same = one_bvll f.npdu_octets g.npdu_octets datagram f.framed g.framed in
      one_npdu m n g.npdu_octets (subst (SpellsNpdu m) same f.spelled) g.spelled

  -- what a datagram without a fault carries is an APDU without one
  fine_in : (datagram octets : List ℕ) → IsFine datagram → CarriesOctets datagram octets → IsFineApdu octets
  fine_in datagram octets fine carries =
      let same = one_frame fine.npdu carries.npdu datagram fine.frame carries.frame in
      let content = subst (λ (n : NpduView). IsFineContent n.message n.contents) same fine.content in
      subst IsFineApdu (sym carries.is) (subst (λ m. IsFineContent m carries.npdu.contents) carries.no_message content)

  pub one_verdict : (datagram : List ℕ) (f : LayerFault) → IsFine datagram → IsAtFault datagram f → ⊥
  one_verdict datagram (fault.Bvll number) fine at = at.1 fine.frame.npdu_octets fine.frame.framed
  one_verdict datagram (fault.Npdu number) fine at =
      let same = one_bvll fine.frame.npdu_octets at.0 datagram fine.frame.framed at.1.0 in
      at.1.1.1 fine.npdu (subst (SpellsNpdu fine.npdu) same fine.frame.spelled)
  one_verdict datagram (fault.Apdu number) fine at =
      let content = fine_in datagram at.0 fine at.1.0 in
      at.1.1.1 content.apdu content.spelled
  one_verdict datagram (fault.Request reason) fine at =
      let carried = at.1.0 in
      let content = fine_in datagram carried.octets fine carried.carries in
      let same = one_apdu content.apdu at.0 carried.octets content.spelled carried.spelled in
      no_request (request_data_in at.0) content.request (subst (λ a. IsRequestIn (request_data_in a) content.request) same content.is_request) at.1.1.0
  one_verdict datagram (fault.ComplexAck kind) fine at =
      let carried = at.1.0 in
      let content = fine_in datagram carried.octets fine carried.carries in
      let same = one_apdu content.apdu at.0 carried.octets content.spelled carried.spelled in
      no_complex (complex_data_in at.0) content.complex (subst (λ a. IsComplexIn (complex_data_in a) content.complex) same content.is_complex) at.1.1.0
