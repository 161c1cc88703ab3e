-- The one spelling of each APDU (clause 20.1).
use Rattle.std.specs.Prelude.{◌≡◌, ℕ, ◌+◌, ◌*◌, ◌/◌, ◌%◌, ◌^◌, Bool, true, false, nat_lt, ◌&&◌, if◌then◌else◌, IsTrue, List, [], ◌∷◌, ◌++◌, Option, Some, None}
use Rattle.std.specs.Int.{w16, w32, to_be_bytes}
pub use Rattle.bac_apdu.specs.declared.bits.TheConstants.{SEG, MOR, SA, NAK, SRV}
use Rattle.bac_apdu.specs.Apdu.{Limits, Segment, Apdu, ConfirmedRequest, UnconfirmedRequest, SimpleAck, ComplexAck, SegmentAck, Error, Reject, Abort}

-- window sizes are 1 to 127 (clause 20.1.2.8)
abbrev pub window_fits : ℕ → Bool
window_fits window = nat_lt 0 window && nat_lt window 128

-- the codes of clauses 20.1.2.4 (0 to 7) and 20.1.2.5 (0 to 5)
abbrev pub codes_fit : ℕ → ℕ → Bool
codes_fit max_segments max_apdu = nat_lt max_segments 8 && nat_lt max_apdu 6

abbrev pub limits_fit : Limits → Bool
limits_fit l = codes_fit l.max_segments l.max_apdu

abbrev pub segment_fits : Option Segment → Bool
segment_fits None = true
segment_fits (Some s) = window_fits s.window

-- the APDUs that can be encoded: codes and windows are in range, and class and code have at most four octets (own limit of this profile)
unfoldable pub apdu_fits : Apdu → Bool
apdu_fits (ConfirmedRequest limits invoke_id segment choice service) = limits_fit limits && segment_fits segment
apdu_fits (UnconfirmedRequest choice service) = true
apdu_fits (SimpleAck invoke_id choice) = true
apdu_fits (ComplexAck invoke_id segment choice service) = segment_fits segment
apdu_fits (SegmentAck server invoke_id acknowledgement) = window_fits acknowledgement.window
apdu_fits (Error invoke_id choice class code) = nat_lt class (2 ^ 32) && nat_lt code (2 ^ 32)
apdu_fits (Reject invoke_id reason) = true
apdu_fits (Abort server invoke_id reason) = true

-- what a flag adds to the first octet, by its weight (clauses 20.1.2.1 to 20.1.2.3, 20.1.6.1, 20.1.6.2 and 20.1.9.1)
abbrev pub bit : Bool → ℕ → ℕ
bit b weight = if b then weight else 0

abbrev pub segment_bits : Option Segment → ℕ
segment_bits None = 0
segment_bits (Some s) = SEG + bit s.more MOR

abbrev pub segment_octets : Option Segment → List ℕ
segment_octets None = []
segment_octets (Some s) = s.number ∷ s.window ∷ []

-- an application Enumerated: tag number 9 and the length, then the number in the fewest octets (clause 20.2.11)
abbrev pub enumerated_spelling : ℕ → List ℕ
enumerated_spelling n =
    if nat_lt n 256 then 0x91 ∷ n ∷ [] else
    (if nat_lt n 65536 then 0x92 ∷ to_be_bytes w16 n else
    (if nat_lt n 16777216 then 0x93 ∷ n / 65536 ∷ to_be_bytes w16 (n % 65536) else
    0x94 ∷ to_be_bytes w32 n))

-- the type is in bits 7 to 4 of the first octet, so it counts 16 times
unfoldable pub apdu_spelling : Apdu → List ℕ
apdu_spelling (ConfirmedRequest limits invoke_id segment choice service) =
    (segment_bits segment + bit limits.takes_segments SA) ∷ (16 * limits.max_segments + limits.max_apdu) ∷ invoke_id ∷
    (segment_octets segment ++ choice ∷ service)
apdu_spelling (UnconfirmedRequest choice service) = 0x10 ∷ choice ∷ service
apdu_spelling (SimpleAck invoke_id choice) = 0x20 ∷ invoke_id ∷ choice ∷ []
apdu_spelling (ComplexAck invoke_id segment choice service) = (0x30 + segment_bits segment) ∷ invoke_id ∷ (segment_octets segment ++ choice ∷ service)
apdu_spelling (SegmentAck server invoke_id acknowledgement) =
    (0x40 + bit acknowledgement.nak NAK + bit server SRV) ∷ invoke_id ∷ acknowledgement.number ∷ acknowledgement.window ∷ []
apdu_spelling (Error invoke_id choice class code) = 0x50 ∷ invoke_id ∷ choice ∷ (enumerated_spelling class ++ enumerated_spelling code)
apdu_spelling (Reject invoke_id reason) = 0x60 ∷ invoke_id ∷ reason ∷ []
apdu_spelling (Abort server invoke_id reason) = (0x70 + bit server SRV) ∷ invoke_id ∷ reason ∷ []

pub record SpellsApdu (apdu : Apdu) (octets : List ℕ) : Type 0 where
  pub fits : IsTrue (apdu_fits apdu)
  pub is : octets ≡ apdu_spelling apdu

-- the only type of APDU that expects a reply
abbrev pub is_confirmed_request : Apdu → Bool
is_confirmed_request (ConfirmedRequest limits invoke_id segment choice service) = true
is_confirmed_request (UnconfirmedRequest choice service) = false
is_confirmed_request (SimpleAck invoke_id choice) = false
is_confirmed_request (ComplexAck invoke_id segment choice service) = false
is_confirmed_request (SegmentAck server invoke_id acknowledgement) = false
is_confirmed_request (Error invoke_id choice class code) = false
is_confirmed_request (Reject invoke_id reason) = false
is_confirmed_request (Abort server invoke_id reason) = false

-- the octets encode no APDU
abbrev pub IsNoApdu : List ℕ → Type 0
IsNoApdu octets = (apdu : Apdu) → SpellsApdu apdu octets → ⊥
