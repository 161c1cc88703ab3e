-- Readers as functions on lists, from left to right.
use Rattle.std.specs.Prelude.{ℕ, ◌/◌, ◌%◌, List, [], ◌∷◌, Result, Ok, Err, Option, Some, None, Bool, true, false, nat_lt, ◌==◌, ◌&&◌, ◌||◌, not}
use Rattle.std.specs.Prelude.{if◌then◌else◌}
use Rattle.bac_value.specs.declared.fault.FaultKind as value
use Rattle.bac_value.specs.declared.fault.FaultKind.TheVariants as fault
use Rattle.bac_value.specs.declared.tag.Class.{Class}
use Rattle.bac_value.specs.declared.tag.Class.TheVariants.{Application, Context}
use Rattle.bac_value.specs.declared.tag.Form.{Form}
use Rattle.bac_value.specs.declared.tag.Form.TheVariants.{Length, Boolean, Opening, Closing}
use Rattle.bac_value.specs.Steps.{◌>>=◌, octet_at, has_bit}
use Rattle.bac_value.specs.Spelling.{Mark}
use Rattle.bac_value.specs.Reading.{tag_at, number_at, element_at}
use Rattle.bac_apdu.specs.declared.fault.ApduFault.{ApduFault}
use Rattle.bac_apdu.specs.declared.fault.ApduFault.TheVariants.{Truncated, ReservedBits, ReservedCode, BadWindow, BadType, Trailing, MorWithoutSeg, BadError}
use Rattle.bac_apdu.specs.Apdu.{Limits, Segment, Apdu, ConfirmedRequest, UnconfirmedRequest, SimpleAck, ComplexAck, SegmentAck, Error, Reject, Abort}
use Rattle.bac_apdu.specs.Spelling.{window_fits, SEG, MOR, SA, NAK, SRV}

-- nothing follows the last member
abbrev pub end_at : List ℕ → Apdu → Result Apdu ApduFault
end_at [] apdu = Ok apdu
end_at (x ∷ xs) apdu = Err Trailing

unfoldable pub window_at : List ℕ → Result (ℕ × List ℕ) ApduFault
window_at bytes = do
  window ← octet_at Truncated bytes
  if window_fits window.0 then Ok (window.0, window.1) else Err BadWindow

unfoldable pub segment_at : Bool → Bool → List ℕ → Result (Option Segment × List ℕ) ApduFault
segment_at false more bytes = Ok (None, bytes)
segment_at true more bytes = do
  number ← octet_at Truncated bytes
  window ← window_at number.1
  Ok (Some (record { more = more; number = number.0; window = window.0 }), window.1)

-- the octet with the two codes; whether segments are accepted comes from the first octet
unfoldable pub limits_at : Bool → List ℕ → Result (Limits × List ℕ) ApduFault
limits_at takes bytes = do
  codes ← octet_at Truncated bytes
  if nat_lt codes.0 128
      then (if nat_lt (codes.0 % 16) 6
      then Ok (record { takes_segments = takes; max_segments = codes.0 / 16; max_apdu = codes.0 % 16 }, codes.1)
      else Err ReservedCode)
      else Err ReservedBits

unfoldable pub confirmed_at : ℕ → List ℕ → Result Apdu ApduFault
confirmed_at bits bytes = do
  limits ← limits_at (has_bit bits SA) bytes
  invoke_id ← octet_at Truncated limits.1
  segment ← segment_at (has_bit bits SEG) (has_bit bits MOR) invoke_id.1
  choice ← octet_at Truncated segment.1
  Ok (ConfirmedRequest limits.0 invoke_id.0 segment.0 choice.0 choice.1)

unfoldable pub unconfirmed_at : List ℕ → Result Apdu ApduFault
unconfirmed_at bytes = do
  choice ← octet_at Truncated bytes
  Ok (UnconfirmedRequest choice.0 choice.1)

unfoldable pub simple_ack_at : List ℕ → Result Apdu ApduFault
simple_ack_at bytes = do
  invoke_id ← octet_at Truncated bytes
  choice ← octet_at Truncated invoke_id.1
  end_at choice.1 (SimpleAck invoke_id.0 choice.0)

unfoldable pub complex_ack_at : ℕ → List ℕ → Result Apdu ApduFault
complex_ack_at bits bytes = do
  invoke_id ← octet_at Truncated bytes
  segment ← segment_at (has_bit bits SEG) (has_bit bits MOR) invoke_id.1
  choice ← octet_at Truncated segment.1
  Ok (ComplexAck invoke_id.0 segment.0 choice.0 choice.1)

unfoldable pub segment_ack_at : ℕ → List ℕ → Result Apdu ApduFault
segment_ack_at bits bytes = do
  invoke_id ← octet_at Truncated bytes
  number ← octet_at Truncated invoke_id.1
  window ← window_at number.1
  end_at window.1 (SegmentAck (has_bit bits SRV) invoke_id.0 (record { nak = has_bit bits NAK; number = number.0; window = window.0 }))

-- a fault in class or code is Truncated only if the octets end too early
abbrev pub element_fault : value.FaultKind → ApduFault
element_fault fault.Truncated = Truncated
element_fault fault.ReservedTag = BadError
element_fault fault.LongForm = BadError
element_fault fault.BadLength = BadError
element_fault fault.NotShortest = BadError
element_fault fault.Unbalanced = BadError
element_fault fault.TooDeep = BadError
element_fault fault.ReservedBits = BadError

abbrev pub from_value : {A : Type 0} → Result A value.FaultKind → Result A ApduFault
from_value (Ok x) = Ok x
from_value (Err e) = Err (element_fault e)

-- an element that is not an application Enumerated
unfoldable pub no_enumerated : List ℕ → Result (ℕ × List ℕ) ApduFault
no_enumerated bytes = do
  element ← from_value (element_at bytes)
  Err BadError

unfoldable pub is_enumerated : Class → ℕ → Bool
is_enumerated Application number = number == 9
is_enumerated Context number = false

unfoldable pub after_tag : Mark → Form → List ℕ → List ℕ → Result (ℕ × List ℕ) ApduFault
after_tag tag (Length k) rest bytes = if is_enumerated tag.class tag.number then from_value (number_at 9 k rest) else no_enumerated bytes
after_tag tag (Boolean b) rest bytes = no_enumerated bytes
after_tag tag Opening rest bytes = no_enumerated bytes
after_tag tag Closing rest bytes = no_enumerated bytes

unfoldable pub enumerated_at : List ℕ → Result (ℕ × List ℕ) ApduFault
enumerated_at bytes = do
  tag ← from_value (tag_at bytes)
  after_tag tag.0 tag.0.form tag.1 bytes

unfoldable pub error_at : List ℕ → Result Apdu ApduFault
error_at bytes = do
  invoke_id ← octet_at Truncated bytes
  choice ← octet_at Truncated invoke_id.1
  class ← enumerated_at choice.1
  code ← enumerated_at class.1
  end_at code.1 (Error invoke_id.0 choice.0 class.0 code.0)

unfoldable pub reject_at : List ℕ → Result Apdu ApduFault
reject_at bytes = do
  invoke_id ← octet_at Truncated bytes
  reason ← octet_at Truncated invoke_id.1
  end_at reason.1 (Reject invoke_id.0 reason.0)

unfoldable pub abort_at : ℕ → List ℕ → Result Apdu ApduFault
abort_at bits bytes = do
  invoke_id ← octet_at Truncated bytes
  reason ← octet_at Truncated invoke_id.1
  end_at reason.1 (Abort (has_bit bits SRV) invoke_id.0 reason.0)

-- the bits 3 to 0 of the first octet that this type does not use
abbrev pub reserved_of : ℕ → ℕ → ℕ
reserved_of kind bits =
    if kind == 0 then bits % 2 else
    (if kind == 3 then bits % 4 else
    (if kind == 4 then bits / 4 else
    (if kind == 7 then bits / 2 else bits)))

abbrev pub members_at : ℕ → ℕ → List ℕ → Result Apdu ApduFault
members_at kind bits bytes =
    if kind == 0 then confirmed_at bits bytes else
    (if kind == 1 then unconfirmed_at bytes else
    (if kind == 2 then simple_ack_at bytes else
    (if kind == 3 then complex_ack_at bits bytes else
    (if kind == 4 then segment_ack_at bits bytes else
    (if kind == 5 then error_at bytes else
    (if kind == 6 then reject_at bytes else abort_at bits bytes))))))

-- the flag for more segments is set on an unsegmented APDU
unfoldable pub kind_at : ℕ → ℕ → List ℕ → Result Apdu ApduFault
kind_at kind bits bytes =
    if nat_lt 7 kind then Err BadType else
    (if reserved_of kind bits == 0 then
    (if (kind == 0 || kind == 3) && has_bit bits MOR && not (has_bit bits SEG) then Err MorWithoutSeg else members_at kind bits bytes)
    else Err ReservedBits)

-- the type is in bits 7 to 4 of the first octet
unfoldable pub apdu_at : List ℕ → Result Apdu ApduFault
apdu_at bytes = do
  first ← octet_at Truncated bytes
  kind_at (first.0 / 16) (first.0 % 16) first.1
