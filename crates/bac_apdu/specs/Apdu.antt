-- APDUs (clause 20.1) as plain values: numbers, and lists of octets.
use Rattle.std.specs.Prelude.{ℕ, Bool, List, Option}

-- the parameters of a segment: whether more follow, its sequence number modulo 256, and the proposed window size
pub record Segment : Type 0 where
  pub more : Bool
  pub number : ℕ
  pub window : ℕ

-- what the sender of a request accepts as response: whether segmented (clause 20.1.2.3), the code of the number of segments
-- (clause 20.1.2.4), and the code of the maximum APDU length (clause 20.1.2.5)
pub record Limits : Type 0 where
  pub takes_segments : Bool
  pub max_segments : ℕ
  pub max_apdu : ℕ

-- the members of a SegmentACK: whether a segment was out of order, the number of the last one taken in order modulo 256, and the actual window
pub record Acknowledgement : Type 0 where
  pub nak : Bool
  pub number : ℕ
  pub window : ℕ

-- service data are the rest of the APDU; server is whether the sender is the server
pub data Apdu : Type 0 where
  ConfirmedRequest : (limits : Limits) (invoke_id : ℕ) (segment : Option Segment) (choice : ℕ) (service : List ℕ) → Apdu
  UnconfirmedRequest : (choice : ℕ) (service : List ℕ) → Apdu
  SimpleAck : (invoke_id choice : ℕ) → Apdu
  ComplexAck : (invoke_id : ℕ) (segment : Option Segment) (choice : ℕ) (service : List ℕ) → Apdu
  SegmentAck : (server : Bool) (invoke_id : ℕ) (acknowledgement : Acknowledgement) → Apdu
  Error : (invoke_id choice class code : ℕ) → Apdu
  Reject : (invoke_id reason : ℕ) → Apdu
  Abort : (server : Bool) (invoke_id reason : ℕ) → Apdu
