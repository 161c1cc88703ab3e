-- Transfers in segments, as either end of a transaction has them.
use Rattle.std.specs.Prelude.{ℕ, ◌-◌, ◌%◌, ◌≤◌, Bool, true, false, List, [], ◌∷◌, length}
use Rattle.bac_apdu.specs.Apdu.{Apdu}
use Rattle.bac_apdu.specs.Apdu.Apdu.{SegmentAck}
use Rattle.bac_segment.specs.Pieces.{piece_at}
use Rattle.bac_segment.specs.Window.{Outgoing}
use Rattle.bac_segment.specs.declared.incoming.Step.{Step}
use Rattle.bac_segment.specs.declared.incoming.Step.TheVariants as step
use Rattle.bac_protocol.specs.Context.{Context}

-- a SegmentACK (clause 20.1.6); server says whether the server sends it
abbrev pub ack_of : (server : Bool) → Context → (nak : Bool) (number window : ℕ) → Apdu
ack_of server c nak number window = SegmentAck server c.invoke_id (record { nak = nak; number = number; window = window })

-- what a segment of that number is answered, where so many were taken before it (clauses 5.4.4.4 and 5.4.5.2)
abbrev pub acks_of : (server : Bool) → Context → (number window taken : ℕ) → Step → List Apdu
acks_of server c number window taken (step.Taken false) = []
acks_of server c number window taken (step.Taken true) = ack_of server c false number window ∷ []
acks_of server c number window taken step.Whole = ack_of server c false number window ∷ []
acks_of server c number window taken step.Nak = ack_of server c true ((taken - 1) % 256) window ∷ []

-- no piece is longer: with 1,470 octets a segment of a request fits the longest APDU, with 1,471 one of a reply (clauses 20.1.2.5, 20.1.2 and 20.1.5)
pub record ArePiecesShort (most : ℕ) (out : Outgoing) : Type 0 where
  pub each : (n : ℕ) → length (piece_at out.pieces n) ≤ most
