-- What the fields of a ticket keep, beside what contracts see of them: each APDU that it can send fits a frame.
use Rattle.std.specs.Prelude.{◌≡◌, ℕ, ◌≤◌, Bool, true, length}
use Rattle.bac_segment.specs.Pieces.{join}
use Rattle.bac_segment.specs.Window.{Outgoing, outgoing}
use Rattle.bac_transaction.specs.Segments.{ArePiecesShort}
use Rattle.bac_requester.specs.declared.outgoing_request.RequestWay.{RequestWay}
use Rattle.bac_requester.specs.declared.outgoing_request.RequestWay.TheVariants as way

-- a piece is no longer than 1,470 octets; four octets stand in front of the service data of a request that goes in one APDU
pub record IsShort (whole : Bool) (sender : Outgoing) : Type 0 where
  pub pieces : ArePiecesShort 1470 sender
  pub all : whole ≡ true → length (join sender.pieces) ≤ 1472

-- nothing of the request was sent yet
pub record IsNew (whole : Bool) (sender : Outgoing) : Type 0 where
  pub start : sender ≡ outgoing sender.pieces
  pub short : IsShort whole sender

-- service data of so many octets can go that way, whatever the sizes of both ends
abbrev pub IsWayFor : RequestWay → (len : ℕ) → Type 0
IsWayFor way.InOne len = len ≤ 1472
IsWayFor (way.InSegments size) len = (1 ≤ size) × (size ≤ 1470)
