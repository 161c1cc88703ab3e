-- What a ticket sends is short enough for a frame.
use Rattle.std.proofs.Common.{ℕ, ◌≤◌, List, length, None}
use Rattle.bac_segment.specs.Pieces.{piece_at}
use Rattle.bac_segment.specs.Window.{Outgoing}
use Rattle.bac_apdu.specs.Apdu.{Limits}
use Rattle.bac_apdu.specs.Apdu.Apdu.{ConfirmedRequest}
use Rattle.bac_protocol.specs.Context.{Context}
use Rattle.bac_protocol.specs.Client.{request_piece}
use Rattle.bac_protocol.specs.Short as apdus
use Rattle.bac_transaction.specs.Segments.{ArePiecesShort}
use Rattle.bac_transaction.proofs.Short.{short_request, short_request_segment}

pub whole_is_short : (limits : Limits) (invoke_id choice : ℕ) (octets : List ℕ) → length octets ≤ 1472
    → apdus.IsShort (ConfirmedRequest limits invoke_id None choice octets)
whole_is_short = short_request

pub piece_is_short : (c : Context) (choice n : ℕ) (sender : Outgoing) → ArePiecesShort 1470 sender → apdus.IsShort (request_piece c choice sender.pieces n)
piece_is_short c choice n sender short = short_request_segment c.settings.limits c.invoke_id _ choice (piece_at sender.pieces n) (short.each n)
