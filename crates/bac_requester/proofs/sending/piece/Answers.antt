-- A piece is short enough for a frame.
use Rattle.std.proofs.Common.{sym, subst}
use Rattle.bac_protocol.specs.Short as apdus
use Rattle.bac_transaction.specs.Views.{context_view}
use Rattle.bac_requester.proofs.Short.{piece_is_short}
use Rattle.bac_requester.proofs.sending.piece.Goals as goal

pub datagram_of-requires : goal.datagram_of-requires
datagram_of-requires c =
    subst apdus.IsShort (sym c.piece_apdu-apdu.ensures) (piece_is_short
    (context_view c.args.context.now) c.args.choice c.args.n c.args.outgoing.now c.requires.short)
