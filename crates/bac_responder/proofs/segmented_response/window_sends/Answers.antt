-- One more segment of the window.
use Rattle.std.proofs.Common.{arith}
use Rattle.bac_apdu.specs.Views.{apdu_view}
use Rattle.bac_protocol.specs.Server.{reply_piece}
use Rattle.bac_transaction.specs.Views.{context_view, peer_of}
use Rattle.bac_transaction.proofs.Pieces.{one_more_piece}
use Rattle.bac_responder.proofs.segmented_response.window_sends.Goals as goal

pub loop-n-preserved : goal.loop-n-preserved
loop-n-preserved c =
    record {
      sent = one_more_piece (peer_of c.args.context.now) (reply_piece (context_view c.args.context.now) c.args.choice c.args.outgoing.now.pieces)
          c.args.outgoing.now.first c.loop-n.n c.loop-n.sends.items _ (apdu_view c.piece_apdu-apdu.result) c.in_ok-datagram.datagram c.loop-n.invariant.begun
          c.loop-n.invariant.sent c.in_ok-datagram.ensures c.piece_apdu-apdu.ensures c.in_ok-push.ensures.items;
      begun = omega (arith, c.loop-n.invariant.begun);
    }
