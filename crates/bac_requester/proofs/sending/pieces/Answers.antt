-- One more piece.
use Rattle.std.proofs.Common.{refl, arith}
use Rattle.bac_protocol.specs.Client.{request_piece}
use Rattle.bac_transaction.specs.Views.{context_view, peer_of}
use Rattle.bac_transaction.proofs.Pieces.{one_more_piece}
use Rattle.bac_requester.proofs.sending.pieces.Goals as goal

pub push_reserved-requires : goal.push_reserved-requires
push_reserved-requires c = omega (arith, c.loop-n.invariant.room, c.loop-n-test.true)

pub loop-n-preserved : goal.loop-n-preserved
loop-n-preserved c = record {
  sent = one_more_piece (peer_of c.args.context.now) (request_piece (context_view c.args.context.now) c.args.choice c.args.outgoing.now.pieces) c.args.start
      c.loop-n.n c.loop-n.sends.items _ _ c.in_ok-datagram.datagram c.loop-n.invariant.begun c.loop-n.invariant.sent c.in_ok-datagram.ensures refl
      c.push_reserved.ensures.items;
  begun = omega (arith, c.loop-n.invariant.begun);
  room = omega (arith, c.loop-n.invariant.room, c.loop-n-test.true, c.push_reserved.ensures.len, c.push_reserved.ensures.capacity);
}
