use Rattle.std.proofs.Common.{◌≤◌, ◌-◌}
use Rattle.bac_protocol.specs.Wire.{pieces_from}
use Rattle.bac_protocol.specs.Server.{reply_piece}
use Rattle.bac_transaction.specs.Sends.{Pairwise, IsSent, to_all}
use Rattle.bac_transaction.specs.Views.{context_view, peer_of}
use Rattle.bac_responder.proofs.segmented_response.window_sends.Given as goal

abbrev pub invariant-loop-n : goal.invariant-loop-n
invariant-loop-n l =
    record {
      sent : Pairwise IsSent (to_all (peer_of l.context)
          (pieces_from (reply_piece (context_view l.context) l.choice l.outgoing.pieces) l.outgoing.first (l.n - l.outgoing.first))) l.sends.items;
      begun : l.outgoing.first ≤ l.n;
    }
