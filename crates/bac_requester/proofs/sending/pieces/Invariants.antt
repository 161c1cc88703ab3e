-- The pieces so far were sent.
use Rattle.std.proofs.Common.{◌+◌, ◌≤◌, ◌-◌, vec_len, vec_capacity}
use Rattle.bac_protocol.specs.Client.{request_piece}
use Rattle.bac_protocol.specs.Wire.{pieces_from}
use Rattle.bac_transaction.specs.Sends.{Pairwise, IsSent, to_all}
use Rattle.bac_transaction.specs.Views.{context_view, peer_of}
use Rattle.bac_requester.proofs.sending.pieces.Given as goal

abbrev pub invariant-loop-n : goal.invariant-loop-n
invariant-loop-n l =
    record {
      sent : Pairwise IsSent (to_all (peer_of l.context) (pieces_from (request_piece (context_view l.context) l.choice l.outgoing.pieces) l.start
          (l.n - l.start))) l.sends.items;
      begun : l.start ≤ l.n;
      room : vec_len l.sends + (l.end - l.n) ≤ vec_capacity l.sends;
    }
