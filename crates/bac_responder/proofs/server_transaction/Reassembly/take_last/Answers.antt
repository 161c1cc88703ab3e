-- The last segment was taken, and all is prepared.
use Rattle.std.proofs.Common.{ℕ, subst}
use Rattle.bac_apdu.specs.Views.{limits_view}
use Rattle.bac_segment.specs.Pieces.{join}
use Rattle.bac_segment.specs.Window.{takes}
use Rattle.bac_transaction.specs.Views.{context_view, peer_of}
use Rattle.bac_responder.specs.Segments.{IsWhole}
use Rattle.bac_responder.proofs.Takings.{takes_whole}
use Rattle.bac_responder.proofs.server_transaction.Reassembly.take_last.Goals as goal

pub returns : goal.returns
returns c =
    let took = takes_whole (takes c.args.self.now.incoming c.args.received.segment.number c.args.received.segment.more c.args.received.octets.now) c.args.self.now.incoming c.on_segment.new.self
    c.in-Ok.field-0 c.requires c.in-Ok.ensures in
    rw took.taken (
      subst (λ (k : ℕ). IsWhole (context_view c.args.context.now) (peer_of c.args.context.now) c.args.terms.choice (limits_view c.args.terms.limits)
          c.args.store.now c.args.received.segment.number k (join c.on_segment.new.self.parts) c.in-Ok-prepare_last.prepared.0) took.window
          c.in-Ok-prepare_last.ensures.0,
      c.in-Ok-prepare_last.ensures.1,
    )
