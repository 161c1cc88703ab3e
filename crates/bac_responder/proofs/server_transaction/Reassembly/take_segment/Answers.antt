-- The whole request is performed.
use Rattle.std.proofs.Common.{refl}
use Rattle.bac_apdu.specs.Views.{limits_view}
use Rattle.bac_segment.specs.Window.{takes}
use Rattle.bac_transaction.specs.Views.{context_view, peer_of}
use Rattle.bac_responder.specs.TransactionViews.{entry_of}
use Rattle.bac_responder.proofs.Takings.{last_commits, last_performed, last_sendable}
use Rattle.bac_responder.proofs.server_transaction.Reassembly.take_segment.Goals as goal

pub commit-effect-requires : goal.commit-effect-requires
commit-effect-requires c =
    last_commits (context_view c.args.context.now) (peer_of c.args.context.now) c.args.store.now c.args.received.segment.number c.args.self.now.incoming.window
    c.in_ok-prepared.prepared c.args.origin.now.terms.choice (limits_view c.args.origin.now.terms.limits)
    (takes c.args.self.now.incoming c.args.received.segment.number c.args.received.segment.more c.args.received.octets.now) c.in_ok-prepared.ensures.0

pub returns-in-Whole : goal.returns-in-Whole
returns-in-Whole c = λ z.
    let taking = takes c.args.self.now.incoming c.args.received.segment.number c.args.received.segment.more c.args.received.octets.now in (
      last_sendable (context_view c.args.context.now) (peer_of c.args.context.now) c.args.store.now c.args.received.segment.number c.args.self.now.incoming.window
          c.in_ok-prepared.prepared c.args.origin.now.terms.choice (limits_view c.args.origin.now.terms.limits) taking c.in_ok-prepared.ensures.0,
      last_performed (context_view c.args.context.now) (peer_of c.args.context.now) c.args.store.now c.args.received.segment.number c.args.self.now.incoming.window
          c.in_ok-prepared.prepared (entry_of c.args.origin.now z) taking c.in_ok-prepared.first c.in_ok-prepared.ensures.0 c.in_ok-prepared.ensures.1 _ _ _ refl c.commit-effect.ensures.effect c.commit-effect.ensures.store,
    )
