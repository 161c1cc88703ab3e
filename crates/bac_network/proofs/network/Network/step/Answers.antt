-- Events that tell nothing.
use Rattle.std.proofs.Common.{◌*◌, sym, subst}
use Rattle.bac_protocol.specs.Service.{Octets}
use Rattle.bac_apdu.specs.Views.{limits_view}
use Rattle.bac_npdu.specs.Views.{peer_view}
use Rattle.bac_service.specs.Views.{owned_request_view}
use Rattle.bac_store.specs.Views.{change_view}
use Rattle.bac_world.specs.World.Event.{Ask, AskAway, Noise, Stray, Tick, Advance, Change, Restart, Begin, BeginAgain}
use Rattle.bac_journal.specs.Clocks.{parts_of, restart_at, steps_of}
use Rattle.bac_network.specs.Clocks.{instant}
use Rattle.bac_network.specs.Networks.{world_of}
use Rattle.bac_network.specs.Rules.{reuses_by}
use Rattle.bac_network.specs.Steps.{HappensSo, HappensTellingSo}
use Rattle.bac_network.specs.Views.{event_view}
use Rattle.bac_network.specs.declared.event.Event.{Event}
use Rattle.bac_network.proofs.Happening.{told_nothing, told_nothing_so, told_so}
use Rattle.bac_network.proofs.network.Network.step.Goals as goal

pub returns-in-Noise-clause-happens : goal.returns-in-Noise-clause-happens
returns-in-Noise-clause-happens c =
    let happens : HappensSo c.args.overtake (reuses_by c.args.reuses.now) (world_of c.args.self.now) (Noise c.in-Noise.node c.in-Noise.from c.in-Noise.octets.items) c.hear_noise.result
    (world_of c.hear_noise.new.self) =
    subst
    (λ (o : Octets). HappensSo c.args.overtake (reuses_by c.args.reuses.now) (world_of c.args.self.now) (Noise c.in-Noise.node c.in-Noise.from o) c.hear_noise.result
    (world_of c.hear_noise.new.self)) c.deref.ensures.value (c.hear_noise.ensures.happens c.args.overtake) in
    subst (λ (e : Event). HappensTellingSo c.args.overtake (reuses_by c.args.reuses.now) (world_of c.args.self.now) (event_view (instant c.args.self.now.journal) e) c.untold-in-Noise.result
    (world_of c.hear_noise.new.self))
    (sym c.in-Noise.is)
    (told_nothing_so c.args.overtake (reuses_by c.args.reuses.now) (world_of c.args.self.now) (world_of c.hear_noise.new.self)
    (Noise c.in-Noise.node c.in-Noise.from c.in-Noise.octets.items) tt c.hear_noise.result c.untold-in-Noise.result happens c.untold-in-Noise.ensures)

pub returns-in-Tick-clause-happens : goal.returns-in-Tick-clause-happens
returns-in-Tick-clause-happens c =
    subst (λ (e : Event). HappensTellingSo c.args.overtake (reuses_by c.args.reuses.now) (world_of c.args.self.now) (event_view (instant c.args.self.now.journal) e) c.untold-in-Tick.result
    (world_of c.tick.new.self))
    (sym c.in-Tick.is)
    (told_so c.args.overtake (reuses_by c.args.reuses.now) (world_of c.args.self.now) (world_of c.tick.new.self) (Tick c.in-Tick.node)
    c.untold-in-Tick.result
    (told_nothing c.args.overtake (world_of c.args.self.now) (world_of c.tick.new.self) (Tick c.in-Tick.node) tt c.tick.result c.untold-in-Tick.result
    (c.tick.ensures.happens c.args.overtake) c.untold-in-Tick.ensures) tt)

pub returns-in-Advance-clause-happens : goal.returns-in-Advance-clause-happens
returns-in-Advance-clause-happens c =
    subst (λ (e : Event). HappensTellingSo c.args.overtake (reuses_by c.args.reuses.now) (world_of c.args.self.now) (event_view (instant c.args.self.now.journal) e) c.untold-in-Advance.result
    (world_of c.advance.new.self))
    (sym c.in-Advance.is)
    (told_so c.args.overtake (reuses_by c.args.reuses.now) (world_of c.args.self.now) (world_of c.advance.new.self) (Advance (parts_of c.args.self.now.journal.own * c.in-Advance.by) (steps_of c.args.self.now.journal.own c.in-Advance.by))
    c.untold-in-Advance.result
    (told_nothing c.args.overtake (world_of c.args.self.now) (world_of c.advance.new.self) (Advance (parts_of c.args.self.now.journal.own * c.in-Advance.by) (steps_of c.args.self.now.journal.own c.in-Advance.by)) tt c.advance.result
    c.untold-in-Advance.result (c.advance.ensures.happens c.args.overtake) c.untold-in-Advance.ensures) tt)

pub returns-in-Change-clause-happens : goal.returns-in-Change-clause-happens
returns-in-Change-clause-happens c =
    subst (λ (e : Event). HappensTellingSo c.args.overtake (reuses_by c.args.reuses.now) (world_of c.args.self.now) (event_view (instant c.args.self.now.journal) e) c.untold-in-Change.result
    (world_of c.change.new.self))
    (sym c.in-Change.is)
    (told_so c.args.overtake (reuses_by c.args.reuses.now) (world_of c.args.self.now) (world_of c.change.new.self) (Change c.in-Change.node (change_view c.in-Change.change))
    c.untold-in-Change.result
    (told_nothing c.args.overtake (world_of c.args.self.now) (world_of c.change.new.self) (Change c.in-Change.node (change_view c.in-Change.change)) tt
    c.change.result c.untold-in-Change.result (c.change.ensures.happens c.args.overtake) c.untold-in-Change.ensures) tt)

pub returns-in-Restart-clause-happens : goal.returns-in-Restart-clause-happens
returns-in-Restart-clause-happens c =
    subst (λ (e : Event). HappensTellingSo c.args.overtake (reuses_by c.args.reuses.now) (world_of c.args.self.now) (event_view (instant c.args.self.now.journal) e) c.untold-in-Restart.result
    (world_of c.restart.new.self))
    (sym c.in-Restart.is)
    (told_so c.args.overtake (reuses_by c.args.reuses.now) (world_of c.args.self.now) (world_of c.restart.new.self) (Restart c.in-Restart.node (restart_at c.args.self.now.journal.moment c.args.self.now.journal.own) c.in-Restart.store)
    c.untold-in-Restart.result
    (told_nothing c.args.overtake (world_of c.args.self.now) (world_of c.restart.new.self) (Restart c.in-Restart.node (restart_at c.args.self.now.journal.moment c.args.self.now.journal.own)
    c.in-Restart.store) tt
    c.restart.result c.untold-in-Restart.result (c.restart.ensures.happens c.args.overtake) c.untold-in-Restart.ensures) tt)

pub returns-in-Begin-clause-happens : goal.returns-in-Begin-clause-happens
returns-in-Begin-clause-happens c =
    subst (λ (e : Event). HappensTellingSo c.args.overtake (reuses_by c.args.reuses.now) (world_of c.args.self.now) (event_view (instant c.args.self.now.journal) e) c.untold-in-Begin.result
    (world_of c.begin.new.self))
    (sym c.in-Begin.is)
    (told_so c.args.overtake (reuses_by c.args.reuses.now) (world_of c.args.self.now) (world_of c.begin.new.self) (Begin c.in-Begin.node (restart_at c.args.self.now.journal.moment c.args.self.now.journal.own))
    c.untold-in-Begin.result
    (told_nothing c.args.overtake (world_of c.args.self.now) (world_of c.begin.new.self) (Begin c.in-Begin.node (restart_at c.args.self.now.journal.moment c.args.self.now.journal.own)) tt
    c.begin.result c.untold-in-Begin.result (c.begin.ensures.happens c.args.overtake) c.untold-in-Begin.ensures) tt)

pub returns-in-BeginAgain-clause-happens : goal.returns-in-BeginAgain-clause-happens
returns-in-BeginAgain-clause-happens c =
    subst (λ (e : Event). HappensTellingSo c.args.overtake (reuses_by c.args.reuses.now) (world_of c.args.self.now) (event_view (instant c.args.self.now.journal) e) c.untold-in-BeginAgain.result
    (world_of c.begin_again.new.self))
    (sym c.in-BeginAgain.is)
    (told_so c.args.overtake (reuses_by c.args.reuses.now) (world_of c.args.self.now) (world_of c.begin_again.new.self) (BeginAgain c.in-BeginAgain.node (restart_at c.args.self.now.journal.moment c.args.self.now.journal.own) c.in-BeginAgain.first_id
    c.in-BeginAgain.store)
    c.untold-in-BeginAgain.result
    (told_nothing c.args.overtake (world_of c.args.self.now) (world_of c.begin_again.new.self) (BeginAgain c.in-BeginAgain.node (restart_at c.args.self.now.journal.moment c.args.self.now.journal.own)
    c.in-BeginAgain.first_id c.in-BeginAgain.store) tt
    c.begin_again.result c.untold-in-BeginAgain.result (c.begin_again.ensures.happens c.args.overtake) c.untold-in-BeginAgain.ensures) tt)

pub returns-in-Ask-clause-happens : goal.returns-in-Ask-clause-happens
returns-in-Ask-clause-happens c =
    subst (λ (e : Event). HappensTellingSo c.args.overtake (reuses_by c.args.reuses.now) (world_of c.args.self.now) (event_view (instant c.args.self.now.journal) e) c.ask.result
    (world_of c.ask.new.self)) (sym c.in-Ask.is) (told_so c.args.overtake (reuses_by c.args.reuses.now) (world_of c.args.self.now) (world_of c.ask.new.self) (Ask c.in-Ask.client c.in-Ask.server (limits_view c.in-Ask.limits) (owned_request_view c.in-Ask.request))
    c.ask.result (c.ask.ensures.happens c.args.overtake) tt)

pub returns-in-Stranger-clause-happens : goal.returns-in-Stranger-clause-happens
returns-in-Stranger-clause-happens c =
    let happens : HappensSo c.args.overtake (reuses_by c.args.reuses.now) (world_of c.args.self.now) (Stray c.in-Stranger.node c.in-Stranger.from c.in-Stranger.octets.items)
    c.hear_stranger.result (world_of c.hear_stranger.new.self) =
    subst
    (λ (o : Octets). HappensSo c.args.overtake (reuses_by c.args.reuses.now) (world_of c.args.self.now) (Stray c.in-Stranger.node c.in-Stranger.from o) c.hear_stranger.result
    (world_of c.hear_stranger.new.self)) c.deref-in-Stranger.ensures.value (c.hear_stranger.ensures.happens c.args.overtake) in
    subst (λ (e : Event). HappensTellingSo c.args.overtake (reuses_by c.args.reuses.now) (world_of c.args.self.now) (event_view (instant c.args.self.now.journal) e)
    c.untold-in-Stranger.result (world_of c.hear_stranger.new.self))
    (sym c.in-Stranger.is)
    (told_nothing_so c.args.overtake (reuses_by c.args.reuses.now) (world_of c.args.self.now) (world_of c.hear_stranger.new.self)
    (Stray c.in-Stranger.node c.in-Stranger.from c.in-Stranger.octets.items) tt c.hear_stranger.result c.untold-in-Stranger.result happens
    c.untold-in-Stranger.ensures)

pub returns-in-AskStranger-clause-happens : goal.returns-in-AskStranger-clause-happens
returns-in-AskStranger-clause-happens c =
    subst (λ (e : Event). HappensTellingSo c.args.overtake (reuses_by c.args.reuses.now) (world_of c.args.self.now) (event_view (instant c.args.self.now.journal) e) c.ask_stranger.result
    (world_of c.ask_stranger.new.self)) (sym c.in-AskStranger.is) (told_so c.args.overtake (reuses_by c.args.reuses.now) (world_of c.args.self.now) (world_of c.ask_stranger.new.self) (AskAway c.in-AskStranger.node (peer_view c.in-AskStranger.peer) (limits_view c.in-AskStranger.limits)
    (owned_request_view c.in-AskStranger.request))
    c.ask_stranger.result (c.ask_stranger.ensures.happens c.args.overtake) tt)
