-- One more turn.
use Rattle.std.proofs.Common.{◌≡◌, ◌∙◌, true, ap, refl, rules, subst, sym}
use Rattle.bac_world.specs.Node.{Node}
use Rattle.bac_driver.specs.Kept.{keeper_of}
use Rattle.bac_driver.specs.Rounds.{FindsNoMore, HasNoted}
use Rattle.bac_driver.specs.Views.{turn_view}
use Rattle.bac_driver.proofs.ChangesOfTurns.{unchanged_after, unchanged_before}
use Rattle.bac_driver.proofs.RoundsStopped.{more_stops, of_fault}
use Rattle.bac_driver.proofs.RoundsTaken.{finds_no_more, finds_same, held_next, no_calls, none_more, one_longer, one_more_held, receives_more}
use Rattle.bac_driver.proofs.bound_node.BoundNode.hold_more.Goals as goal

pub loop-init : goal.loop-init
loop-init g c =
    record {
      taken = none_more _ _ _;
      most = c.requires.few;
      same = λ none. refl;
      unsent = no_calls _;
      noted = c.requires.noted;
      kept = λ honest. refl;
      crash = finds_same _ _ _;
      base = refl;
    }

pub loop-preserved : goal.loop-preserved
loop-preserved g c =
    record {
      taken =
          one_more_held g.O.Observer.Sees _ _ _ (turn_view c.in_ok-turn.turn) _ _ _ c.loop.invariant.taken
          (held_next g.O.Observer.Sees _ _ _ (turn_view c.in_ok-turn.turn) c.node-in-loop.result.now c.buffer.result.now _ _
          (c.latest-began.ensures ∙ ap (λ (n : Node). n.latest) c.node.ensures) c.in_ok-turn.ensures.holds c.node-in-loop.ensures c.buffer.ensures.octets
          c.on_turn.ensures) c.add.ensures.turns;
      most =
          let goes : c.may_go_on.result ≡ true = search rules in
          one_longer _ _ _ c.add.ensures.turns (c.may_go_on.ensures goes);
      same = λ none.
          c.add.ensures.keeper
          ∙ c.in_ok-turn.ensures.same (unchanged_after _ _ _ c.add.ensures.turns none)
          ∙ c.loop.invariant.same (unchanged_before _ _ _ c.add.ensures.turns none);
      unsent = receives_more _ _ _ c.loop.invariant.unsent c.in_ok-turn.ensures.unsent;
      noted =
          subst (λ k. g.K.Keeper.IsHonest k → HasNoted g.K.Keeper.IsOpen g.K.Keeper.noted k c.hold_from.new.self.node.store) (sym c.add.ensures.keeper)
          c.in_ok-turn.ensures.noted;
      kept = λ honest.
          let before = subst g.K.Keeper.IsHonest c.add.ensures.keeper honest in
          ap g.K.Keeper.kept c.add.ensures.keeper
          ∙ c.in_ok-turn.ensures.kept before
          ∙ c.loop.invariant.kept (c.in_ok-turn.ensures.crash.honest before);
      crash =
          subst (λ k. FindsNoMore g.K.Keeper.IsHonest g.K.Keeper.may_find (keeper_of c.args.round.now) k) (sym c.add.ensures.keeper)
          (finds_no_more _ _ _ _ _ c.loop.invariant.crash c.in_ok-turn.ensures.crash);
      base = ap g.K.Keeper.base c.add.ensures.keeper ∙ c.in_ok-turn.ensures.base ∙ c.loop.invariant.base;
    }

pub returns-in_err-turn-clause-unsent : goal.returns-in_err-turn-clause-unsent
returns-in_err-turn-clause-unsent g c = receives_more _ _ _ c.loop.invariant.unsent c.in_err-turn.ensures.unsent

pub returns-in_err-turn-clause-crash : goal.returns-in_err-turn-clause-crash
returns-in_err-turn-clause-crash g c = finds_no_more _ _ _ _ _ c.loop.invariant.crash c.in_err-turn.ensures.crash

pub returns-in_err-turn-clause-stopped : goal.returns-in_err-turn-clause-stopped
returns-in_err-turn-clause-stopped g c =
    let goes : c.may_go_on.result ≡ true = search rules in
    of_fault _ c.from_residual.result _ c.from_residual.ensures.1
    (more_stops g.O.Observer.Sees _ _ _ _ _ _ _ c.loop.invariant.taken (c.may_go_on.ensures goes)
    (c.latest-began.ensures ∙ ap (λ (n : Node). n.latest) c.node.ensures) c.in_err-turn.ensures.stopped)
