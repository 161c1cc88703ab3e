-- A round: its turns are held, what they changed is kept, and then they are sent.
use Rattle.std.proofs.Common.{◌≡◌, ◌∙◌, true, ap, arith, length, map, refl, rules, sym}
use Rattle.bac_driver.specs.Serving.{performed_in}
use Rattle.bac_driver.specs.Views.{turn_view}
use Rattle.bac_driver.proofs.ChangesOfTurns.{few_performed}
use Rattle.bac_driver.proofs.RoundsStopped.{fails_first, fails_later, fails_to_keep, of_fault}
use Rattle.bac_driver.proofs.RoundsTaken.{receives_more, round_taken, whatever}
use Rattle.bac_driver.proofs.bound_node.BoundNode.round_before.Goals as goal

pub returns-in_err-hold_more-clause-unsent : goal.returns-in_err-hold_more-clause-unsent
returns-in_err-hold_more-clause-unsent g c = whatever _ _ (receives_more _ _ _ c.in_ok-is_taken.ensures.unsent c.in_err-hold_more.ensures.unsent)

pub returns-in_err-keep-clause-unsent : goal.returns-in_err-keep-clause-unsent
returns-in_err-keep-clause-unsent g c = whatever _ _ (receives_more _ _ _ c.in_ok-is_taken.ensures.unsent c.in_ok-hold_more.ensures.unsent)

pub returns-in_err-is_taken-clause-failed : goal.returns-in_err-is_taken-clause-failed
returns-in_err-is_taken-clause-failed g c =
    of_fault _ c.from_residual.result _ c.from_residual.ensures.1 (fails_first _ c.args.wait_limit.now _ _ c.in_err-is_taken.ensures.stopped)

pub returns-in_err-hold_more-clause-failed : goal.returns-in_err-hold_more-clause-failed
returns-in_err-hold_more-clause-failed g c =
    let taken : c.in_ok-is_taken.is_taken ≡ true = search rules in
    of_fault _ c.from_residual-in_err-hold_more.result _ c.from_residual-in_err-hold_more.ensures.1
    (fails_later g.O.Observer.Sees _ c.args.wait_limit.now _ _ _ _ (c.in_ok-is_taken.ensures.taken taken) c.in_err-hold_more.ensures.stopped)

pub returns-in_err-keep-clause-failed : goal.returns-in_err-keep-clause-failed
returns-in_err-keep-clause-failed g c =
    let taken : c.in_ok-is_taken.is_taken ≡ true = search rules in
    of_fault _ c.from_residual-in_err-keep.result _ c.from_residual-in_err-keep.ensures.1
    (fails_to_keep g.O.Observer.Sees c.args.wait_limit.now _ _ _ _ _ (c.in_ok-is_taken.ensures.taken taken) c.in_ok-hold_more.ensures.taken
    c.in_ok-hold_more.ensures.most c.in_err-keep.ensures.changed)

pub returns-clause-over : goal.returns-clause-over
returns-clause-over g c =
    let few = few_performed (map turn_view c.keep.new.self.turns.items) in
    let same = ap length c.in_ok-keep.ensures.turns in
    omega (arith, few, same, c.keep.new.self.counted, c.in_ok-hold_more.ensures.most)

pub returns-clause-taken : goal.returns-clause-taken
returns-clause-taken g c =
    let taken : c.in_ok-is_taken.is_taken ≡ true = search rules in
    round_taken g.O.Observer.Sees c.args.wait_limit.now _ _ (map turn_view c.deref.result.now) _ c.send.result _ _ _ _ _
    (c.in_ok-is_taken.ensures.taken taken) c.in_ok-hold_more.ensures.taken c.in_ok-hold_more.ensures.most
    (ap (map turn_view) c.deref.ensures.value ∙ c.in_ok-keep.ensures.turns) c.send.ensures.carried c.send.ensures.node c.send.ensures.buffer c.send.ensures.rules
    refl
    (c.keep.new.self.counted ∙ sym (ap (λ xs. performed_in (map turn_view xs)) c.deref.ensures.value))
