-- One more turn, which the observer saw.
use Rattle.std.proofs.Common.{◌≡◌, ◌∙◌, Option, Some, None, MatchOption, ap, inr, refl, rules, subst, sym}
use Rattle.std.specs.Option.{option_map}
use Rattle.bac_requester.specs.TransactionViews.{ending_view}
use Rattle.bac_driver.specs.Views.{turn_view}
use Rattle.bac_driver.specs.Seen.{seen, turn_of}
use Rattle.bac_driver.specs.Serving.{TakesEarlyTurn}
use Rattle.bac_driver.specs.Asking.{ending_in, own_turn}
use Rattle.bac_driver.specs.Observed.{IsOverUnseen, TakesObservedTurn}
use Rattle.bac_driver.proofs.Loops.{ends_now, none_told, one_more_waited, seen_once, stops_waiting}
use Rattle.bac_driver.proofs.bound_node.BoundNode.wait.Goals as goal

-- what a turn was, where it was taken
taken_of : {A : Type 0} (r : Option A) (is_over : Type 0) (is_taken : A → Type 0) (x : A) → r ≡ Some x → MatchOption r is_over is_taken → is_taken x
taken_of r is_over is_taken x is taken = subst (λ o. MatchOption o is_over is_taken) is taken

pub loop-preserved : goal.loop-preserved
loop-preserved g c =
    let taken = taken_of _ _ _ c.in-Some.turn c.in-Some.is c.in_ok-turn.ensures.taken in
    let none : ending_in c.args.ticket (turn_view c.in-Some.turn) ≡ None =
    none_told ending_view c.ending_in.result _ c.in_default-ending_in.not-Some c.ending_in.ensures in
    record {
      waited = one_more_waited (TakesEarlyTurn c.args.limit.now.wait_limit) own_turn c.loop.counter c.args.ticket (turn_view c.in-Some.turn) _ _ _
          c.loop.invariant.waited taken none;
      seen =
          one_more_waited (TakesObservedTurn g.O.Observer.Sees c.args.limit.now.wait_limit) turn_of c.loop.counter c.args.ticket
          (seen c.node.result.now c.buffer.result.now (turn_view c.in-Some.turn)) _ _ _ c.loop.invariant.seen
          (seen_once g.O.Observer.Sees c.args.limit.now.wait_limit _ _ (turn_view c.in-Some.turn) c.node.result.now c.buffer.result.now _ _ c.node.ensures
          c.buffer.ensures.octets taken c.on_turn.ensures) none;
    }

-- the time was over, where none was taken
over_of : {A : Type 0} (r : Option A) (is_over : Type 0) (is_taken : A → Type 0) → r ≡ None → MatchOption r is_over is_taken → is_over
over_of r is_over is_taken is over = subst (λ o. MatchOption o is_over is_taken) is over

pub returns-in_default-clause-observed : goal.returns-in_default-clause-observed
returns-in_default-clause-observed g c =
    inr (stops_waiting (TakesObservedTurn g.O.Observer.Sees c.args.limit.now.wait_limit) turn_of c.loop.counter c.args.limit.now.turns c.args.ticket
    (IsOverUnseen c.args.limit.now.wait_limit) _ _ _ (search rules) c.loop.invariant.seen
    (record { over = over_of _ _ _ c.in_default.is c.in_ok-turn.ensures.taken; unseen = refl }))

pub returns-in-Some-ending_in-clause-observed : goal.returns-in-Some-ending_in-clause-observed
returns-in-Some-ending_in-clause-observed g c =
    let taken = taken_of _ _ _ c.in-Some.turn c.in-Some.is c.in_ok-turn.ensures.taken in
    ends_now (TakesObservedTurn g.O.Observer.Sees c.args.limit.now.wait_limit) turn_of c.loop.counter c.args.limit.now.turns c.args.ticket
    (ending_view c.in-Some-ending_in.ending) (seen c.node.result.now c.buffer.result.now (turn_view c.in-Some.turn)) _ _ _ (search rules) c.loop.invariant.seen
    (seen_once g.O.Observer.Sees c.args.limit.now.wait_limit _ _ (turn_view c.in-Some.turn) c.node.result.now c.buffer.result.now _ _ c.node.ensures
    c.buffer.ensures.octets taken c.on_turn.ensures)
    (sym c.ending_in.ensures ∙ ap (option_map ending_view) c.in-Some-ending_in.is)
