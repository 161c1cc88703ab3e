use Rattle.std.proofs.Common.{◌∙◌, IfSome, ap, subst, sym}
use Rattle.bac_store.specs.Stores.{Store}
use Rattle.bac_world.specs.Node.{Node}
use Rattle.bac_world.specs.Services.{store_after}
use Rattle.bac_driver.specs.Rounds.{IsReplied}
use Rattle.bac_driver.specs.Turns.{performed_of}
use Rattle.bac_driver.specs.Views.{turn_view}
use Rattle.bac_driver.proofs.HeldTurns.{replied_held, store_held}
use Rattle.bac_driver.proofs.RoundsStopped.{of_fault, turn_stops}
use Rattle.bac_driver.proofs.bound_node.BoundNode.hold_from.Goals as goal

pub note_turn-requires-clause-made : goal.note_turn-requires-clause-made
note_turn-requires-clause-made g c = λ honest.
    c.store.ensures
    ∙ ap (λ (n : Node). n.store) c.node.ensures
    ∙ store_held _ _ (turn_view c.in_ok-turn.turn) _ _ c.in_ok-turn.ensures.holds
    ∙ ap (λ (s : Store). store_after s (performed_of (turn_view c.in_ok-turn.turn).heard)) (sym (c.requires honest).noted_is)

pub note_turn-requires-clause-reply : goal.note_turn-requires-clause-reply
note_turn-requires-clause-reply g c = λ honest.
    subst (λ (s : Store). IfSome (performed_of (turn_view c.in_ok-turn.turn).heard) (IsReplied s)) (sym (c.requires honest).noted_is)
    (replied_held _ _ (turn_view c.in_ok-turn.turn) _ _ c.in_ok-turn.ensures.holds)

pub returns-in_err-turn-clause-stopped : goal.returns-in_err-turn-clause-stopped
returns-in_err-turn-clause-stopped g c =
    of_fault _ c.from_residual.result _ c.from_residual.ensures.1
    (turn_stops _ c.args.began c.args.wait_limit.now _ _ c.in_err-turn.ensures.failed)

pub returns-in_err-note_turn-clause-stopped : goal.returns-in_err-note_turn-clause-stopped
returns-in_err-note_turn-clause-stopped g c =
    of_fault _ c.from_residual-in_err-note_turn.result _ c.from_residual-in_err-note_turn.ensures.1
    (record { turn = turn_view c.in_ok-turn.turn; held = c.in_ok-turn.ensures.holds; changed = c.in_err-note_turn.ensures.changed })
