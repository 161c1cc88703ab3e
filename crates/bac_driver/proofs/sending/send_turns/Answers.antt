use Rattle.bac_driver.specs.Views.{turn_view}
use Rattle.bac_driver.proofs.Turned.{one_more_sent}
use Rattle.bac_driver.proofs.sending.send_turns.Goals as goal

pub loop-turn-preserved : goal.loop-turn-preserved
loop-turn-preserved g c =
    one_more_sent turn_view c.args.turns.now c.loop-turn.turn-index c.turn-item.result c.loop-turn.lost c.send_turn-more.result _ _ _ _ _ _ _ c.loop-turn-test.true
    c.turn-item.is c.loop-turn.invariant
    (record { count = c.send_turn-more.ensures.count; order = c.send_turn-more.ensures.order; most = c.send_turn-more.ensures.most })
    c.saturating_add-lost.ensures
