use Rattle.bac_driver.proofs.Turned.{sent_both}
use Rattle.bac_driver.proofs.sending.send_turn.Goals as goal

pub returns : goal.returns
returns g c =
    let sent = sent_both _ _ _ _ c.send_all-first_lost.result c.send_all-second_lost.result _ _ _ _ _ _ _ c.sends_of.ensures c.sends_of-2.ensures
    (record { count = c.send_all-first_lost.ensures.count; order = c.send_all-first_lost.ensures.order; most = c.send_all-first_lost.ensures.most })
    (record { count = c.send_all-second_lost.ensures.count; order = c.send_all-second_lost.ensures.order; most = c.send_all-second_lost.ensures.most })
    c.saturating_add.ensures in
    record { count = sent.count; order = sent.order; most = sent.most }
