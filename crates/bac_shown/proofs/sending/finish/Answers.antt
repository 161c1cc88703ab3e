use Rattle.std.proofs.lemmas.Result.{on_ok_weaker}
use Rattle.bac_shown.proofs.Steps.{finished}
use Rattle.bac_shown.proofs.sending.finish.Goals as goal

pub returns : goal.returns
returns g c =
    on_ok_weaker c.send.result
    (finished _ _ _ _ _ _ _ _ _ _ _ c.settle.ensures.kept c.in_ok-settle.ensures.sent c.in_ok-settle.ensures.open c.deref.ensures.value
    c.in_ok-push_octets.ensures c.send.ensures.kept) c.send.ensures.sent
