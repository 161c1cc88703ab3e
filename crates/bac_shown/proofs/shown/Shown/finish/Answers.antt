use Rattle.std.proofs.lemmas.Result.{on_ok_weaker}
use Rattle.bac_shown.proofs.Steps.{all_shown}
use Rattle.bac_shown.proofs.shown.Shown.finish.Goals as goal

pub returns : goal.returns
returns g c = on_ok_weaker c.finish-ended.result (all_shown _ _ _ _ _ _ _ c.args.self.put) c.finish-ended.ensures
