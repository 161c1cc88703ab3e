-- The link is told what the guard says, and its budget is that of the rate.
use Rattle.std.proofs.Common.{ap, ◌∙◌}
use Rattle.bac_guard.specs.Guards.{Guard}
use Rattle.bac_guard.proofs.guard.Guard.over.Goals as goal

pub returns-in-Ok-clause-told : goal.returns-in-Ok-clause-told
returns-in-Ok-clause-told g c =
    let is = c.new.ensures.guarded in
    record {
      key = c.args.key;
      blocks = ap (λ (v : Guard). v.blocks) is;
      table = ap (λ (v : Guard). v.meter.table) is ∙ c.in-Ok.ensures;
      spares = ap (λ (v : Guard). v.meter.spares) is;
    }
