-- What it keeps is told, and nothing changes.
use Rattle.bac_serving.proofs.Opened.{clean_before, store_still}
use Rattle.bac_serving.proofs.keeping.keeper_over.Goals as goal

pub returns-in-Ok-tell_idle-clause-store : goal.returns-in-Ok-tell_idle-clause-store
returns-in-Ok-tell_idle-clause-store g c =
    store_still g.S.Store.view c.args.database c.args.document c.in-Ok.opened.1 c.in-Ok.opened.0.database c.tell_idle.new.keeper.database
    c.tell_idle.ensures.honest c.in-Ok-tell_idle.ensures.open c.in-Ok-tell_idle.ensures.noted c.in-Ok-tell_idle.ensures.kept
    (record {
      honest = λ clean. clean_before _ _ c.in-Ok.ensures.quiet.clean clean;
      ready = λ clean. (c.in-Ok.ensures.found clean).ready;
      found = λ clean. (c.in-Ok.ensures.found clean).found;
      kept = λ clean. (c.in-Ok.ensures.found clean).kept;
      noted = λ clean. (c.in-Ok.ensures.found clean).noted;
    })
