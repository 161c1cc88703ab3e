-- One life more.
use Rattle.std.proofs.Common.{◌<◌, ◌++◌, [], ◌∷◌, false, length, sym, ap, ◌∙◌, arith}
use Rattle.bac_journal.proofs.Fresh.{fresh_more}
use Rattle.bac_journal.proofs.lives.fresh_lives.Goals as goal

pub loop-link-preserved : goal.loop-link-preserved
loop-link-preserved c =
    let within : c.loop-link._link-index < length c.args.links.now = omega arith in
    c.in_ok-push.ensures.items ∙ ap (λ l. l ++ record { active = false; sends_until = 0 } ∷ []) c.loop-link.invariant
    ∙ sym (fresh_more c.args.links.now c.loop-link._link-index within)
