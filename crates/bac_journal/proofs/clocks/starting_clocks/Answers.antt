-- One clock more.
use Rattle.std.proofs.Common.{◌<◌, ◌++◌, [], ◌∷◌, length, sym, subst, ◌∙◌, arith}
use Rattle.bac_journal.specs.Clocks.{AreSane, starting}
use Rattle.bac_journal.proofs.Passing.{sane_push, starting_more}
use Rattle.bac_journal.proofs.clocks.starting_clocks.Goals as goal

pub loop-start-preserved : goal.loop-start-preserved
loop-start-preserved c =
    let within : c.loop-start.start-index < length c.args.starts.now = omega arith in
    record {
      are = c.in_ok-push.ensures.items ∙ (λ k. c.loop-start.invariant.are k ++ starting (c.from.ensures k) ∷ [])
          ∙ sym (starting_more c.args.starts.now c.loop-start.start-index within);
      sane = λ drift. subst (AreSane 0 drift) (sym c.in_ok-push.ensures.items)
          (sane_push 0 drift c.loop-start.clocks.items _ (c.loop-start.invariant.sane drift)
          (record { since = omega arith; slow = omega arith; fast = omega arith; exact = omega arith }));
    }
