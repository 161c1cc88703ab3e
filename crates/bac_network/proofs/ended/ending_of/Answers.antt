-- One fact more was looked at.
use Rattle.std.proofs.Common.{◌≡◌, take, Some, None, refl, sym, ap, subst, ◌∙◌, arith}
use Rattle.std.specs.Prelude.{MatchOption}
use Rattle.std.proofs.lemmas.List.{take_all}
use Rattle.std.proofs.lemmas.Option.{slice_get-get_or}
use Rattle.bac_requester.specs.TransactionViews.{ending_view}
use Rattle.bac_network.specs.Views.{log_view}
use Rattle.bac_liveness.specs.StraightRuns.{ending_in}
use Rattle.bac_network.proofs.Logs.{none_before, one_more}
use Rattle.bac_network.proofs.ended.ending_of.Goals as goal

pub loop-at-init : goal.loop-at-init
loop-at-init c = record { from = omega arith; ends = refl; found = none_before c.args.since c.args.ask c.args.log.now c.requires }

pub loop-at-preserved : goal.loop-at-preserved
loop-at-preserved c =
    let log = c.args.log.now in
    let at = c.loop-at.at in
    let there = slice_get-get_or log at _ (omega (arith, c.loop-at-test.true)) ∙ ap Some (sym c.index-log-at.is) in
    record {
      from = omega (arith, c.loop-at.invariant.from);
      ends = c.loop-at.invariant.ends;
      found = subst (λ l. MatchOption c.ending_by-found.result (ending_in c.args.ask l ≡ None) (λ how. ending_in c.args.ask l ≡ Some (ending_view how.now)))
          (sym (one_more log at c.index-log-at.result there)) (c.ending_by-found.ensures (log_view (take at log)) c.loop-at.invariant.found);
    }

pub returns : goal.returns
returns c =
    let log = c.args.log.now in
    subst (λ l. MatchOption c.loop-at.found (ending_in c.args.ask (log_view l) ≡ None) (λ how. ending_in c.args.ask (log_view l) ≡ Some (ending_view how.now)))
    (take_all c.loop-at.at log (omega (arith, c.loop-at-test.false, c.loop-at.invariant.ends))) c.loop-at.invariant.found
