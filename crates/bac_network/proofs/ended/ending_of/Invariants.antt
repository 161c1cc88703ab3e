-- What the facts so far say of the ask.
use Rattle.std.proofs.Common.{◌≡◌, ◌≤◌, length, take, Some, None}
use Rattle.std.specs.Prelude.{MatchOption}
use Rattle.bac_requester.specs.TransactionViews.{ending_view}
use Rattle.bac_network.specs.Views.{log_view}
use Rattle.bac_liveness.specs.StraightRuns.{ending_in}
use Rattle.bac_network.proofs.ended.ending_of.Given as goal

abbrev pub invariant-loop-at : goal.invariant-loop-at
invariant-loop-at l =
    record {
      from : l.since ≤ l.at;
      ends : l.at-end ≡ length l.log;
      found : MatchOption l.found (ending_in l.ask (log_view (take l.at l.log)) ≡ None)
          (λ how. ending_in l.ask (log_view (take l.at l.log)) ≡ Some (ending_view how.now));
    }
