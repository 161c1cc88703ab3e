-- The server takes what it takes, and the run goes as far as it goes.
use Rattle.std.proofs.Common.{refl, inl}
use Rattle.bac_apdu.specs.Views.{limits_view}
use Rattle.bac_service.specs.Views.{owned_request_view}
use Rattle.bac_network.specs.Histories.{as_world}
use Rattle.bac_network.specs.Logs.{ending_by}
use Rattle.bac_network.specs.StraightRuns.{WentBy}
use Rattle.bac_network.proofs.StraightGoing.{alone_by, either_way, fails_at, fails_went, goes_at, goes_went, tells, told_as, went_at}
use Rattle.bac_network.proofs.Strictly.{still_strict}
use Rattle.bac_network.proofs.running.straight.Goals as goal

pub returns-clause-straight : goal.returns-clause-straight
returns-clause-straight c = λ none.
    let w = c.args.world.now in
    let new = c.ask_and_deliver-run.new.world in
    let r = owned_request_view c.args.request in
    let limits = limits_view c.in-Some.limits in
    let before = c.is_once.ensures.without_reuse none in
    let after = c.is_once-2.ensures.without_reuse (still_strict c.ask_and_deliver-run.ensures.settings.2 none) in
    let went : WentBy w.overtake (as_world w) c.args.client c.args.server limits r (as_world new) =
    either_way c.ask_and_deliver-run.result
    (λ s g. goes_went w.overtake (as_world w) c.args.client c.args.server limits r (as_world new) (ending_by s.ask new.log) s.deliveries g)
    (λ f g. fails_went w.overtake (as_world w) c.args.client c.args.server limits r (as_world new) f g)
    (c.ask_and_deliver-run.ensures.goes none) in
    record {
      run = went_at w.overtake (as_world w) c.args.client c.args.server limits r (as_world new) (c.in-Some.ensures).0 (c.in-Some.ensures).1
          (c.in-Some.ensures).2 went;
      goes = told_as c.ask_and_deliver-run.result
          (λ s g. goes_at w.overtake (as_world w) c.args.client c.args.server limits r (as_world new) (c.in-Some.ensures).0 (c.in-Some.ensures).1
          (c.in-Some.ensures).2 (ending_by s.ask new.log) s.deliveries g)
          (λ f g. tt)
          (c.ask_and_deliver-run.ensures.goes none);
      stopped = told_as c.ask_and_deliver-run.result
          (λ s g. tt)
          (λ f g. fails_at w.overtake (as_world w) c.args.client c.args.server limits r (as_world new) (c.in-Some.ensures).0 (c.in-Some.ensures).1
          (c.in-Some.ensures).2 f g)
          (c.ask_and_deliver-run.ensures.goes none);
      answered = λ a b can. told_as c.ask_and_deliver-run.result
          (λ s g. (tells w before.history).answers c.args.client c.args.server r (ending_by s.ask new.log) s.deliveries (as_world new)
          (goes_at w.overtake (as_world w) c.args.client c.args.server limits r (as_world new) (c.in-Some.ensures).0 (c.in-Some.ensures).1
          (c.in-Some.ensures).2 (ending_by s.ask new.log) s.deliveries g) c.is_well_made.ensures c.is_well_made-2.ensures a b can)
          (λ f g. tt)
          (c.ask_and_deliver-run.ensures.goes none);
      log = after.log;
      requests_alone = λ alone.
          after.requests_alone (alone_by w.overtake (as_world w) c.args.client c.args.server limits r (as_world new) went alone);
    }

pub returns-in_default-clause-straight : goal.returns-in_default-clause-straight
returns-in_default-clause-straight c = λ none.
    let before = c.is_once.ensures.without_reuse none in
    record {
      run = inl refl;
      goes = tt;
      stopped = inl (record { fault_is = refl; lacks = c.in_default.ensures; same = refl });
      answered = λ a b can. tt;
      log = before.log;
      requests_alone = before.requests_alone;
    }
