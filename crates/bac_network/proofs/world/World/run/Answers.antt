-- One event after the other.
use Rattle.std.proofs.Common.{◌<◌, ◌≤◌, Err, length, take, refl, sym, ap, subst, ◌∙◌, arith}
use Rattle.std.proofs.lemmas.Option.{slice_get_read}
use Rattle.bac_network.specs.AsksAlone.{HasAsksAloneNow}
use Rattle.bac_network.specs.Histories.{HasRequestsAloneNow, WorldView, as_world, reuses_of}
use Rattle.bac_network.specs.Runs.{events_in}
use Rattle.bac_network.proofs.Histories.{asks_now, requests_now}
use Rattle.bac_network.proofs.Strictly.{run_strictly, settings_on, still_strict, stops_strictly}
use Rattle.bac_network.proofs.WorldRunning.{all_done, all_passed, alone_so_far, asks_so_far, fault_is, goes_on, stops, time_goes_on}
use Rattle.bac_network.proofs.world.World.run.Goals as goal

pub returns-in-Err-clause-stopped : goal.returns-in-Err-clause-stopped
returns-in-Err-clause-stopped c =
    let at = c.loop-place in
    let event = c.index-events-place.result in
    let lt : at.place < length c.args.events.now = omega arith in
    stops c.in-Err.fault c.args.self.now at.self c.step.new.self c.args.events.now at.place event
    (slice_get_read c.args.events.now _ at.place event refl lt c.index-events-place.is) at.invariant.done at.invariant.settings.0 at.invariant.time
    c.in-Err.ensures.err
    (fault_is c.in-Err.fault at.self event (Err c.in-Err.fault) refl c.in-Err.ensures.faults)

pub returns-clause-went : goal.returns-clause-went
returns-clause-went c =
    let at = c.loop-place in
    let end = c.loop-place-test.false in
    let all : length c.args.events.now ≤ at.place = omega arith in
    all_done c.args.self.now at.self c.args.events.now at.place all at.invariant.done

pub returns-clause-passed : goal.returns-clause-passed
returns-clause-passed c =
    let at = c.loop-place in
    let end = c.loop-place-test.false in
    let all : length c.args.events.now ≤ at.place = omega arith in
    all_passed c.args.self.now.time at.self.time c.args.events.now at.place all at.invariant.time

pub returns-in-Err-clause-passed_before : goal.returns-in-Err-clause-passed_before
returns-in-Err-clause-passed_before c = ap (λ (v : WorldView). v.time) c.in-Err.ensures.err ∙ c.loop-place.invariant.time

pub returns-in-Err-clause-settings : goal.returns-in-Err-clause-settings
returns-in-Err-clause-settings c =
    let at = c.loop-place in
    settings_on c.args.self.now at.self c.step.new.self c.in-Err.ensures.settings at.invariant.settings

pub loop-place-preserved : goal.loop-place-preserved
loop-place-preserved c =
    let at = c.loop-place in
    let event = c.index-events-place.result in
    let lt : at.place < length c.args.events.now = omega arith in
    record {
      done = goes_on c.args.self.now at.self c.step.new.self c.args.events.now at.place event
          (slice_get_read c.args.events.now _ at.place event refl lt c.index-events-place.is) at.invariant.done at.invariant.settings.0
          at.invariant.settings.2 at.invariant.time c.in_default.ensures.went;
      time = time_goes_on c.args.events.now at.place event (slice_get_read c.args.events.now _ at.place event refl lt c.index-events-place.is)
          c.args.self.now.time at.self.time c.step.new.self.time at.invariant.time c.in_default.ensures.passed;
      settings = settings_on c.args.self.now at.self c.step.new.self c.in_default.ensures.settings at.invariant.settings;
    }

-- Where no node lets invoke IDs be used again.

pub returns-in-Err-clause-without_reuse : goal.returns-in-Err-clause-without_reuse
returns-in-Err-clause-without_reuse c = λ none.
    let at = c.loop-place in
    let old = c.args.self.now in
    let event = c.index-events-place.result in
    let lt : at.place < length c.args.events.now = omega arith in
    let strict = c.in-Err.ensures.without_reuse (still_strict at.invariant.settings.2 none) in
    let done = run_strictly old.overtake (reuses_of old) none (take at.place (events_in old c.args.events.now)) (as_world old) (as_world at.self)
    at.invariant.done in
    record {
      went = tt;
      stopped = stops_strictly _ old _ c.step.new.self none
          (stops c.in-Err.fault old at.self c.step.new.self c.args.events.now at.place event
          (slice_get_read c.args.events.now _ at.place event refl lt c.index-events-place.is) at.invariant.done at.invariant.settings.0 at.invariant.time
          c.in-Err.ensures.err (fault_is c.in-Err.fault at.self event (Err c.in-Err.fault) refl c.in-Err.ensures.faults));
      log = strict.log;
      requests_alone = λ before alone.
          requests_now c.step.new.self strict.log.once
          (subst HasRequestsAloneNow (sym c.in-Err.ensures.err) (alone_so_far old at.self (events_in old c.args.events.now) at.place done before alone));
      asks_alone = λ before alone calm.
          (let asks : HasAsksAloneNow c.step.new.self = subst HasAsksAloneNow (sym c.in-Err.ensures.err)
          (asks_so_far old at.self (events_in old c.args.events.now) at.place (c.is_once.ensures.without_reuse none).history done before alone calm) in
          (asks, asks_now c.step.new.self strict.log.once asks));
    }

pub returns-clause-without_reuse : goal.returns-clause-without_reuse
returns-clause-without_reuse c = λ none.
    let at = c.loop-place in
    let old = c.args.self.now in
    let end = c.loop-place-test.false in
    let all : length c.args.events.now ≤ at.place = omega arith in
    let strict = c.is_once-2.ensures.without_reuse (still_strict at.invariant.settings.2 none) in
    let done = run_strictly old.overtake (reuses_of old) none (take at.place (events_in old c.args.events.now)) (as_world old) (as_world at.self)
    at.invariant.done in
    record {
      went = run_strictly old.overtake (reuses_of old) none (events_in old c.args.events.now) (as_world old) (as_world at.self)
          (all_done old at.self c.args.events.now at.place all at.invariant.done);
      stopped = tt;
      log = strict.log;
      requests_alone = λ before alone. strict.requests_alone (alone_so_far old at.self (events_in old c.args.events.now) at.place done before alone);
      asks_alone = λ before alone calm.
          (let asks : HasAsksAloneNow at.self = asks_so_far old at.self (events_in old c.args.events.now) at.place (c.is_once.ensures.without_reuse none).history
          done before alone calm in
          (asks, strict.asks_alone asks));
    }
