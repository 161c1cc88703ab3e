use Rattle.std.proofs.Common.{◌<◌, ◌+◌, ◌++◌, ◌∙◌, List, Option, ap, length, map, drop, refl, arith, rules}
use Rattle.std.proofs.lemmas.List.{drop_all}
use Rattle.std.proofs.lemmas.Option.{slice_get_read}
use Rattle.bac_environment.proofs.Lists.{drop_next}
use Rattle.bac_driver.specs.declared.question.AskEnd.{AskEnd}
use Rattle.bac_asking.specs.InFlight.{no_end, waiting_from}
use Rattle.bac_asking.specs.declared.flights.Waiting.{Waiting}
use Rattle.bac_asking.proofs.InFlight.{all_wait, one_more_end, one_more_waits}
use Rattle.bac_asking.proofs.flights.Flights.new.Goals as goal

pub loop-place-preserved : goal.loop-place-preserved
loop-place-preserved c =
    let at = c.loop-place in
    let e = c.index-lines-place.result in
    let lt : at.place < length c.args.lines.now = omega arith in
    let next = drop_next c.args.lines.now at.place e (slice_get_read c.args.lines.now _ at.place e refl lt c.index-lines-place.is) in
    let others = drop (at.place + 1) c.args.lines.now in
    record {
      waiting =
          ap (λ (w : List Waiting). w ++ waiting_from (at.place + 1) others) c.in_ok-push_back.ensures.items
          ∙ one_more_waits at.place (drop at.place c.args.lines.now) others e at.waiting.items _ next at.invariant.waiting;
      ends =
          ap (λ (s : List (Option AskEnd)). s ++ map no_end others) c.in_ok-push.ensures.items
          ∙ one_more_end (drop at.place c.args.lines.now) others e at.ends.items _ next at.invariant.ends;
    }

pub returns : goal.returns
returns c =
    let at = c.loop-place in
    all_wait at.place c.args.lines.now (drop at.place c.args.lines.now) at.waiting.items _ at.ends.items (drop_all at.place c.args.lines.now (omega arith))
    (search rules) at.invariant.waiting at.invariant.ends
