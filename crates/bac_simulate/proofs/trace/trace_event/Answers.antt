use Rattle.std.proofs.Common.{ℕ, ◌∙◌, ◌++◌, Bool, [], ◌∷◌, Option, None, Some, length, map, refl, sym, subst, append-nil}
use Rattle.bac_chart.specs.Marks.{Mark}
use Rattle.bac_chart.specs.Views.{mark_view}
use Rattle.bac_network.specs.Histories.{as_world}
use Rattle.bac_network.specs.Steps.{Tells}
use Rattle.bac_network.specs.Views.{event_view}
use Rattle.bac_requester.specs.Faults.{ask_fault_number}
use Rattle.bac_requester.specs.declared.ask_fault.AskFault.{AskFault}
use Rattle.bac_store.specs.AtNode.{change_fault_number}
use Rattle.bac_simulate.specs.Drawn.{in_marks}
use Rattle.bac_simulate.specs.Runs.{Steps}
use Rattle.bac_simulate.specs.Scripts.{Happens}
use Rattle.bac_simulate.specs.Traces.{change_marks, coming_in, event_marks, news_marks, optional_marks, refused_mark, AddsMarks}
use Rattle.bac_simulate.specs.Views.{happening_view}
use Rattle.bac_simulate.proofs.Stepping.{fails, refuses}
use Rattle.bac_simulate.proofs.Tracing.{news_are, passed}
use Rattle.bac_simulate.proofs.trace.trace_event.Goals as goal

pub returns-in-Ok-None : goal.returns-in-Ok-None
returns-in-Ok-None g c =
    let e = c.args.event.now in
    let old = c.args.world.now in
    let new = c.step.new.self in
    let a = c.args.marks.now.items in
    let b = c.add_news.new.marks.items in
    let seen = c.of-before.result in
    let added : AddsMarks a b (event_marks None (happening_view e) old new) =
    news_are (length old.log) (length old.copies) seen.facts seen.copies new (coming_in old (happening_view e)) a b c.of-before.ensures.facts
    c.of-before.ensures.copies
    (subst (λ (o : Option Mark). AddsMarks a b (optional_marks o ++ news_marks seen.facts seen.copies new)) c.in_ok-coming.ensures
    c.in_ok-add_news-in-Ok-None.ensures) in
    let told = subst (λ (o : Option AskFault). Tells o (as_world old) (event_view old.time e) (as_world new)) c.in-Ok-None.field-0-is c.in-Ok-None.ensures.told in
    passed c.args.line e None old new a b c.in-Ok-None.ensures.went told c.step.ensures.settings.0 c.step.ensures.settings.2 c.in-Ok-None.ensures.passed added

pub returns-in-Ok-Some : goal.returns-in-Ok-Some
returns-in-Ok-Some g c =
    let e = c.args.event.now in
    let old = c.args.world.now in
    let new = c.step.new.self in
    let fault = c.in-Ok-Some.fault in
    let a = c.args.marks.now.items in
    let b = c.add_refused.new.marks.items in
    let added : AddsMarks a b (event_marks (Some fault) (happening_view e) old new) =
    subst (λ (now : ℕ). AddsMarks a b (refused_mark now (happening_view e) (ask_fault_number fault) ∷ [])) c.ms_now-now.ensures
    (subst (λ (number : ℕ). AddsMarks a b (refused_mark c.ms_now-now.result (happening_view e) number ∷ [])) c.number.ensures
    c.in_ok-add_refused-in-Ok-Some.ensures) in
    let told = subst (λ (o : Option AskFault). Tells o (as_world old) (event_view old.time e) (as_world new)) c.in-Ok-Some.field-0-is c.in-Ok-Some.ensures.told in
    passed c.args.line e (Some fault) old new a b c.in-Ok-Some.ensures.went told c.step.ensures.settings.0 c.step.ensures.settings.2 c.in-Ok-Some.ensures.passed added

pub returns-in-Some : goal.returns-in-Some
returns-in-Some g c =
    let e = c.args.event.now in
    let old = c.args.world.now in
    let new = c.step.new.self in
    let why = c.in-Some.why in
    let a = c.args.marks.now.items in
    let b = c.add_refused-in-Some.new.marks.items in
    let told = c.in-Err.ensures in
    let added : AddsMarks a b (change_marks why (happening_view e) old) =
    subst (λ (now : ℕ). AddsMarks a b (refused_mark now (happening_view e) (change_fault_number why) ∷ [])) c.ms_now-now.ensures
    (subst (λ (fault : ℕ). AddsMarks a b (refused_mark c.ms_now-now.result (happening_view e) fault ∷ [])) c.number-in-Some.ensures
    c.in_ok-add_refused-in-Some.ensures) in (
      change_marks why (happening_view e) old,
      (
        refuses in_marks c.args.line e c.in-Err.fault why old new (change_marks why (happening_view e) old) (sym c.change_fault_in.ensures ∙ c.in-Some.is)
            told.faults.change told.err refl,
        added,
      ),
    )

pub returns : goal.returns
returns g c =
    let e = c.args.event.now in
    let told = c.in-Err.ensures in (
      [],
      (
        subst (λ (b : Bool). Steps in_marks c.args.line b (Happens (happening_view e)) c.args.world.now c.step.new.self []) (sym c.stops.ensures)
            (fails in_marks c.args.line e c.in-Err.fault c.args.world.now c.step.new.self [] (sym c.change_fault_in.ensures ∙ c.in-None.is)
            told.faults told.err refl),
        sym (append-nil (map mark_view c.args.marks.now.items)),
      ),
    )
