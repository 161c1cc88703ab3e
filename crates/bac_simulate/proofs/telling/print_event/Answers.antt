use Rattle.std.proofs.Common.{◌≡◌, ◌∙◌, ◌++◌, ℕ, List, Option, refl, sym, subst}
use Rattle.std.specs.Io.KnownBytes.{Appends}
use Rattle.bac_simulate.proofs.ToldTexts.{event_told, fault_told, refusal_told}
use Rattle.bac_simulate.proofs.telling.print_event.Goals as goal

written : (a b : Option (List ℕ)) (head said more : List ℕ) → Appends a b (head ++ said) → said ≡ more → Appends a b (head ++ more)
written a b head said more p is = subst (λ (l : List ℕ). Appends a b (head ++ l)) is p

pub returns-in-Ok : goal.returns-in-Ok
returns-in-Ok g c =
    event_told c.args.style c.args.line c.args.event.now c.in-Ok.refused c.args.world.now c.step.new.self c.of-before.result.facts c.of-before.result.copies
    c.ms_now.result c.why_nothing-why.result _ _ _ _ _ c.of-before.ensures.facts c.of-before.ensures.copies c.ms_now.ensures c.why_nothing-why.ensures
    c.in_ok-head.ensures c.in-Ok.ensures.went c.in-Ok.ensures.told c.step.ensures.settings.0 c.step.ensures.settings.2 c.in-Ok.ensures.passed c.in_ok-outcome-in-Ok.ensures refl
    (written _ _ _ _ _ c.in_ok-print_both-in-Ok.ensures c.as_slice.ensures.value)

pub returns-in_ok-print_both-in-Some : goal.returns-in_ok-print_both-in-Some
returns-in_ok-print_both-in-Some g c =
    let told = c.in-Err.ensures in
    refusal_told c.args.style c.args.line c.args.event.now c.in-Err.fault c.in-Some.why c.args.world.now c.step.new.self c.ms_now.result c.number.result _ _ _ _ _ _
    (sym c.change_fault_in.ensures ∙ c.in-Some.is) told.faults.change told.err c.ms_now.ensures c.number.ensures c.change_fault_words.ensures c.in_ok-head.ensures
    c.in_ok-refusal-in-Some.ensures refl (written _ _ _ _ _ c.in_ok-print_both-in-Some.ensures c.as_slice-in-Some.ensures.value)

pub returns-in_ok-print_end-in-None : goal.returns-in_ok-print_end-in-None
returns-in_ok-print_end-in-None g c =
    let told = c.in-Err.ensures in
    fault_told c.args.style c.args.line c.args.event.now c.in-Err.fault c.args.world.now c.step.new.self _ _ _ (sym c.change_fault_in.ensures ∙ c.in-None.is)
    told.faults told.err c.number-in-None.ensures c.in_ok-print_end-in-None.ensures
