-- Each part is a block, or the first one that is none is told.
use Rattle.std.proofs.Common.{◌∙◌, ◌∷◌, ap, rules, arith}
use Rattle.std.specs.Option.{option_map}
use Rattle.bac_guard.specs.Texts.{parts_in}
use Rattle.bac_guard.proofs.Parts.{all_read, flaw_at, read_one, too_many}
use Rattle.bac_guard.proofs.sources_reading.read_blocks.Goals as goal

pub returns-in-Err-clause-refused : goal.returns-in-Err-clause-refused
returns-in-Err-clause-refused c = flaw_at _ _ _ _ _ _ _ c.loop-before.invariant.0 c.first_part.ensures c.in-Err.ensures.flaw

pub returns-in-None-clause-read : goal.returns-in-None-clause-read
returns-in-None-clause-read c =
    let last = c.first_part.ensures ∙ ap (λ o. c.first_part.result.0.now ∷ parts_in (option_map (λ t. t.now) o)) c.in-None.is in
    let below = c.loop-before-test.true in
    all_read _ _ _ (read_one _ _ _ _ _ _ _ _ c.loop-before.invariant.0 last c.in-Ok.ensures.read c.push.ensures) (omega (arith, below))

pub loop-before-preserved : goal.loop-before-preserved
loop-before-preserved c =
    let next = c.first_part.ensures ∙ ap (λ o. c.first_part.result.0.now ∷ parts_in (option_map (λ t. t.now) o)) c.in-Some.is in
    (read_one _ _ _ _ _ _ _ _ c.loop-before.invariant.0 next c.in-Ok.ensures.read c.push.ensures, search rules)

pub returns-clause-refused : goal.returns-clause-refused
returns-clause-refused c = too_many _ c.loop-before.rest.now _ _ c.loop-before.invariant.0 c.loop-before-test.false
