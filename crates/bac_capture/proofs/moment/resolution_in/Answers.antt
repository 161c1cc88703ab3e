-- One more option.
use Rattle.std.proofs.Common.{◌≡◌, ◌-◌, ◌+◌, ◌∙◌, sym, ap, arith}
use Rattle.bac_capture.specs.Moments.{resolution_in}
use Rattle.bac_capture.proofs.Resolutions.{none_left, one_left, is_code, no_code, no_more}
use Rattle.bac_capture.proofs.moment.resolution_in.Goals as goal

pub loop-init : goal.loop-init
loop-init c =
    let same : c.args.limit ≡ c.args.limit - 0 = omega arith in
    ap (λ n. resolution_in n c.args.order c.args.options.now) same

pub returns-then-left-lt5 : goal.returns-then-left-lt5
returns-then-left-lt5 c =
    sym (c.loop.invariant ∙ none_left (c.args.limit - c.loop.counter) c.args.order c.loop.left.now (omega (arith, c.if-left-lt5.true)))

pub returns-then-code-eq-END : goal.returns-then-code-eq-END
returns-then-code-eq-END c =
    let one : c.args.limit - c.loop.counter ≡ c.args.limit - (c.loop.counter + 1) + 1 = omega (arith, c.loop-test.true) in
    sym (c.loop.invariant ∙ one_left _ (c.args.limit - (c.loop.counter + 1)) c.args.order c.loop.left.now one c.if-left-lt5.false
    ∙ is_code c.args.order c.loop.left.now 0 6 _ (sym c.word-code.ensures ∙ c.if-code-eq-END.true))

pub returns-then-code-eq-RESOLUTION : goal.returns-then-code-eq-RESOLUTION
returns-then-code-eq-RESOLUTION c =
    let one : c.args.limit - c.loop.counter ≡ c.args.limit - (c.loop.counter + 1) + 1 = omega (arith, c.loop-test.true) in
    sym (c.loop.invariant ∙ one_left _ (c.args.limit - (c.loop.counter + 1)) c.args.order c.loop.left.now one c.if-left-lt5.false
    ∙ no_code c.args.order c.loop.left.now 0 6 _ (λ e. c.if-code-eq-END.false (c.word-code.ensures ∙ e))
    ∙ is_code c.args.order c.loop.left.now 9 _ _ (sym c.word-code.ensures ∙ c.if-code-eq-RESOLUTION.true))

pub loop-preserved : goal.loop-preserved
loop-preserved c =
    let one : c.args.limit - c.loop.counter ≡ c.args.limit - (c.loop.counter + 1) + 1 = omega (arith, c.loop-test.true) in
    c.loop.invariant ∙ one_left _ (c.args.limit - (c.loop.counter + 1)) c.args.order c.loop.left.now one c.if-left-lt5.false
    ∙ no_code c.args.order c.loop.left.now 0 6 _ (λ e. c.if-code-eq-END.false (c.word-code.ensures ∙ e))
    ∙ no_code c.args.order c.loop.left.now 9 _ _ (λ e. c.if-code-eq-RESOLUTION.false (c.word-code.ensures ∙ e))
    ∙ ap (resolution_in (c.args.limit - (c.loop.counter + 1)) c.args.order) (sym c.after_option-left.ensures)

pub returns : goal.returns
returns c = sym (c.loop.invariant ∙ no_more (c.args.limit - c.loop.counter) c.args.order c.loop.left.now (omega (arith, c.loop-test.false)))
