use Rattle.std.proofs.Common.{rules, ℕ, List, ◌++◌, reverse, subst, sym}
use Rattle.bac_value.specs.Octets.{IsBytes}
use Rattle.bac_value.specs.Reading.{IsOver}
use Rattle.bac_value.specs.Views.{element_view}
use Rattle.bac_value.proofs.Turns.{passed_none, passed_one, over_at}
use Rattle.bac_value.proofs.data_reading.pass_run.Goals as goal

pub loop-element-init : goal.loop-element-init
loop-element-init c = passed_none (reverse c.args.opened.now.items) c.args.run.now

pub loop-element-preserved : goal.loop-element-preserved
loop-element-preserved c =
    let bytes : IsBytes c.args.run.now = search rules in
    let turned = rw c.in-Ok-true.field-0-test at c.in-Ok-true.ensures.turned in
    passed_one (element_view (λ s. s.now) c.in-Ok.element) (reverse c.args.opened.now.items) c.args.run.now (reverse c.loop-element.opened.items)
    c.loop-element.rest.now (reverse c.turn_at.new.opened.items) c.in-Ok.next.now bytes c.loop-element.invariant c.in-Ok.ensures.reads.1 turned
    c.in-Ok.ensures.onward

pub returns-in-Ok-false-clause-over : goal.returns-in-Ok-false-clause-over
returns-in-Ok-false-clause-over c over behind =
    let bytes : IsBytes c.args.run.now = search rules in
    let turned = rw c.in-Ok-false.field-0-test at c.in-Ok-false.ensures.turned in
    let stays = rw c.in-Ok-false.field-0-test at c.in-Ok-false.ensures.stays in
    subst (λ (items : List ℕ). IsOver (reverse items) (c.loop-element.rest.now ++ behind)) (sym stays)
    (over_at (element_view (λ s. s.now) c.in-Ok.element) (reverse c.args.opened.now.items) c.args.run.now (reverse c.loop-element.opened.items)
    c.loop-element.rest.now c.in-Ok.next.now behind bytes c.loop-element.invariant c.in-Ok.ensures.reads.1 turned c.in-Ok.ensures.onward)
