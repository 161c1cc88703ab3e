use Rattle.std.proofs.Common.{◌<◌, ◌∙◌, length, map, Option, refl, subst, arith}
use Rattle.std.proofs.lemmas.Option.{slice_get_read}
use Rattle.bac_chart.specs.Marks.{Mark}
use Rattle.bac_journal.specs.Notes.{note_view}
use Rattle.bac_simulate.specs.Traces.{optional_marks, AddsMarks}
use Rattle.bac_simulate.proofs.Tracing.{fact_added}
use Rattle.bac_simulate.proofs.trace.add_facts.Goals as goal

pub loop-number-preserved : goal.loop-number-preserved
loop-number-preserved c =
    let at = c.loop-number in
    let f = c.index-log-number.result in
    let lt : at.number < length c.args.log.now = omega arith in
    fact_added c.args.now (map note_view c.args.asks.now) c.args.log.now at.number f
    (slice_get_read c.args.log.now _ at.number f refl lt c.index-log-number.is) at.marks.items c.add.new.marks.items
    (subst (λ (o : Option Mark). AddsMarks at.marks.items c.add.new.marks.items (optional_marks o)) c.in_ok-fact_mark.ensures c.in_ok-add.ensures)
    ∙ at.invariant
