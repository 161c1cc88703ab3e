use Rattle.std.proofs.Common.{◌<◌, length, map, refl, arith}
use Rattle.std.proofs.lemmas.Option.{slice_get_read}
use Rattle.bac_journal.specs.Notes.{note_view}
use Rattle.bac_simulate.proofs.News.{fact_more, no_fact_more}
use Rattle.bac_simulate.proofs.printing.print_facts.Goals as goal

pub loop-number-preserved : goal.loop-number-preserved
loop-number-preserved g c =
    let at = c.loop-number in
    let f = c.index-log-number.result in
    let lt : at.number < length c.args.log.now = omega arith in
    λ end h. at.invariant end (fact_more (map note_view c.args.asks.now) c.args.log.now at.number f
    (slice_get_read c.args.log.now _ at.number f refl lt c.index-log-number.is) _ _ end c.in_ok-print_fact.ensures h)

pub returns : goal.returns
returns g c =
    c.loop-number.invariant _ (no_fact_more (map note_view c.args.asks.now) c.args.log.now c.loop-number.number (omega arith) _)
