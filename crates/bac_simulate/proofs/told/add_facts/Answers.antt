use Rattle.std.proofs.Common.{◌<◌, ℕ, List, length, map, refl, sym, subst, arith}
use Rattle.std.proofs.lemmas.Option.{slice_get_read}
use Rattle.bac_journal.specs.Notes.{note_view}
use Rattle.bac_network.specs.Views.{fact_view}
use Rattle.bac_simulate.specs.Told.{IsFactText}
use Rattle.bac_simulate.proofs.ToldTexts.{fact_told, facts_told}
use Rattle.bac_simulate.proofs.told.add_facts.Goals as goal

pub loop-number-preserved : goal.loop-number-preserved
loop-number-preserved c =
    let at = c.loop-number in
    let f = c.index-log-number.result in
    let lt : at.number < length c.args.log.now = omega arith in
    let notes = map note_view c.args.asks.now in
    let line =
    subst (λ (t : List ℕ). IsFactText c.args.teller.style notes c.args.teller.moment (fact_view f) t) (sym c.as_slice.ensures.value) c.in_ok-fact.ensures in
    λ end h. at.invariant end (fact_told c.args.teller.style notes c.args.teller.moment c.args.log.now at.number f
    (slice_get_read c.args.log.now _ at.number f refl lt c.index-log-number.is) _ _ end _ line c.in_ok-extend_from_slice.ensures.items h)

pub returns : goal.returns
returns c =
    c.loop-number.invariant _ (facts_told c.args.teller.style (map note_view c.args.asks.now) c.args.teller.moment c.args.log.now c.loop-number.number (omega arith) _)
