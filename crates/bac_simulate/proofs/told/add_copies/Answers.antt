use Rattle.std.proofs.Common.{◌<◌, ℕ, List, length, refl, sym, subst, arith}
use Rattle.std.proofs.lemmas.Option.{slice_get_read}
use Rattle.bac_journal.specs.Views.{copy_view}
use Rattle.bac_simulate.specs.Told.{IsSentText}
use Rattle.bac_simulate.proofs.ToldTexts.{copies_told, copy_told}
use Rattle.bac_simulate.proofs.told.add_copies.Goals as goal

pub loop-number-preserved : goal.loop-number-preserved
loop-number-preserved c =
    let at = c.loop-number in
    let k = c.index-copies-number.result in
    let lt : at.number < length c.args.copies.now = omega arith in
    let line =
    subst (λ (t : List ℕ). IsSentText c.args.teller.style c.args.teller.moment at.number (copy_view k) t) (sym c.as_slice.ensures.value) c.in_ok-sent.ensures in
    λ end h. at.invariant end (copy_told c.args.teller.style c.args.teller.moment c.args.copies.now at.number k
    (slice_get_read c.args.copies.now _ at.number k refl lt c.index-copies-number.is) _ _ end _ line c.in_ok-extend_from_slice.ensures.items h)

pub returns : goal.returns
returns c =
    c.loop-number.invariant _ (copies_told c.args.teller.style c.args.teller.moment c.args.copies.now c.loop-number.number (omega arith) _)
