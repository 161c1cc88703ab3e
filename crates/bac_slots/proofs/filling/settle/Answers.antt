-- One more number is settled.
use Rattle.std.proofs.Common.{◌-◌, ◌∙◌, ℕ, List, ap, arith, get_or, set}
use Rattle.std.proofs.lemmas.List.{get_or_default}
use Rattle.std.proofs.lemmas.List.Edits.{map_over_more}
use Rattle.bac_slots.specs.Indexes.{lowered}
use Rattle.bac_slots.proofs.filling.settle.Goals as goal

pub loop-number-preserved : goal.loop-number-preserved
loop-number-preserved c =
    let i : ℕ = c.loop-number.number-index in
    let numbers : List ℕ = c.loop-number.numbers in
    let read = get_or_default numbers i 0 (get_or numbers i 0) (omega (arith, c.loop-number-test.true, c.loop-number.auto.numbers)) in
    ap (λ v. set numbers i v) c.settled.ensures
    ∙ map_over_more (λ n. lowered c.args.gone (n - c.args.first)) c.args.numbers.now numbers i (get_or numbers i 0)
    (omega (arith, c.loop-number-test.true)) c.loop-number.invariant read
