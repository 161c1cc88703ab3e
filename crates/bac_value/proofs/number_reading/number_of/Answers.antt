use Rattle.std.proofs.Common.{ap, subst, sym, ◌-◌, ◌<◌, ◌^◌, ◌∙◌, ℕ, List, length, replicate}
use Rattle.std.specs.Int.{w64, from_be_bytes}
use borrow.Rule.Slice.PartMut.{put_mid}
use Rattle.bac_value.proofs.Numbers.{number_in-lt, number_in_eight}
use Rattle.bac_value.proofs.number_reading.number_of.Goals as goal

pub returns-clause-is : goal.returns-clause-is
returns-clause-is g c =
    let xs = g.O.Octets.octets c.args.octets in
    let at : ℕ → List ℕ → ℕ = λ k ys. from_be_bytes w64 (put_mid (8 - k) (8 - (8 - k)) (replicate 8 0) ys) in
    c.from_be_bytes.ensures ∙ ap (λ ys. at c.len.result ys) c.copy_to.ensures ∙ ap (λ k. at k xs) c.len.ensures.count ∙ number_in_eight xs c.requires

pub returns-clause-small : goal.returns-clause-small
returns-clause-small g c =
    let xs = g.O.Octets.octets c.args.octets in
    let at : ℕ → List ℕ → ℕ = λ k ys. from_be_bytes w64 (put_mid (8 - k) (8 - (8 - k)) (replicate 8 0) ys) in
    let is = c.from_be_bytes.ensures ∙ ap (λ ys. at c.len.result ys) c.copy_to.ensures ∙ ap (λ k. at k xs) c.len.ensures.count ∙ number_in_eight xs c.requires in
    subst (λ (n : ℕ). n < 256 ^ length xs) (sym is) (number_in-lt xs c.len.ensures.each)
