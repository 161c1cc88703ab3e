use Rattle.std.proofs.Common.{arith, ap, sym, length, take, ◌++◌, ◌∷◌, [], ◌<◌, ◌∙◌, List, ℕ, append_assoc}
use Rattle.std.proofs.Math.ListN.{length-set}
use Rattle.std.proofs.lemmas.List.{take_more_set, take_all, append-nil}
use Rattle.bac_value.proofs.octets.copy_to.Goals as goal

pub bounds-out-at : goal.bounds-out-at
bounds-out-at g c = omega (arith, ap length c.in-Some.ensures, c.loop-read.invariant.count)

pub loop-read-preserved : goal.loop-read-preserved
loop-read-preserved g c =
    let inv = c.loop-read.invariant in
    let next = g.O.Octets.octets c.in-Some.read.1 in
    let x = c.in-Some.read.0 in
    let lt : c.loop-read.at < length c.loop-read.out = omega (arith, ap length c.in-Some.ensures, inv.count, inv.sized) in
    record {
      sized = length-set c.loop-read.out c.loop-read.at x ∙ inv.sized;
      count = omega (arith, ap length c.in-Some.ensures, inv.count, length-set c.loop-read.out c.loop-read.at x);
      same = ap (λ (xs : List ℕ). xs ++ next) (take_more_set c.loop-read.out c.loop-read.at x lt)
          ∙ append_assoc (take c.loop-read.at c.loop-read.out) (x ∷ []) next
          ∙ ap (λ (xs : List ℕ). take c.loop-read.at c.loop-read.out ++ xs) (sym c.in-Some.ensures) ∙ inv.same;
    }

pub returns : goal.returns
returns g c =
    let inv = c.loop-read.invariant in
    let all = take_all c.loop-read.at c.loop-read.out (omega (arith, ap length c.in_default.ensures, inv.count, inv.sized)) in
    sym all ∙ sym (append-nil (take c.loop-read.at c.loop-read.out))
    ∙ ap (λ (xs : List ℕ). take c.loop-read.at c.loop-read.out ++ xs) (sym c.in_default.ensures) ∙ inv.same
