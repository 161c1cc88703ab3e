-- One node after the other is looked at.
use Rattle.std.proofs.Common.{◌≡◌, ◌+◌, ◌<◌, ◌⊎◌, ℕ, Some, slice_get, refl, subst, true, false, inl, inr, arith}
use Rattle.std.proofs.lemmas.Option.{slice_get_within}
use Rattle.bac_world.proofs.Steps.{decide_number}
use Rattle.bac_journal.proofs.copies.node_at.Goals as goal

pub returns-then-is_at-clause-some : goal.returns-then-is_at-clause-some
returns-then-is_at-clause-some c = c.if-is_at.ensures.0 refl

pub loop-n-preserved : goal.loop-n-preserved
loop-n-preserved c = record { ends = c.loop-n.invariant.ends; none = λ k lt e. go k lt e (decide_number k c.loop-n.n) }
  where
    go : (k : ℕ) → k < c.loop-n.n + 1 → slice_get c.args.links.now k ≡ Some c.args.link → ((k ≡ c.loop-n.n) ⊎ (k ≡ c.loop-n.n → ⊥)) → ⊥
    go k lt e (inl is) = (let t : false ≡ true = c.if-is_at.ensures.1 (subst (λ n. slice_get c.args.links.now n ≡ Some c.args.link) is e) in cc)
    go k lt e (inr ne) = c.loop-n.invariant.none k (omega (arith, lt, ne)) e

pub returns-clause-none : goal.returns-clause-none
returns-clause-none c = λ is n e.
    let within = slice_get_within c.args.links.now n c.args.link e in
    c.loop-n.invariant.none n (omega (arith, within, c.loop-n-test.false)) e
