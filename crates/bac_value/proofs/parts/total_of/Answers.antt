use Rattle.std.proofs.Common.{arith, refl, length, length-append, ap, take, drop, ◌+◌, ◌≡◌, get_or, subst, ◌∙◌, ℕ}
use Rattle.std.specs.Global.{Vec}
use Rattle.std.proofs.lemmas.List.{take_all, drop_all}
use Rattle.bac_value.specs.Octets.{IsBytes, joined}
use Rattle.bac_value.proofs.Joined.{joined_more, joined_rest, IsBytes-append}
use Rattle.bac_value.proofs.parts.total_of.Goals as goal

pub loop-part-preserved : goal.loop-part-preserved
loop-part-preserved c =
    let ps = c.args.parts.now in
    let i = c.loop-part.part-index in
    let p = c.part-item.result in
    let lt = c.loop-part-test.true in
    let here = c.slice_len.ensures in
    let e : c.deref.result.now ≡ (get_or ps i p).items = c.deref.ensures.value ∙ ap (λ (x : Vec ℕ). x.items) c.part-item.is in
    record {
      fits = omega (arith, c.in_ok-len.ensures.0, c.in_ok-len.ensures.1);
      counted = omega (
        arith,
        ap length (joined_rest ps i p lt),
        length-append (get_or ps i p).items (joined (drop (i + 1) ps)),
        ap length e,
        here.count,
        c.in_ok-len.ensures.1,
        c.loop-part.invariant.counted,
      );
      each = let f : IsBytes (get_or ps i p).items =
          subst IsBytes e here.each in rw (joined_more ps i p lt) (IsBytes-append (joined (take i ps)) (get_or ps i p).items c.loop-part.invariant.each f);
    }

pub returns-clause-some : goal.returns-clause-some
returns-clause-some c =
    let none = drop_all c.loop-part.part-index c.args.parts.now c.loop-part-test.false in
    (λ h. omega (arith, c.loop-part.invariant.counted, ap (λ x. length (joined x)) none), λ h. refl)

pub returns-clause-all : goal.returns-clause-all
returns-clause-all c =
    let i = c.loop-part.part-index in
    let ps = c.args.parts.now in
    let none = drop_all i ps c.loop-part-test.false in (
      omega (arith, c.loop-part.invariant.counted, ap (λ x. length (joined x)) none),
      subst (λ x. IsBytes (joined x)) (take_all i ps c.loop-part-test.false) c.loop-part.invariant.each,
    )
