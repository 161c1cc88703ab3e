use Rattle.std.proofs.Common.{arith, subst, IsTrue, ◌∷◌}
use Rattle.std.proofs.lemmas.Bool.{ltb-true}
use Rattle.bac_value.specs.Octets.{begins_in_first}
use Rattle.bac_value.proofs.Joined.{first_of}
use Rattle.bac_value.proofs.parts.PartsOctets.first.Goals as goal

pub returns : goal.returns
returns c =
    let p = c.args.self in
    let v = c.in_ok-part.part.now in
    let is = c.in_ok-part.ensures.cases.0 in
    let begun : IsTrue (begins_in_first (v ∷ c.in_ok-part.field-0-1.now) p.skip) = subst (λ ps. IsTrue (begins_in_first ps p.skip)) is p.settled in
    first_of p.parts.now c.in_ok-part.field-0-1.now c.settled.result.parts.now v p.skip p.len c.index-first.result.now c.settled.result.skip
    c.settled.result.len is (ltb-true _ _ begun) (omega (arith, c.if-self-eq0.false)) c.index-first.ensures c.settled.ensures.count c.settled.ensures.same
