-- All pieces are the same.
use Rattle.std.proofs.Common.{[], refl, arith}
use Rattle.std.proofs.lemmas.List.{ext_get_or}
use Rattle.bac_requester.proofs.comparing.same_pieces.Goals as goal

pub returns : goal.returns
returns c = (
  λ _. ext_get_or [] _ _ c.loop-n.invariant.count (λ k l. c.loop-n.invariant.same k (omega (arith, l, c.loop-n-test.false, c.loop-n.invariant.ends))),
  λ _. refl,
)
