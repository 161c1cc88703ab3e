use Rattle.std.proofs.Common.{rules, arith}
use Rattle.std.proofs.lemmas.Grind.{common_steps}
use Rattle.bac_npdu.specs.declared.fault.FrameFault.TheVariants.{Truncated, Version, NotUnicast, BadLength}
use Rattle.bac_npdu.specs.Reading.{bvll_at}
use Rattle.bac_npdu.proofs.Frames.{bvll_takes, bvll_refused}
use Rattle.bac_npdu.proofs.bvll.read_bvll.Goals as goal

pub returns-in_default-clause-refused : goal.returns-in_default-clause-refused
unfolding bvll_at
returns-in_default-clause-refused c = bvll_refused c.args.octets.now Truncated (search rules)

pub returns-then-kind-clause-refused : goal.returns-then-kind-clause-refused
unfolding bvll_at
returns-then-kind-clause-refused c = bvll_refused c.args.octets.now Version (search rules)

pub returns-then-function-ne-ORIGINAL_UNICAST_NPDU-clause-refused :
    goal.returns-then-function-ne-ORIGINAL_UNICAST_NPDU-clause-refused
unfolding bvll_at
returns-then-function-ne-ORIGINAL_UNICAST_NPDU-clause-refused c = bvll_refused c.args.octets.now NotUnicast (search rules)

pub returns-then-from-octets-clause-refused : goal.returns-then-from-octets-clause-refused
unfolding bvll_at
returns-then-from-octets-clause-refused c = bvll_refused c.args.octets.now BadLength (search rules)

pub returns-else-from-octets-clause-found : goal.returns-else-from-octets-clause-found
unfolding bvll_at
returns-else-from-octets-clause-found c = bvll_takes c.args.octets.now _ (λ i. (c.type_inv.octets i).fits) (grind (arith, common_steps))
