-- What the function of each rule made, by the rule.
use Rattle.std.proofs.Common.{map, subst, sym}
use Rattle.std.specs.Prelude.{IfOk}
use Rattle.bac_store.specs.Views.{object_view}
use Rattle.bac_c.specs.Starting.{makes}
use Rattle.bac_c.specs.declared.rule.Rule.{Rule}
use Rattle.bac_c.proofs.rule.Rule.store.Goals as goal

pub returns-in-Plain-clause-made : goal.returns-in-Plain-clause-made
returns-in-Plain-clause-made c =
    subst (λ (r : Rule). IfOk c.plain_store.result (makes r (map object_view c.args.objects.items))) (sym c.in-Plain.is) c.plain_store.ensures.made

pub returns-in-Described-clause-made : goal.returns-in-Described-clause-made
returns-in-Described-clause-made c =
    subst (λ (r : Rule). IfOk c.described_store.result (makes r (map object_view c.args.objects.items))) (sym c.in-Described.is) c.described_store.ensures.made
