use Rattle.std.proofs.Common.{sym, map}
use Rattle.bac_service.specs.Views.{priority_view, property_reference_view}
use Rattle.bac_store.specs.Views.{entry_view}
use Rattle.bac_store.proofs.SizeLaws.{granted_fits, granted_size, write_plan}
use Rattle.bac_store.proofs.preparing.plan_write_property.Goals as goal

pub write_effect-requires : goal.write_effect-requires
write_effect-requires c = λ is.
    granted_size (property_reference_view c.args.write.reference) c.args.write.values.octets.now (entry_view c.in-Some.entry.now) is
    c.in_default-write_refusal.ensures

pub invariant_of-result : goal.invariant_of-result
invariant_of-result c =
    rw c.in_ok-effect.ensures.effect
    (granted_fits (property_reference_view c.args.write.reference) c.args.write.values.octets.now (entry_view c.in-Some.entry.now)
    c.in_default-write_refusal.ensures)

pub returns-clause-plan : goal.returns-clause-plan
returns-clause-plan c =
    rw c.in_ok-effect.ensures.effect
    (write_plan (map entry_view c.args.objects.now) (property_reference_view c.args.write.reference) c.args.write.values.octets.now
    (priority_view c.args.write.priority) (entry_view c.in-Some.entry.now) c.requires (sym c.in-Some.ensures.found)
    c.in_default-write_refusal.ensures)
