use Rattle.std.proofs.Common.{map, sym, subst}
use Rattle.bac_store.specs.Allowing.{are_right_limits}
use Rattle.bac_store.specs.Made.{IsRefused}
use Rattle.bac_store.specs.Views.{allowed_view, object_view}
use Rattle.bac_store.specs.declared.store_fault.StoreFault.{StoreFault}
use Rattle.bac_c.specs.Taking.{vendor_object}
use Rattle.bac_c.proofs.Takes.{failed, limits_fit, limits_misfit, one_listed, told}
use Rattle.bac_c.proofs.taking.have_limits_that_fit.Goals as goal
use Rattle.bac_c.proofs.taking.have_limits_that_fit.Goals.{in-Ok, in-Err-NoMemory, in-Err-BadObject}

pub returns : goal.returns
returns c =
    let values = c.args.property.now.values.octets.items in
    let allowed = allowed_view c.args.property.now.allowed in
    let os = map object_view c.push.new.self.items in
    let one = one_listed c.in_ok-objects.objects.items c.push.new.self.items c.in_ok-object.object (vendor_object values allowed) c.in_ok-objects.ensures.items
    c.in_ok-push.ensures.items c.in_ok-object.ensures in
    elim c.match-new.branch [
      | in-Ok w ↦ told c.match-new.result _ (are_right_limits allowed values) w.result-is (sym (limits_fit values allowed os w.in-Ok.field-0 one w.in-Ok.ensures))
      | in-Err-NoMemory w ↦ failed c.match-new.result _ (are_right_limits allowed values) w.result-is
      | in-Err-BadObject w ↦ told c.match-new.result _ (are_right_limits allowed values) w.result-is (sym (limits_misfit values allowed os one c.requires
          (subst (λ (e : StoreFault). IsRefused os e) w.in-Err-BadObject.field-0-is w.in-Err-BadObject.ensures)))
    ]
