use Rattle.std.proofs.Common.{◌∙◌, ap, subst, map, arith}
use Rattle.bac_value.specs.Views.{object_identifier_view}
use Rattle.bac_store.specs.Views.{effect_view}
use Rattle.bac_store.specs.Kept.{Fits}
use Rattle.bac_store.specs.Plans.{StoreEffect, with_effect}
use Rattle.bac_store.specs.Views.{entry_view}
use Rattle.bac_store.proofs.Keeps.{vector_in_order}
use Rattle.bac_store.proofs.store.Store.make.Goals as goal

pub invariant_of-self : goal.invariant_of-self
invariant_of-self c =
    let effect = StoreEffect.Values (object_identifier_view c.in-Values.object) c.in-Values.property c.in-Values.values.octets.items in
    vector_in_order c.self.inside.objects c.set_values.new.objects effect
    (subst (λ x. Fits (effect_view x)) c.in-Values.is c.requires)
    c.self.invariant
    (omega (arith, c.deref_mut.ensures.len))
    (c.set_values.ensures ∙ ap (λ xs. with_effect effect (map entry_view xs)) c.deref_mut.ensures.value)

pub invariant_of-self-in-Octets : goal.invariant_of-self-in-Octets
invariant_of-self-in-Octets c =
    let effect = StoreEffect.Octets (object_identifier_view c.in-Octets.object) c.in-Octets.splice.at c.in-Octets.splice.new.items in
    vector_in_order c.self.inside.objects c.set_octets.new.objects effect
    (subst (λ x. Fits (effect_view x)) c.in-Octets.is c.requires)
    c.self.invariant
    (omega (arith, c.deref_mut-in-Octets.ensures.len))
    (c.set_octets.ensures ∙ ap (λ xs. with_effect effect (map entry_view xs)) c.deref_mut-in-Octets.ensures.value)

pub invariant_of-self-in-Contents : goal.invariant_of-self-in-Contents
invariant_of-self-in-Contents c =
    let effect = StoreEffect.Contents (object_identifier_view c.in-Contents.object) c.in-Contents.octets.items in
    vector_in_order c.self.inside.objects c.set_contents.new.objects effect
    (subst (λ x. Fits (effect_view x)) c.in-Contents.is c.requires)
    c.self.invariant
    (omega (arith, c.deref_mut-in-Contents.ensures.len))
    (c.set_contents.ensures ∙ ap (λ xs. with_effect effect (map entry_view xs)) c.deref_mut-in-Contents.ensures.value)
