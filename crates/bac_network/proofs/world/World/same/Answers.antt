-- The parts are compared.
use Rattle.std.proofs.Common.{Bool, refl, sym, ap, ◌∙◌, map}
use Rattle.bac_store.specs.Stores.{Store}
use Rattle.bac_world.specs.Node.{Node}
use Rattle.bac_network.specs.Views.{fact_view}
use Rattle.bac_network.proofs.Compared.{same_facts, same_journals, worlds_alike}
use Rattle.bac_network.proofs.Histories.{ready_now}
use Rattle.bac_network.proofs.world.World.same.Goals as goal

pub returns-then-not-are_alike-4 : goal.returns-then-not-are_alike-4
returns-then-not-are_alike-4 c = (
  λ never. absurd cc,
  λ same.
      c.if-not-are_alike-4.ensures.1
      (ap (map fact_view) c.deref-7.ensures.value
      ∙ same_facts c.self.inside.overtake c.other.inside.overtake c.self.inside.opening.items c.other.inside.opening.items c.self.inside.reuses.items
      c.other.inside.reuses.items c.self.inside.network c.other.inside.network (c.self.view_is ∙ same ∙ sym c.other.view_is)
      ∙ sym (ap (map fact_view) c.deref-8.ensures.value)),
)

pub returns : goal.returns
returns c =
    let ours = ready_now c.self.inside.window c.self.inside.overtake c.self.inside.opening.items c.self.inside.reuses.items c.self.inside.network
    c.self.invariant in
    let theirs = ready_now c.other.inside.window c.other.inside.overtake c.other.inside.opening.items c.other.inside.reuses.items c.other.inside.network
    c.other.invariant in (
      λ t.
          sym c.self.view_is
          ∙ worlds_alike c.self.inside.overtake c.other.inside.overtake c.self.inside.opening.items c.other.inside.opening.items c.self.inside.reuses.items
          c.other.inside.reuses.items c.self.inside.network c.other.inside.network c.if-self-other.false
          (sym (ap (map (λ (s : Store). s)) c.deref.ensures.value) ∙ c.if-not-are_alike.ensures.0 refl ∙ ap (map (λ (s : Store). s)) c.deref-2.ensures.value)
          (sym (ap (map (λ (s : Bool). s)) c.deref-3.ensures.value) ∙ c.if-not-are_alike-2.ensures.0 refl ∙ ap (map (λ (s : Bool). s)) c.deref-4.ensures.value)
          (sym (ap (map (λ (a : Node). a)) c.deref-5.ensures.value) ∙ c.if-not-are_alike-3.ensures.0 refl ∙ ap (map (λ (a : Node). a)) c.deref-6.ensures.value)
          (sym (ap (map fact_view) c.deref-7.ensures.value) ∙ c.if-not-are_alike-4.ensures.0 refl ∙ ap (map fact_view) c.deref-8.ensures.value)
          (c.same.ensures.0 t)
          ∙ c.other.view_is,
      λ same.
          c.same.ensures.1
          (same_journals c.self.inside.overtake c.other.inside.overtake c.self.inside.opening.items c.other.inside.opening.items c.self.inside.reuses.items
          c.other.inside.reuses.items c.self.inside.network c.other.inside.network ours.linked theirs.linked (c.self.view_is ∙ same ∙ sym c.other.view_is)),
    )
