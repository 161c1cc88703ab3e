-- The step of the network is one of the world.
use Rattle.std.proofs.Common.{Bool, List, refl, sym, subst}
use Rattle.bac_network.specs.Networks.{IsReadySo}
use Rattle.bac_network.specs.Rules.{reuses_by}
use Rattle.bac_network.proofs.Histories.{ready_now, ready_so_now}
use Rattle.bac_network.proofs.Stepped.{right_after, same_after, still_kept, strictly, told, went, why_not}
use Rattle.bac_network.proofs.world.World.step.Goals as goal

pub step-requires-clause-ready : goal.step-requires-clause-ready
step-requires-clause-ready c =
    ready_now c.self.inside.window c.self.inside.overtake c.self.inside.opening.items c.self.inside.reuses.items c.self.inside.network c.self.invariant

pub step-requires-clause-hears : goal.step-requires-clause-hears
step-requires-clause-hears c =
    subst (λ (l : List Bool). IsReadySo (reuses_by l) c.self.inside.window c.self.inside.overtake c.self.inside.network) (sym c.deref.ensures.value)
    (ready_so_now c.self.inside.window c.self.inside.overtake c.self.inside.opening.items c.self.inside.reuses.items c.self.inside.network c.self.invariant)

pub invariant_of-self : goal.invariant_of-self
invariant_of-self c =
    still_kept c.self.inside.window c.self.inside.overtake c.self.inside.opening.items c.self.inside.reuses.items c.self.inside.network c.step.new.self
    c.step.ensures.links c.self.invariant _ c.deref.ensures.value c.args.event.now c.step.result c.step.ensures.happens

pub returns-clause-log : goal.returns-clause-log
returns-clause-log c =
    right_after c.self.inside.window c.self.inside.overtake c.self.inside.opening.items c.self.inside.reuses.items c.self.inside.network c.step.new.self
    c.step.ensures.links c.self.invariant _ c.deref.ensures.value c.args.event.now c.step.result c.step.ensures.happens

pub returns-clause-went : goal.returns-clause-went
returns-clause-went c =
    rw (← c.self.view_is)
    (went c.self.inside.window c.self.inside.overtake c.self.inside.opening.items c.self.inside.reuses.items c.self.inside.network c.step.new.self
    c.step.ensures.links c.self.invariant _ c.deref.ensures.value c.args.event.now c.step.result c.step.ensures.happens)

pub returns-clause-told : goal.returns-clause-told
returns-clause-told c =
    rw (← c.self.view_is)
    (told c.self.inside.window c.self.inside.overtake c.self.inside.opening.items c.self.inside.reuses.items c.self.inside.network c.step.new.self
    c.step.ensures.links c.self.invariant _ c.deref.ensures.value c.args.event.now c.step.result c.step.ensures.happens)

pub returns-clause-faults : goal.returns-clause-faults
returns-clause-faults c =
    rw (← c.self.view_is)
    (why_not c.self.inside.window c.self.inside.overtake c.self.inside.opening.items c.self.inside.reuses.items c.self.inside.network c.step.new.self
    c.step.ensures.links c.self.invariant _ c.deref.ensures.value c.args.event.now c.step.result c.step.ensures.happens)

pub returns-clause-err : goal.returns-clause-err
returns-clause-err c =
    rw (← c.self.view_is)
    (same_after c.self.inside.window c.self.inside.overtake c.self.inside.opening.items c.self.inside.reuses.items c.self.inside.network c.step.new.self
    c.step.ensures.links c.self.invariant _ c.deref.ensures.value c.args.event.now c.step.result c.step.ensures.happens c.step.ensures.stays c.step.ensures.lived)

pub returns-clause-without_reuse : goal.returns-clause-without_reuse
returns-clause-without_reuse c =
    rw (← c.self.view_is)
    (strictly c.self.inside.window c.self.inside.overtake c.self.inside.opening.items c.self.inside.reuses.items c.self.inside.network c.step.new.self
    c.step.ensures.links c.self.invariant _ c.deref.ensures.value c.args.event.now c.step.result c.step.ensures.happens)

pub returns-clause-settings : goal.returns-clause-settings
returns-clause-settings c = rw (← c.self.view_is) (refl, refl, refl)
