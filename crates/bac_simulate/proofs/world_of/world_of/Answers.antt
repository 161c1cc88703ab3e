-- Nothing but memory speaks against the network.
use Rattle.std.proofs.Common.{◌≡◌, refl, ◌≤◌, ◌+◌, ◌*◌, arith}
use Rattle.bac_network.specs.declared.fault.NewWorldFault.{NewWorldFault}
use Rattle.bac_network.specs.declared.fault.NewWorldFault.TheVariants as fault
use Rattle.bac_simulate.proofs.Making.{memory_alone, world_made}
use Rattle.bac_simulate.specs.Views.{setting_view}
use Rattle.bac_simulate.proofs.world_of.world_of.Goals as goal

same : (f : NewWorldFault) → f ≡ fault.NoMemory → f ≡ fault.SameLink → ⊥
same f a b = cc

slots : (f : NewWorldFault) → f ≡ fault.NoMemory → f ≡ fault.BadSlots → ⊥
slots f a b = cc

window : (f : NewWorldFault) → f ≡ fault.NoMemory → f ≡ fault.BadWindow → ⊥
window f a b = cc

bound : (f : NewWorldFault) → f ≡ fault.NoMemory → f ≡ fault.BadBound → ⊥
bound f a b = cc

pub unreachable-requires : goal.unreachable-requires
unreachable-requires c =
    let few : c.from.result + 2 * c.args.setting.now.window ≤ 255 = omega (arith, c.from.ensures, c.requires.bound) in
    let f = c.in-Err-SameLink.field-0 in
    same f (memory_alone _ f c.from.result c.args.setting.now.window c.args.setting.now.nodes _ c.in_ok-nodes.ensures c.requires.least c.requires.most few
    c.in-Err-SameLink.ensures.refused) c.in-Err-SameLink.field-0-is

pub unreachable-requires-in-Err-BadSlots : goal.unreachable-requires-in-Err-BadSlots
unreachable-requires-in-Err-BadSlots c =
    let few : c.from.result + 2 * c.args.setting.now.window ≤ 255 = omega (arith, c.from.ensures, c.requires.bound) in
    let f = c.in-Err-BadSlots.field-0 in
    slots f (memory_alone _ f c.from.result c.args.setting.now.window c.args.setting.now.nodes _ c.in_ok-nodes.ensures c.requires.least c.requires.most few
    c.in-Err-BadSlots.ensures.refused) c.in-Err-BadSlots.field-0-is

pub unreachable-requires-in-Err-BadWindow : goal.unreachable-requires-in-Err-BadWindow
unreachable-requires-in-Err-BadWindow c =
    let few : c.from.result + 2 * c.args.setting.now.window ≤ 255 = omega (arith, c.from.ensures, c.requires.bound) in
    let f = c.in-Err-BadWindow.field-0 in
    window f (memory_alone _ f c.from.result c.args.setting.now.window c.args.setting.now.nodes _ c.in_ok-nodes.ensures c.requires.least c.requires.most few
    c.in-Err-BadWindow.ensures.refused) c.in-Err-BadWindow.field-0-is

pub unreachable-requires-in-Err-BadBound : goal.unreachable-requires-in-Err-BadBound
unreachable-requires-in-Err-BadBound c =
    let few : c.from.result + 2 * c.args.setting.now.window ≤ 255 = omega (arith, c.from.ensures, c.requires.bound) in
    let f = c.in-Err-BadBound.field-0 in
    bound f (memory_alone _ f c.from.result c.args.setting.now.window c.args.setting.now.nodes _ c.in_ok-nodes.ensures c.requires.least c.requires.most few
    c.in-Err-BadBound.ensures.refused) c.in-Err-BadBound.field-0-is

pub returns-in-Ok : goal.returns-in-Ok
returns-in-Ok c = world_made _ (setting_view c.args.setting.now) c.from.result _ _ refl c.from.ensures c.in_ok-nodes.ensures c.in-Ok.ensures.made
