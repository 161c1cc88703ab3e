-- Nothing but memory speaks against the network.
use Rattle.std.proofs.Common.{◌≡◌, ◌∙◌, refl, ◌≤◌, ◌+◌, ◌*◌, arith, map}
use Rattle.bac_simulate.proofs.Starting.{clocks_memory_alone, clock_world_made}
use Rattle.bac_simulate.specs.Views.{line_view, setting_view}
use Rattle.bac_simulate.proofs.world_of.clock_world_of.Goals as goal

pub memory_alone-requires : goal.memory_alone-requires
memory_alone-requires c =
    let few : c.from.result + 2 * c.args.setting.now.window ≤ 255 = omega (arith, c.from.ensures, c.requires.bound) in
    clocks_memory_alone _ c.in-Err.fault (map line_view c.args.lines.now) c.from.result c.args.setting.now.window c.args.setting.now.nodes _ _
    c.in_ok-nodes.ensures (c.deref.ensures.value ∙ c.in_ok-starts.ensures) c.requires.least c.requires.most few c.in-Err.ensures.refused

pub returns-in-Ok : goal.returns-in-Ok
returns-in-Ok c =
    clock_world_made _ (setting_view c.args.setting.now) (map line_view c.args.lines.now) c.from.result _ _ _ _ refl c.from.ensures c.in_ok-nodes.ensures
    c.deref.ensures.value c.in_ok-starts.ensures c.in-Ok.ensures.made
