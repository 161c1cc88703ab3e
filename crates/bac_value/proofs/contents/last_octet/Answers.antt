use Rattle.std.proofs.Common.{arith, ap, length, length-drop, ◌-◌}
use Rattle.bac_value.proofs.contents.last_octet.Goals as goal

pub unreachable-requires : goal.unreachable-requires
unreachable-requires g c =
    let xs = g.O.Octets.octets c.args.octets in
    omega (arith, ap length c.in-None.ensures, ap length c.split-last.ensures.after, length-drop (c.len.result - 1) xs, c.len.ensures.count, c.requires)
