use Rattle.std.proofs.Common.{arith, length, ◌<◌}
use Rattle.std.proofs.Math.Logic.{∥∥₁_map, ∥∥₁_elim}
use Rattle.bac_value.proofs.Elements.{element_takes}
use Rattle.bac_value.proofs.ElementLists.{no_element, elements_after}
use Rattle.bac_value.proofs.data_elements.DataElements.split_first.Goals as goal

pub invariant_of-result : goal.invariant_of-result
invariant_of-result c =
    let some : 0 < length c.args.self.octets.now = omega (arith, c.slice_len.ensures.count) in
    record { whole = ∥∥₁_map c.args.self.whole (elements_after c.args.self.octets.now _ some c.in-Ok.ensures.reads.1) }

pub unreachable-requires : goal.unreachable-requires
unreachable-requires c =
    let some : 0 < length c.args.self.octets.now = omega (arith, c.slice_len.ensures.count) in
    ∥∥₁_elim c.args.self.whole (λ x y. absurd x) (no_element c.args.self.octets.now c.in-Err.field-0 some c.in-Err.ensures.reads)

pub returns : goal.returns
returns c =
    let t = element_takes c.args.self.octets.now _ c.slice_len.ensures.each c.in-Ok.ensures.reads.1 in
    (t.1, t.0.parts)
