-- The piece starts within the octets.
use Rattle.std.proofs.Common.{◌*◌, length, arith, ap, take, drop}
use Rattle.bac_segment.proofs.Cut.{length-pieces_of, begins_within, piece_at-cut}
use Rattle.bac_segment.proofs.outgoing.Outgoing.piece.Goals as goal

pub overflow_mul-n : goal.overflow_mul-n
overflow_mul-n c =
    let inside = rw (← c.self.view_is, length-pieces_of c.self.inside.size c.self.inside.octets.items) at c.requires in
    let begins = begins_within c.self.inside.size c.args.n c.self.inside.octets.items c.self.invariant.some inside in
    let same = ap length c.as_slice-octets.ensures.value in
    omega (arith, begins, same, c.as_slice-octets.type_inv)

pub part-requires : goal.part-requires
part-requires c =
    let inside = rw (← c.self.view_is, length-pieces_of c.self.inside.size c.self.inside.octets.items) at c.requires in
    let begins = begins_within c.self.inside.size c.args.n c.self.inside.octets.items c.self.invariant.some inside in
    let same = ap length c.as_slice-octets.ensures.value in
    omega (arith, begins, same)

pub returns : goal.returns
returns c =
    let inside = rw (← c.self.view_is, length-pieces_of c.self.inside.size c.self.inside.octets.items) at c.requires in
    let is = piece_at-cut _ c.self.inside.size c.args.n c.self.inside.octets.items inside in
    rw (← c.self.view_is, is, c.part.ensures)
    (ap (λ l. take c.self.inside.size (drop (c.args.n * c.self.inside.size) l)) c.as_slice-octets.ensures.value)
