use Rattle.std.proofs.Common.{arith, ◌≡◌, ◌+◌, ◌-◌, ◌++◌, min, length, take, drop, get_or, ap, ◌∙◌, length-append, ℕ}
use Rattle.std.specs.Global.{Vec}
use Rattle.bac_value.specs.Octets.{joined}
use Rattle.bac_value.proofs.Joined.{copied, joined_rest}
use Rattle.bac_value.proofs.parts.append_pieces.Goals as goal

pub loop-part-preserved : goal.loop-part-preserved
loop-part-preserved c =
    let ps = c.args.parts.now in
    let i = c.loop-part.part-index in
    let p = c.part-item.result in
    let inv = c.loop-part.invariant in
    let skip = c.loop-part.skip in
    let left = c.loop-part.left in
    let over = c.min-over.result in
    let here = c.in_ok-here.here in
    let e : c.deref.result.now ≡ (get_or ps i p).items = c.deref.ensures.value ∙ ap (λ (x : Vec ℕ). x.items) c.part-item.is in
    let count : here ≡ min left (length c.deref.result.now - over) = c.in_ok-here.ensures.count in
    let o : over ≡ min skip (length (get_or ps i p).items) = omega (arith, ap length e, c.deref.ensures.len, c.len.ensures, c.min-over.ensures) in
    let h : here ≡ min left (length (get_or ps i p).items - over) = omega (arith, ap length e, count) in
    let is : c.append_piece.new.out.items ≡ c.loop-part.out.items ++ take here (drop over (get_or ps i p).items) =
    c.in_ok-here.ensures.ok ∙ ap (λ x. c.loop-part.out.items ++ take here (drop over x)) e in
    record {
      room = omega (
        arith,
        inv.room,
        o,
        h,
        ap length (joined_rest ps i p c.loop-part-test.true),
        length-append (get_or ps i p).items (joined (drop (i + 1) ps)),
      );
      same = copied ps i p c.loop-part.out.items c.append_piece.new.out.items _ skip left over here c.loop-part-test.true o h is inv.same;
      ample = omega (arith, inv.ample, h, c.in_ok-here.ensures.len, c.append_piece.ensures.grows);
    }
