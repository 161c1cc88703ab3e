-- One more segment was taken, and one more is unacknowledged.
use Rattle.std.proofs.Common.{length, ap, ◌∙◌, arith}
use Rattle.std.proofs.lemmas.List.{length_push}
use Rattle.bac_value.specs.Octets.{joined}
use Rattle.bac_segment.specs.Window.{Incoming}
use Rattle.bac_segment.proofs.Joined.{parts_are_as_many}
use Rattle.bac_segment.proofs.incoming.Incoming.on_segment.Goals as goal

pub invariant_of-self-else-step : goal.invariant_of-self-else-step
invariant_of-self-else-step c =
    let inv = c.self-in-Taken-false.invariant in
    let now = c.self-in-Taken-false.view_is ∙ c.in_ok-keep-in-Taken-false.ensures.ok in
    let fresh = ap (λ (i : Incoming). i.unacknowledged) now in
    let many = ap (λ (i : Incoming). length i.parts) now ∙ length_push c.args.self.now.parts c.args.octets.now in
    let fresh_before = ap (λ (i : Incoming). i.unacknowledged) c.self.view_is in
    let many_before = ap (λ (i : Incoming). length i.parts) c.self.view_is in
    let before = parts_are_as_many c.self.inside.lengths.items (joined c.self.inside.chunks.items) in
    let after = parts_are_as_many c.self-in-Taken-false.inside.lengths.items (joined c.self-in-Taken-false.inside.chunks.items) in
    record {
      counted = inv.counted;
      whole = inv.whole;
      short = inv.short;
      few = inv.few;
      fresh = omega (arith, fresh, many, fresh_before, many_before, before, after, c.self.invariant.fresh);
    }
