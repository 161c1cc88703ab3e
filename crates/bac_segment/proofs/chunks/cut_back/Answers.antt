-- A vector longer than what is left to remove is shortened; the others are removed.
use Rattle.std.proofs.Common.{◌-◌, take, ap, ◌∙◌, arith}
use Rattle.bac_segment.proofs.Joined.{cut_last, drop_last}
use Rattle.bac_segment.proofs.chunks.cut_back.Goals as goal

pub returns-then-left-len : goal.returns-then-left-len
returns-then-left-len c =
    let len = c.len-then-left-len.ensures ∙ c.in-Some.last.ok.0 in
    let kept = c.truncate.ensures.items ∙ ap (λ n. take (n - c.loop-last.left) c.in-Some.last.items) len in
    cut_last c.loop-last.chunks.items c.pop.new.self.items c.in-Some.last c.truncate.new.self c.push_reserved.new.self.items c.loop-last.left
    c.in-Some.ensures.items (omega (arith, c.if-left-len.true, c.len.ensures, c.in-Some.last.ok.0)) kept c.push_reserved.ensures.items
    ∙ c.loop-last.invariant.same

pub loop-last-preserved : goal.loop-last-preserved
loop-last-preserved c =
    let len = c.len-left.ensures ∙ c.in-Some.last.ok.0 in
    let rest = drop_last c.loop-last.chunks.items c.pop.new.self.items c.in-Some.last c.loop-last.left c.in-Some.ensures.items
    (omega (arith, c.if-left-len.false, c.len.ensures, c.in-Some.last.ok.0)) c.loop-last.invariant.within in
    rw len (record { within = rest.0; same = rest.1 ∙ c.loop-last.invariant.same })
