use Rattle.std.proofs.Common.{◌<◌, ◌+◌, true, false, length, refl, arith}
use Rattle.std.proofs.lemmas.Option.{slice_get_read}
use Rattle.bac_simulate.proofs.Tracing.{line_passed, line_stopped, no_line}
use Rattle.bac_simulate.proofs.trace.trace_lines.Goals as goal

pub returns-then-not-branch : goal.returns-then-not-branch
returns-then-not-branch g c =
    let at = c.loop-place in
    let e = c.index-lines-place.result in
    let lt : at.place < length c.args.lines.now = omega arith in
    at.invariant false c.trace_line.new.world c.trace_line.new.marks.items
    (line_stopped (c.args.before + 1 + at.place) c.args.lines.now at.place e (slice_get_read c.args.lines.now _ at.place e refl lt c.index-lines-place.is)
    at.world c.trace_line.new.world at.marks.items c.trace_line.new.marks.items _ c.if-not-branch.true c.in_ok-trace_line.ensures)

pub loop-place-preserved : goal.loop-place-preserved
loop-place-preserved g c =
    let at = c.loop-place in
    let e = c.index-lines-place.result in
    let lt : at.place < length c.args.lines.now = omega arith in
    λ all new end h. at.invariant all new end
    (line_passed all (c.args.before + 1 + at.place) c.args.lines.now at.place e (slice_get_read c.args.lines.now _ at.place e refl lt c.index-lines-place.is)
    at.world c.trace_line.new.world new at.marks.items c.trace_line.new.marks.items end _ c.if-not-branch.false c.in_ok-trace_line.ensures
    (c.args.before + 1 + (at.place + 1)) (omega arith) h)

pub returns : goal.returns
returns g c =
    let at = c.loop-place in
    at.invariant true at.world at.marks.items
    (no_line (c.args.before + 1 + at.place) c.args.lines.now at.place (omega arith) at.world at.marks.items)
