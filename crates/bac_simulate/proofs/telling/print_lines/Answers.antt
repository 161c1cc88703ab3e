use Rattle.std.proofs.Common.{◌<◌, ◌+◌, true, false, length, refl, arith}
use Rattle.std.proofs.lemmas.Option.{slice_get_read}
use Rattle.bac_simulate.specs.Told.{told_in}
use Rattle.bac_simulate.proofs.ToldTexts.{no_line_told}
use Rattle.bac_simulate.proofs.Stepping.{goes_on, stops}
use Rattle.bac_simulate.proofs.telling.print_lines.Goals as goal

pub returns-then-not-branch : goal.returns-then-not-branch
returns-then-not-branch g c =
    let at = c.loop-place in
    let e = c.index-lines-place.result in
    let lt : at.place < length c.args.lines.now = omega arith in
    at.invariant false c.print_line.new.world _
    (stops (told_in c.args.style) (c.args.before + 1 + at.place) c.args.lines.now at.place e (slice_get_read c.args.lines.now _ at.place e refl lt c.index-lines-place.is)
    at.world c.print_line.new.world _ _ _ c.if-not-branch.true c.in_ok-print_line.ensures)

pub loop-place-preserved : goal.loop-place-preserved
loop-place-preserved g c =
    let at = c.loop-place in
    let e = c.index-lines-place.result in
    let lt : at.place < length c.args.lines.now = omega arith in
    λ all new end h. at.invariant all new end
    (goes_on (told_in c.args.style) all (c.args.before + 1 + at.place) c.args.lines.now at.place e
    (slice_get_read c.args.lines.now _ at.place e refl lt c.index-lines-place.is) at.world c.print_line.new.world new _ _ end _ c.if-not-branch.false
    c.in_ok-print_line.ensures (c.args.before + 1 + (at.place + 1)) (omega arith) h)

pub returns : goal.returns
returns g c =
    let at = c.loop-place in
    at.invariant true at.world _ (no_line_told (told_in c.args.style) (c.args.before + 1 + at.place) c.args.lines.now at.place (omega arith) at.world _)
