use Rattle.std.proofs.Common.{◌≤◌, length, sym, subst, arith}
use Rattle.std.specs.Io.BufRead.{FillKeeps}
use Rattle.bac_capture.specs.Runs.{RUN_LIMIT}
use Rattle.bac_capture.proofs.Runs.{nothing_taken, part_taken, dropped, kept_short}
use Rattle.bac_capture.proofs.run.take_part.Goals as goal

pub returns-then-is_interrupted-clause-taken : goal.returns-then-is_interrupted-clause-taken
returns-then-is_interrupted-clause-taken g c = nothing_taken _ _ c.args.kept.now.items c.args.count c.fill_buf.follows.holds-at-none.0

pub returns-clause-taken : goal.returns-clause-taken
returns-clause-taken g c =
    let rested = c.fill_buf.follows.lender-at-none in
    let filled = subst (FillKeeps _ (g.R.Read.remaining rested) (g.R.BufRead.consumable_len rested)) c.in-Ok.is c.fill_buf.follows.holds-at-none in
    let shown = c.in-Ok.available.now in
    let gone = dropped _ _ _ _ shown c.min-len.result (omega (arith, c.min-len.ensures)) filled.0 filled.1 c.consume.ensures.bytes in
    part_taken _ _ shown c.args.kept.now.items _ c.min-len.result c.args.count c.in-Ok.ensures.front c.in-Ok.ensures.end
    (omega (arith, c.min-len.ensures)) gone c.in_ok-keep.ensures

pub returns-clause-short : goal.returns-clause-short
returns-clause-short g c = subst (λ l. length l ≤ RUN_LIMIT) (sym c.in_ok-keep.ensures) (kept_short _)
