-- All windows were looked at.
use Rattle.std.proofs.Common.{arith}
use Rattle.bac_network.proofs.Makers.{greatest_end, window_some}
use Rattle.bac_network.proofs.making.greatest_window.Goals as goal

pub loop-maker-init : goal.loop-maker-init
loop-maker-init c = let some = window_some c.args.makers.now in (omega arith, omega (arith, some))

pub returns : goal.returns
returns c =
    greatest_end c.args.makers.now c.loop-maker.maker-index c.loop-maker.greatest c.loop-maker.invariant.0
    (omega (arith, c.loop-maker-test.false)) c.loop-maker.invariant.1
