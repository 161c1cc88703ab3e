-- A segment that comes in time.
use Rattle.std.proofs.Common.{◌≡◌, ◌<◌, ◌-◌, ℕ, false, nat_le, arith}
use Rattle.std.proofs.lemmas.Bool.Decides.{nat_tests}
use Rattle.bac_responder.proofs.server_transaction.Reassembly.on_segment.Goals as goal

in_time : (n : ℕ) → n < 8000 → nat_le 8000 n ≡ false
in_time n lt = grind (arith, nat_tests)

pub returns : goal.returns
returns c =
    let soon = in_time (c.args.context.now.moment - c.args.self.now.since) (omega (arith, c.saturating_sub.ensures, c.if-saturating_sub-ge-T_WAIT_FOR_SEG.false)) in
    rw soon c.take_segment.ensures
