use Rattle.std.proofs.Common.{◌≡◌, ◌<◌, [], length, true, false, Bool, subst, arith}
use Rattle.bac_shown.specs.Going.{Puts}
use Rattle.bac_shown.specs.Pieces.{Turns}
use Rattle.bac_shown.proofs.Showing.{open_is_short}
use Rattle.bac_shown.proofs.Steps.{puts_begun, puts_empty, puts_stepped, turned_is_open, turned_is_smaller}
use Rattle.bac_shown.proofs.sending.settle.Goals as goal

pub loop-waiting-smaller : goal.loop-waiting-smaller
loop-waiting-smaller g c =
    let turns = subst (λ (m : Bool). Turns c.args.form c.loop-waiting.held.items c.turn.new.held.items c.turn.new.waiting.items m) c.if-branch.true c.in_ok-turn.ensures.ok in
    omega (arith, turned_is_smaller c.args.form c.loop-waiting.held.items c.turn.new.held.items c.turn.new.waiting.items turns, c.loop-waiting.held.ok, c.turn.new.held.ok)

pub loop-waiting-preserved : goal.loop-waiting-preserved
loop-waiting-preserved g c =
    let turns = subst (λ (m : Bool). Turns c.args.form c.loop-waiting.held.items c.turn.new.held.items c.turn.new.waiting.items m) c.if-branch.true c.in_ok-turn.ensures.ok in
    record {
      put = puts_empty _ _ _ _ _ _ _
          (puts_stepped _ _ _ _ _ _ _ [] _ _ c.loop-waiting.invariant.put turns c.send-in-loop-waiting.ensures.kept) c.in_ok-send-2.ensures.sent;
      sent = c.in_ok-send-2.ensures.sent;
    }

pub returns-in_err-send-2-clause-kept : goal.returns-in_err-send-2-clause-kept
returns-in_err-send-2-clause-kept g c =
    let turns = subst (λ (m : Bool). Turns c.args.form c.loop-waiting.held.items c.turn.new.held.items c.turn.new.waiting.items m) c.if-branch.true c.in_ok-turn.ensures.ok in
    puts_begun _ _ _ _ _ _ _ _ _ c.send.ensures.kept c.in_ok-send.ensures.sent
    (puts_stepped _ _ _ _ _ _ _ [] _ _ c.loop-waiting.invariant.put turns c.send-in-loop-waiting.ensures.kept)

pub returns-clause-open : goal.returns-clause-open
returns-clause-open g c =
    let turns = subst (λ (m : Bool). Turns c.args.form c.loop-waiting.held.items c.turn.new.held.items c.turn.new.waiting.items m) c.if-branch.false c.in_ok-turn.ensures.ok in
    (turned_is_open c.args.form c.loop-waiting.held.items c.turn.new.held.items c.turn.new.waiting.items turns).0

pub returns-clause-few : goal.returns-clause-few
returns-clause-few g c = open_is_short c.turn.new.held.items (returns-clause-open g c)
