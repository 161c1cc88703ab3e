-- Where nodes have no rules of their own, all facts are older than the next ask.
use Rattle.std.proofs.Common.{◌≡◌, [], inr, sym, ◌∙◌, arith}
use Rattle.bac_network.proofs.Entered.{nothing_left}
use Rattle.bac_network.proofs.StraightGoing.{facts_many}
use Rattle.bac_network.proofs.running.facts_before.Goals as goal

pub returns-then-is_empty : goal.returns-then-is_empty
returns-then-is_empty c =
    let empty : c.reuses.result.now ≡ [] = nothing_left c.reuses.result.now (grind (arith, c.is_empty.ensures, c.if-is_empty.true)) in
    inr (sym c.reuses.ensures ∙ empty, facts_many c.log.result.now c.args.world.now.log c.log.ensures)
