-- The log tells whether the ask has ended.
use Rattle.std.proofs.Common.{◌∙◌, sym, ap, subst, inl, arith}
use Rattle.bac_liveness.specs.StraightRuns.{ending_in}
use Rattle.bac_network.specs.Logs.{IsSince}
use Rattle.bac_network.proofs.StraightGoing.{copies_many, some_none}
use Rattle.bac_network.proofs.running.is_over.Goals as goal

pub ending_of-requires : goal.ending_of-requires
ending_of-requires c = subst (IsSince c.args.since c.args.ask) (sym c.log.ensures) c.requires

pub returns-in-Some : goal.returns-in-Some
returns-in-Some c = inl (λ none. some_none _ (sym c.in-Some.ensures ∙ ap (ending_in c.args.ask) c.log.ensures ∙ none))

pub returns-in-None : goal.returns-in-None
returns-in-None c =
    let many = copies_many c.copies.result.now c.args.world.now.copies c.copies.ensures in
    (sym (ap (ending_in c.args.ask) c.log.ensures) ∙ c.in-None.ensures, omega (arith, many), omega arith)
