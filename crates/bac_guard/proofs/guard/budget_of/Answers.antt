-- The budget is the one of the rate that is there.
use Rattle.std.proofs.Common.{ℕ, Some, ap, sym, ◌∙◌}
use Rattle.std.specs.Option.{option_map}
use Rattle.bac_guard.specs.Budgets.{Table, new_table}
use Rattle.bac_guard.proofs.guard.budget_of.Goals as goal

pub returns-in-Ok : goal.returns-in-Ok
returns-in-Ok c =
    ap (λ (t : Table). Some t) c.in-Ok.ensures ∙ ap (option_map (λ (r : ℕ). new_table c.args.key r c.args.began)) (sym c.in-Some.is)
