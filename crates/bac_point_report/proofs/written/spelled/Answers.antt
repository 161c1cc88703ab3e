-- The vector was empty, so that it has only the spelling.
use Rattle.std.proofs.Common.{subst, sym, ap, ◌∙◌, ◌++◌}
use Rattle.bac_value.specs.Data.{IsData}
use Rattle.bac_value.specs.Views.{value_view}
use Rattle.bac_value.specs.Writing.{value_spelling}
use Rattle.bac_store.proofs.ValueData.{value_is_data}
use Rattle.bac_point_report.proofs.written.spelled.Goals as goal

pub invariant_of-result : goal.invariant_of-result
invariant_of-result c =
    let e = c.in_ok-write_value.ensures.ok in
    let is = e.is ∙ ap (λ xs. xs ++ value_spelling (value_view c.args.value.now)) c.new-octets.ensures.items in
    record { whole = ∣ subst IsData (sym is) (value_is_data (value_view c.args.value.now) _ e.spelled) ∣₁ }
