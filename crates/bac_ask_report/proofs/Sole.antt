-- Two elements or more have no only one.
use Rattle.std.proofs.Common.{◌≡◌, ◌≤◌, List, [], ◌∷◌, None, length, arith, refl}
use Rattle.serde_json.specs.View.{items_view}
use Rattle.serde_json.specs.declared.value.Value.{Value}
use Rattle.bac_ask_report.specs.Rows.{sole_value}

pub not_one : (elements : List Value) → 2 ≤ length elements → sole_value (items_view elements) ≡ None
not_one [] many = absurd (omega (arith, many))
not_one (x ∷ []) many = absurd (omega (arith, many))
not_one (x ∷ y ∷ elements) many = refl
