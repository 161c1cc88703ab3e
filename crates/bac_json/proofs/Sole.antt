-- Two elements or more have no only one.
use Rattle.std.proofs.Common.{◌≡◌, ◌≤◌, ℕ, List, [], ◌∷◌, length, arith, refl}
use Rattle.serde_json.specs.Data.{null}
use Rattle.serde_json.specs.View.{items_view}
use Rattle.serde_json.specs.declared.value.Value.{Value}
use Rattle.bac_json.specs.Values.{sole_member}

pub not_one : (name : List ℕ) (elements : List Value) → 2 ≤ length elements → sole_member name (items_view elements) ≡ null
not_one name [] many = absurd (omega (arith, many))
not_one name (x ∷ []) many = absurd (omega (arith, many))
not_one name (x ∷ y ∷ elements) many = refl
