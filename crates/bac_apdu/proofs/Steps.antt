-- What the steps of reading an APDU consume, in addition to those of bac_value.
use Rattle.std.proofs.Common.{◌≡◌, List, [], ◌∷◌, Result, Ok, Err, refl, ap, ℕ}
use Rattle.bac_value.specs.declared.fault.FaultKind.{FaultKind}
use Rattle.bac_value.proofs.Steps.{ok_is}
use Rattle.bac_apdu.specs.Apdu.{Apdu}
use Rattle.bac_apdu.specs.Reading.{from_value, end_at}

pub from_value_ok : {A : Type 0} (r : Result A FaultKind) (x : A) → from_value r ≡ Ok x → r ≡ Ok x
from_value_ok (Ok y) x e = ap Ok (ok_is y x e)
from_value_ok (Err d) x e = absurd cc

pub end_ok : (rest : List ℕ) (a b : Apdu) → end_at rest a ≡ Ok b → (rest ≡ []) × (a ≡ b)
end_ok [] a b e = (refl, ok_is a b e)
end_ok (x ∷ rest) a b e = absurd cc
