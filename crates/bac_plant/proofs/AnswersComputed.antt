-- The examples, computed.
use Rattle.std.proofs.Common.{◌≡◌, ℕ, Bool, true, false, List, [], ◌∷◌, Some, if◌then◌else◌, nat_eq, refl, inl, inr}
use Rattle.bac_service.specs.Values.{Request}
use Rattle.bac_world.specs.Examples.{CHANGE, FILES, FILE_OF, STORES}
use Rattle.bac_world.specs.Once.{Has}
use Rattle.bac_world.specs.Once.Fact.{Asked, Changed, Performed}
use Rattle.bac_plant.specs.AnswersExamples.{AnsweredBySecond, FIRST, READ, SECOND}

-- a node's file becomes one of other octets, or stays
becomes : (old new : List ℕ) (node : ℕ) → FILE_OF new node ≡ (if nat_eq node 2 then Some (FILES new) else FILE_OF old node)
becomes old new node = go (nat_eq node 2)
  where
    go : (b : Bool) → (if b then Some (FILES new) else STORES node) ≡ (if b then Some (FILES new) else if b then Some (FILES old) else STORES node)
    go true = refl
    go false = refl

differ : FIRST ≡ SECOND → ⊥
differ e = absurd cc

first_alone : {r : Request} → Has (Performed 0 r FIRST) (Performed 0 READ SECOND ∷ Asked 0 0 2 READ ∷ Changed 2 CHANGE ∷ []) → ⊥
first_alone (inl e) = absurd cc
first_alone (inr (inl e)) = absurd cc
first_alone (inr (inr (inl e))) = absurd cc
first_alone (inr (inr (inr h))) = h

pub answered_by_second : AnsweredBySecond
answered_by_second = record {
  second = (
    FILE_OF (1 ∷ 2 ∷ []),
    ((READ, inl refl), tt, λ node. refl),
    (
      FILE_OF (1 ∷ 2 ∷ []),
      record {
        client = 0;
        server = 2;
        store = FILES (1 ∷ 2 ∷ []);
        asked = inr (inr (inl refl));
        first = inr (refl, refl);
        at = refl;
        reply = refl;
        stores = becomes (1 ∷ 2 ∷ []) (1 ∷ 2 ∷ []);
      },
      (
        FILE_OF [],
        record { store = FILES []; at = refl; permitted = refl; stores = becomes [] (1 ∷ 2 ∷ []) },
        (
          FILE_OF [],
          record { client = 0; server = 2; store = FILES []; asked = inl refl; first = inl tt; at = refl; reply = refl; stores = becomes [] [] },
          (FILE_OF [], (refl, λ node. refl), λ node. refl),
        ),
      ),
    ),
  );
  other = differ;
  before = λ stores h. first_alone h.1.0.1;
}
