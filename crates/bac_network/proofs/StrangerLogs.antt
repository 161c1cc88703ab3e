-- The logs of strangers, computed.
use Rattle.std.proofs.Common.{◌≡◌, ℕ, zero, suc, Bool, true, false, Some, None, if◌then◌else◌, nat_eq, refl, inl}
use Rattle.bac_world.specs.AnsweredRun.{OPENING, link}
use Rattle.bac_world.specs.Examples.{STORE, STORES}
use Rattle.bac_world.specs.World.{IsOfNone}
use Rattle.bac_network.specs.StrangerLogs.{RightStrangers, WrongStrangers}

-- a request that reads leaves the store
stays : (node : ℕ) → STORES node ≡ (if nat_eq node 1 then Some STORE else STORES node)
stays node = go (nat_eq node 1)
  where
    go : (b : Bool) → (if b then Some STORE else None) ≡ (if b then Some STORE else if b then Some STORE else None)
    go true = refl
    go false = refl

-- link 2 is that of no node
of_none : IsOfNone OPENING.nodes (link 2)
of_none zero e = let is : link 0 ≡ link 2 = cc in cc
of_none (suc zero) e = let is : link 1 ≡ link 2 = cc in cc
of_none (suc (suc j)) e = absurd cc

pub wrong_strangers : WrongStrangers
wrong_strangers = record {
  twice_once = (
    STORES,
    record { store = STORE; at = refl; reply = refl; stores = stays },
    (
      STORES,
      record { client = 0; server = 1; store = STORE; asked = inl refl; first = tt; at = refl; reply = refl; stores = stays },
      (STORES, (refl, λ node. refl), λ node. refl),
    ),
  );
  away_once = (STORES, (refl, λ node. refl), λ node. refl);
  twice = λ h. h.0 0 refl;
  away = λ h. h.0 1 refl;
}

pub right_strangers : RightStrangers
right_strangers = record {
  far_once = (
    STORES,
    record { store = STORE; at = refl; reply = refl; stores = stays },
    (STORES, (refl, λ node. refl), λ node. refl),
  );
  far = (of_none, (of_none, tt));
}
