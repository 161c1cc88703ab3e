-- When a store is created from objects.
use Rattle.std.specs.Prelude.{List}
use Rattle.std.specs.List.{All}
use Rattle.bac_store.specs.declared.store_fault.StoreFault.{StoreFault}
use Rattle.bac_store.specs.declared.store_fault.StoreFault.TheVariants as fault
use Rattle.bac_store.specs.Stores.{Store, Object}
use Rattle.bac_store.specs.Objects.{AreDistinct, IsRightBy, IsStoreOf}
use Rattle.bac_store.specs.declared.rule.Rule.{Rule}
use Rattle.bac_store.specs.declared.rule.Rule.TheVariants as rule

-- by the rule, the objects can be a store, and this is that store
pub record IsMadeBy (r : Rule) (objects : List Object) (s : Store) : Type 0 where
  pub distinct : AreDistinct objects
  pub right : All (IsRightBy r) objects
  pub store : IsStoreOf objects s

pub record IsBadBy (r : Rule) (objects : List Object) : Type 0 where
  pub distinct : AreDistinct objects
  pub wrong : All (IsRightBy r) objects → ⊥

pub record IsGoodBy (r : Rule) (objects : List Object) : Type 0 where
  pub distinct : AreDistinct objects
  pub right : All (IsRightBy r) objects

-- why no store is created from the objects
abbrev pub IsRefusedBy : Rule → List Object → StoreFault → Type 0
IsRefusedBy r objects fault.Duplicate = AreDistinct objects → ⊥
IsRefusedBy r objects fault.BadObject = IsBadBy r objects
IsRefusedBy r objects fault.NoMemory = IsGoodBy r objects

-- the same by the profile's rule
abbrev pub IsMadeOf : List Object → Store → Type 0
IsMadeOf = IsMadeBy rule.Profile

abbrev pub IsRefused : List Object → StoreFault → Type 0
IsRefused = IsRefusedBy rule.Profile
