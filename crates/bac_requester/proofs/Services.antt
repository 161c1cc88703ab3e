-- Which replies the services have, by their choices.
use Rattle.std.proofs.Common.{◌≡◌, ℕ, ◌==◌, ◌||◌, Bool, true, false, Option, Some, None, if◌then◌else◌, refl}
use Rattle.bac_service.specs.declared.service.Service.{Service}
use Rattle.bac_service.specs.declared.service.TheConstants.{ATOMIC_READ_FILE, ATOMIC_WRITE_FILE, READ_PROPERTY, WRITE_PROPERTY}
use Rattle.bac_service.specs.Choices.{has_complex_ack, has_simple_ack}
use Rattle.bac_service.specs.Services.{service_at}

module _ (r w p q : Service) where
  abbrev chosen : Bool → Bool → Bool → Bool → Option Service
  chosen a b c d = if a then Some r else (if b then Some w else (if c then Some p else (if d then Some q else None)))

  no_complex : (a b c d : Bool) → chosen a b c d ≡ None → (a || (b || c)) ≡ false
  no_complex true b c d e = absurd cc
  no_complex false true c d e = absurd cc
  no_complex false false true d e = absurd cc
  no_complex false false false d e = refl

  no_simple : (a b c d : Bool) → chosen a b c d ≡ None → d ≡ false
  no_simple true b c d e = absurd cc
  no_simple false true c d e = absurd cc
  no_simple false false true d e = absurd cc
  no_simple false false false true e = absurd cc
  no_simple false false false false e = refl

-- a choice of no service has neither
pub none_complex : (choice : ℕ) → service_at choice ≡ None → has_complex_ack choice ≡ false
none_complex choice e =
    no_complex _ _ _ _ (choice == ATOMIC_READ_FILE) (choice == ATOMIC_WRITE_FILE) (choice == READ_PROPERTY) (choice == WRITE_PROPERTY) e

pub none_simple : (choice : ℕ) → service_at choice ≡ None → has_simple_ack choice ≡ false
none_simple choice e =
    no_simple _ _ _ _ (choice == ATOMIC_READ_FILE) (choice == ATOMIC_WRITE_FILE) (choice == READ_PROPERTY) (choice == WRITE_PROPERTY) e
