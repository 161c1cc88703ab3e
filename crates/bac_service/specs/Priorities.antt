-- Write priorities, 1 to 16 (clause 19.2).
use Rattle.std.specs.Prelude.{ℕ, Bool, ◌&&◌, nat_lt, nat_le, ◌<◌, ◌≤◌, Option, Some, None}
use Rattle.bac_value.specs.declared.tag.Class.TheVariants.{Context}
use Rattle.bac_value.specs.Reading.{number_at}
use Rattle.bac_value.specs.Value.{IsNumber}
use Rattle.bac_service.specs.declared.stop.Why.TheVariants.{OutOfRange}
use Rattle.bac_service.specs.Members.{Octets}
use Rattle.bac_service.specs.Reading.{Read, member_at, that_at}

-- this many octets of contents encode a priority
pub record IsPriority (n : ℕ) (xs : Octets) : Type 0 where
  pub least : 0 < n
  pub most : n ≤ 16
  pub number : IsNumber 8 n xs

abbrev pub is_priority : ℕ → Bool
is_priority n = nat_lt 0 n && nat_le n 16

unfoldable pub priority_at : Octets → Read ℕ
priority_at = that_at OutOfRange is_priority (member_at Context 4 (number_at 2))

-- the abstract value of the type in code
abbrev pub IsUrgency : Option ℕ → Type 0
IsUrgency None = Unit {0}
IsUrgency (Some n) = (0 < n) × (n ≤ 16)
