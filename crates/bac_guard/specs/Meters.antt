-- What counts of what comes and goes: all, or all but what goes to the loopback and comes from there.
use Rattle.std.specs.Prelude.{◌≡◌, ℕ, ◌&&◌, Bool, true, List, Option, Some, None, MatchOption, if◌then◌else◌}
use Rattle.bac_driver.specs.Moments.{Told, with_moment}
use Rattle.bac_guard.specs.Addresses.{host_of}
use Rattle.bac_guard.specs.Sources.{is_loopback}
use Rattle.bac_guard.specs.Buckets.{Event}
use Rattle.bac_guard.specs.Buckets.Event.{Came, Goes}
use Rattle.bac_guard.specs.Budgets.{Table, fits_at, table_after, traffic}
use Rattle.bac_guard.specs.declared.meter.Meter as code

-- the moments that its clock gave, its table if what is sent is bounded, and whether the loopback is free
pub record Meter : Type 0 where
  pub told : Told
  pub table : Option Table
  pub spares : Bool

abbrev pub meter_view : {C : Type 0} → (told : C → Told) → code.Meter C → Meter
meter_view told m = record { told = told m.clock; table = m.budget; spares = m.spares_loopback }

-- the table that counts for a link, if one does
abbrev pub table_for : Meter → (link : List ℕ) → Option Table
table_for m link = if m.spares && is_loopback (host_of link) then None else m.table

-- what happened at a moment of the clock is counted in the table
pub record IsCountedIn (t : Table) (link : List ℕ) (now : ℕ) (event : Event) (old new : Meter) : Type 0 where
  pub told : new.told ≡ with_moment old.told now
  pub table : new.table ≡ Some (table_after (traffic (host_of link) event) t)
  pub spares : new.spares ≡ old.spares

pub record Credits (t : Table) (link : List ℕ) (octets : ℕ) (old new : Meter) : Type 0 where
  pub now : ℕ
  pub counted : IsCountedIn t link now (Came now octets) old new

-- so many octets came from a link
abbrev pub IsCredited : (link : List ℕ) → (octets : ℕ) → (old new : Meter) → Type 0
IsCredited link octets old new = MatchOption (table_for old link) (new ≡ old) (λ t. Credits t link octets old new)

pub record Spends (t : Table) (link : List ℕ) (octets : ℕ) (fits : Bool) (old new : Meter) : Type 0 where
  pub now : ℕ
  pub fitting : fits ≡ fits_at t (host_of link) now octets
  pub counted : IsCountedIn t link now (Goes now octets) old new

-- so many octets are to go to a link; whether they fit
abbrev pub IsSpent : (link : List ℕ) → (octets : ℕ) → (fits : Bool) → (old new : Meter) → Type 0
IsSpent link octets fits old new =
    MatchOption (table_for old link) ((fits ≡ true) × (new ≡ old)) (λ t. Spends t link octets fits old new)
