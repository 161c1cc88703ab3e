-- What a call makes of what is behind a handle.
use Rattle.std.specs.Prelude.{◌≡◌, ◌≢◌, ◌↔◌, ◌<◌, ℕ, List, [], Option, None, MatchOption}
use Rattle.bac_world.specs.Node.{Node, Outcome}
use Rattle.bac_node.specs.Memory.{IsWithin}
use Rattle.bac_transaction.specs.Views.{rules_view}
use Rattle.bac_node.specs.Serving.{NodeHearsBy}
use Rattle.bac_node.specs.Views.{outcome_view}
use Rattle.bac_c.specs.Statuses.{CLOCK_BACK, NOT_OPEN, NOT_STARTED}
use Rattle.bac_c.specs.declared.device.Device.{Device}

-- a handle holds a device, and this holds of it
abbrev pub Holds : (Device → Type 0) → Option Device → Type 0
Holds p held = MatchOption held ⊥ p

-- a device whose node is not started
abbrev pub IsIdle : Device → Type 0
IsIdle d = d.node ≡ None

-- a device whose node is started
abbrev pub IsRunning : Device → Type 0
IsRunning d = d.node ≢ None

-- its node is started, and this holds of it
abbrev pub Runs : (Node → Type 0) → Device → Type 0
Runs p d = MatchOption d.node ⊥ p

-- the rules that its node is told at each call
abbrev pub HasRulesOf : Device → Device → Type 0
HasRulesOf d e = e.rules ≡ d.rules

-- a node ran before and runs after, with the same rules, and what came of it is there to be read
abbrev pub Ran : (Node → Node → Outcome → Type 0) → Device → Device → Type 0
Ran goes d e = MatchOption d.node ⊥ (λ m. MatchOption e.node ⊥ (λ n. goes m n (outcome_view e.outcome))) × HasRulesOf d e

abbrev pub HasRun : (Node → Node → Outcome → Type 0) → (old new : Option Device) → Type 0
HasRun goes old new = MatchOption old ⊥ (λ d. MatchOption new ⊥ (λ e. Ran goes d e))

-- a datagram came to a node of these rules
abbrev pub Heard : (now : ℕ) → (from octets : List ℕ) → Device → Device → Type 0
Heard now from octets d e = Ran (NodeHearsBy (rules_view d.rules) now from octets) d e

-- its node keeps no more octets than before, or no more than it may
abbrev pub KeepsSoMuch : Device → Device → Type 0
KeepsSoMuch d e = MatchOption d.node ⊥ (λ m. MatchOption e.node ⊥ (IsWithin d.rules.memory m))

abbrev pub HasKept : (old new : Option Device) → Type 0
HasKept old new = MatchOption old ⊥ (λ d. MatchOption new ⊥ (KeepsSoMuch d))

abbrev pub HasHeard : (now : ℕ) → (from octets : List ℕ) → (old new : Option Device) → Type 0
HasHeard now from octets old new = MatchOption old ⊥ (λ d. MatchOption new ⊥ (Heard now from octets d))

-- nothing that came of a call is there to be read
pub record IsQuiet (d : Device) : Type 0 where
  pub sends : d.outcome.sends.items ≡ []
  pub effect : d.outcome.effect ≡ None
  pub ended : d.outcome.ended.items ≡ []
  pub dropped : d.outcome.dropped ≡ None

-- a device that has just started: nothing that came of a call is there to be read, and no objects are listed any more
pub record IsFresh (d : Device) : Type 0 where
  pub quiet : IsQuiet d
  pub unlisted : d.listed.items ≡ []

-- the same, and no cells are listed any more either
pub record IsFreshWithCells (d : Device) : Type 0 where
  pub fresh : IsFresh d
  pub unkept : d.kept ≡ []

-- what the status of a datagram or of a tick says, at that moment, of what is behind the handle
pub record IsTurnStatus (now : ℕ) (held : Option Device) (status : ℕ) : Type 0 where
  pub closed : (status ≡ NOT_OPEN) ↔ (held ≡ None)
  pub idle : (status ≡ NOT_STARTED) ↔ Holds IsIdle held
  pub early : (status ≡ CLOCK_BACK) ↔ Holds (Runs (λ n. now < n.latest)) held
