-- How a node is started.
use Rattle.std.specs.Prelude.{◌≡◌, ◌≢◌, ◌↔◌, ℕ, Bool, ◌==◌, ◌&&◌, ◌||◌, if◌then◌else◌, nat_le, IsTrue, List, [], ◌∷◌, Option, Some, None, Result, IsErrOf, MatchOption, map}
use Rattle.std.specs.List.{list_all}
use Rattle.bac_apdu.specs.Spelling.{codes_fit}
use Rattle.bac_store.specs.Described.{AreDescribed, IsDescribedBy}
use Rattle.bac_store.specs.Made.{IsMadeOf, IsRefused}
use Rattle.bac_store.specs.declared.store_fault.StoreFault.TheVariants as store_fault
use Rattle.bac_store.specs.House.{house}
use Rattle.bac_store.specs.Objects.{AreDistinct}
use Rattle.bac_store.specs.Stores.{Object, Store}
use Rattle.bac_store.specs.Views.{object_view}
use Rattle.bac_world.specs.Node.{Node}
use Rattle.bac_node.specs.Fresh.{fresh_node, large_slots_fit, made_node, window_fits}
use Rattle.bac_node.specs.declared.config.Config.{Config}
use Rattle.bac_node.specs.declared.memory.TheConstants.{MEMORY}
use Rattle.bac_transaction.specs.Given as given
use Rattle.bac_transaction.specs.declared.rules.Rules.{Rules}
use Rattle.bac_c.specs.Devices.{Holds, IsIdle, IsRunning}
use Rattle.bac_c.specs.declared.device.Device.{Device}
use Rattle.bac_c.specs.declared.fault.Fault.{Fault}
use Rattle.bac_c.specs.declared.fault.Fault.TheVariants as fault
use Rattle.bac_c.specs.declared.records.Settings.{Settings}
use Rattle.bac_c.specs.declared.rule.Rule.{Rule}
use Rattle.bac_c.specs.declared.rule.Rule.TheVariants as rule
use Rattle.bac_c.specs.declared.settings.TheConstants as settings
use Rattle.bac_c.specs.Statuses.{ALREADY_STARTED, BAD_OBJECT, BAD_SETTINGS, BAD_VALUE, DONE, DUPLICATE, NOT_OPEN, NO_MEMORY}

-- the objects are no store, though no two have one identifier
abbrev pub IsBad : List Object → Type 0
IsBad objects = IsRefused objects store_fault.BadObject

-- nothing is in the room for members of later versions
abbrev pub are_zeros : List ℕ → Bool
are_zeros later = list_all (λ octet. octet == 0) later

-- how many octets a node may keep by that member: 64 MiB where it is 0
abbrev pub memory_of : (memory : ℕ) → ℕ
memory_of memory = if memory == 0 then MEMORY else memory

-- the rules by which a node serves
abbrev pub rules_by : Settings → Rules
rules_by s = record (given.rules_of s.reuse_invoke_ids) { memory = Some (memory_of s.memory) }

-- enough for a request, which needs room for 65,539 octets beside its own
abbrev pub memory_fits : (memory : ℕ) → Bool
memory_fits memory = (memory == 0) || nat_le 65540 memory

-- the settings are of this version, and each number is in its range
abbrev pub is_right : Settings → Bool
is_right s = (s.size == settings.SETTINGS_SIZE) && are_zeros s.later && memory_fits s.memory && window_fits s.window && large_slots_fit s.client_slots && large_slots_fit s.reply_slots && codes_fit s.max_segments s.max_apdu

-- the configuration says what the settings say
pub record IsConfigOf (s : Settings) (c : Config) : Type 0 where
  pub link : c.link ≡ s.link
  pub max_apdu : c.limits.max_apdu ≡ s.max_apdu
  pub takes_segments : c.limits.takes_segments ≡ s.takes_segments
  pub max_segments : c.limits.max_segments ≡ s.max_segments
  pub window : c.window ≡ s.window
  pub client_slots : c.client_slots ≡ s.client_slots
  pub reply_slots : c.reply_slots ≡ s.reply_slots

-- the objects that are listed
abbrev pub listed_in : Device → List Object
listed_in d = map object_view d.listed.items

-- ---- the rule by which objects make a store

abbrev pub makes : Rule → List Object → Store → Type 0
makes rule.Plain = IsMadeOf
makes rule.Described = IsDescribedBy

-- two have one identifier, where that has a status of its own
abbrev pub HaveTwins : Rule → List Object → Type 0
HaveTwins rule.Plain objects = AreDistinct objects → ⊥
HaveTwins rule.Described objects = ⊥

abbrev pub AreBad : Rule → List Object → Type 0
AreBad rule.Plain objects = IsBad objects
AreBad rule.Described objects = AreDescribed objects → ⊥

-- the statuses of a start that only one rule has
abbrev pub twin_statuses : Rule → List ℕ
twin_statuses rule.Plain = DUPLICATE ∷ []
twin_statuses rule.Described = []

abbrev pub start_statuses : Rule → List ℕ
start_statuses r = DONE ∷ NO_MEMORY ∷ NOT_OPEN ∷ ALREADY_STARTED ∷ BAD_SETTINGS ∷ BAD_OBJECT ∷ twin_statuses r

-- of a start with kept cells
abbrev pub kept_statuses : Rule → List ℕ
kept_statuses r = DONE ∷ NO_MEMORY ∷ NOT_OPEN ∷ ALREADY_STARTED ∷ BAD_SETTINGS ∷ BAD_OBJECT ∷ BAD_VALUE ∷ twin_statuses r

-- ---- a node that is started

-- the node is as it was made, as the settings say, with the store that these objects make; it restarts at that moment, if there is one
pub record IsStarted (Makes : List Object → Store → Type 0) (s : Settings) (restart : Option ℕ) (objects : List Object) (node : Node) : Type 0 where
  pub config : Config
  pub says : IsConfigOf s config
  pub store : Store
  pub made : Makes objects store
  pub fresh : node ≡ made_node config store restart

abbrev pub IsStartedNode : (List Object → Store → Type 0) → Settings → (restart : Option ℕ) → List Object → Option Node → Type 0
IsStartedNode makes s restart objects node = MatchOption node ⊥ (IsStarted makes s restart objects)

pub record IsHouseWith (s : Settings) (node : Option Node) : Type 0 where
  pub config : Config
  pub says : IsConfigOf s config
  pub fresh : node ≡ Some (fresh_node config house)

-- it can be started, if there is memory and the objects can be a store
abbrev pub IsReady : Settings → Device → Type 0
IsReady s d = IsIdle d × IsTrue (is_right s)

-- the rules by which it serves are as the settings say
abbrev pub IsSetBy : Settings → Device → Type 0
IsSetBy s d = d.rules ≡ rules_by s

-- the node runs with the listed objects, as the settings say
abbrev pub HasStarted : (List Object → Store → Type 0) → Settings → (restart : Option ℕ) → (old new : Option Device) → Type 0
HasStarted makes s restart old new = MatchOption old ⊥ (λ d. MatchOption new ⊥ (λ e. IsStartedNode makes s restart (listed_in d) e.node × IsSetBy s e))

abbrev pub HasHouse : Settings → (new : Option Device) → Type 0
HasHouse s new = MatchOption new ⊥ (λ e. IsHouseWith s e.node × IsSetBy s e)

-- ---- a start that is refused

-- it is not started, and a number of the settings is out of its range
abbrev pub HasBadSettings : Settings → Device → Type 0
HasBadSettings s d = IsIdle d × (IsTrue (is_right s) → ⊥)

-- it could be started, but for two listed objects with one identifier
abbrev pub HasTwins : Rule → Settings → Device → Type 0
HasTwins r s d = IsReady s d × HaveTwins r (listed_in d)

-- it could be started, but the listed objects are no store
abbrev pub HasBadObjects : Rule → Settings → Device → Type 0
HasBadObjects r s d = IsReady s d × AreBad r (listed_in d)

-- what the fault of a start says of a device
pub record IsStartFault (r : Rule) (s : Settings) (d : Device) (result : Result (Unit {0}) Fault) : Type 0 where
  pub again : IsErrOf result fault.AlreadyStarted ↔ IsRunning d
  pub settings : IsErrOf result fault.BadSettings ↔ HasBadSettings s d
  pub duplicate : (IsErrOf result fault.NoMemory → ⊥) → (IsErrOf result fault.Duplicate ↔ HasTwins r s d)
  pub bad : (IsErrOf result fault.NoMemory → ⊥) → (IsErrOf result fault.BadObject ↔ HasBadObjects r s d)
  pub not_closed : IsErrOf result fault.NotOpen → ⊥

-- what the status of a start says of what is behind the handle
pub record IsStartStatus (r : Rule) (s : Settings) (held : Option Device) (status : ℕ) : Type 0 where
  pub closed : (status ≡ NOT_OPEN) ↔ (held ≡ None)
  pub again : (status ≡ ALREADY_STARTED) ↔ Holds IsRunning held
  pub settings : (status ≡ BAD_SETTINGS) ↔ Holds (HasBadSettings s) held
  pub duplicate : status ≢ NO_MEMORY → ((status ≡ DUPLICATE) ↔ Holds (HasTwins r s) held)
  pub bad : status ≢ NO_MEMORY → ((status ≡ BAD_OBJECT) ↔ Holds (HasBadObjects r s) held)
