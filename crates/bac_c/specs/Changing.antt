-- Changes that a C program makes at its own node.
use Rattle.std.specs.Prelude.{◌≡◌, ◌↔◌, ◌≤◌, ℕ, Bool, true, false, List, length, Option, Some, None, IfSome, MatchOption}
use Rattle.bac_store.specs.AtNode.{Change, IsFaultOf, change_fault, octets_of}
use Rattle.bac_store.specs.declared.change_fault.ChangeFault.{ChangeFault}
use Rattle.bac_store.specs.declared.change_fault.ChangeFault.TheVariants as change
use Rattle.bac_world.specs.Node.{with_change}
use Rattle.bac_c.specs.Asking.{file_of, identifier_of}
use Rattle.bac_c.specs.Devices.{Holds, IsIdle, Runs}
use Rattle.bac_c.specs.Statuses.{fault_number, BAD_REQUEST, NOT_OPEN, NOT_STARTED}
use Rattle.bac_c.specs.declared.device.Device.{Device}
use Rattle.bac_c.specs.declared.fault.Fault.{Fault}
use Rattle.bac_c.specs.declared.fault.Fault.TheVariants as fault
use Rattle.bac_c.specs.declared.setting.Setting.{Setting}
use Rattle.bac_c.specs.declared.setting.Setting.TheVariants as setting

-- a property has other values
abbrev pub value_of : (object_type instance property : ℕ) → (octets : List ℕ) → Change
value_of t i n octets = Change.Value (identifier_of t i) n octets

-- a file has other octets
abbrev pub contents_of : (file : ℕ) → (octets : List ℕ) → Change
contents_of f octets = Change.File (file_of f) octets

-- the change that a C program means
abbrev pub change_for : Setting → Change
change_for (setting.Value t i n octets) = value_of t i n octets.now
change_for (setting.File i octets) = contents_of i octets.now

-- the change may be made, and was made at the node, and nothing else
abbrev pub Changes : Change → Device → Device → Type 0
Changes c d e = MatchOption d.node ⊥ (λ m. (change_fault m.store c ≡ None) × (e ≡ record d { node = Some (with_change c m) }))

abbrev pub HasChanged : Change → (old new : Option Device) → Type 0
HasChanged c old new = MatchOption old ⊥ (λ d. MatchOption new ⊥ (λ e. Changes c d e))

-- why a change is refused, that is right or wrong; memory may be refused to the octets of a right one alone
abbrev pub ChangeRefused : Fault → Bool → Change → Device → Type 0
ChangeRefused fault.NotStarted right c d = IsIdle d
ChangeRefused fault.NoSuchObject right c d = Runs (λ n. IsFaultOf n.store c change.NoSuchObject) d
ChangeRefused fault.NoSuchProperty right c d = Runs (λ n. IsFaultOf n.store c change.NoSuchProperty) d
ChangeRefused fault.BadValue right c d = Runs (λ n. IsFaultOf n.store c change.BadValue) d
ChangeRefused fault.TooLong right c d = Runs (λ n. IsFaultOf n.store c change.TooLong) d
ChangeRefused fault.NoMemory right c d = Runs (λ n. (right ≡ true) × (1 ≤ length (octets_of c))) d
ChangeRefused fault.BadRequest right c d = Runs (λ n. right ≡ false) d
ChangeRefused _ right c d = ⊥

-- the status of a change says why it was refused, if it was
abbrev pub IsRefusedChange : (status : ℕ) → Bool → Change → Device → Type 0
IsRefusedChange status right c d = (f : Fault) → status ≡ fault_number f → ChangeRefused f right c d

-- what the status of a change says of what is behind the handle
pub record IsChangeStatus (right : Bool) (c : Change) (held : Option Device) (status : ℕ) : Type 0 where
  pub closed : (status ≡ NOT_OPEN) ↔ (held ≡ None)
  pub idle : (status ≡ NOT_STARTED) ↔ Holds IsIdle held
  pub bad : (status ≡ BAD_REQUEST) ↔ Holds (Runs (λ n. right ≡ false)) held
  pub why : IfSome held (IsRefusedChange status right c)

abbrev pub fault_for_change : ChangeFault → Fault
fault_for_change change.NoSuchObject = fault.NoSuchObject
fault_for_change change.NoSuchProperty = fault.NoSuchProperty
fault_for_change change.BadValue = fault.BadValue
fault_for_change change.TooLong = fault.TooLong
fault_for_change change.NoMemory = fault.NoMemory
