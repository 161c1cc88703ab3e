-- What is listed for a node that is to be started.
use Rattle.std.specs.Prelude.{◌≡◌, ◌↔◌, ℕ, Bool, true, false, ◌&&◌, List, [], ◌∷◌, ◌++◌, Option, Some, None, Result, IsErrOf, IsTrue, MatchOption}
use Rattle.bac_store.specs.AtNode.{is_data}
use Rattle.bac_store.specs.Allowing.{Allowed}
use Rattle.bac_store.specs.Kinds.{kind_of}
use Rattle.bac_store.specs.Stores.{Object, Property}
use Rattle.bac_c.specs.Devices.{Holds, IsRunning}
use Rattle.bac_c.specs.Starting.{listed_in}
use Rattle.bac_c.specs.Statuses.{is_one_of, status_of, ALREADY_STARTED, LISTING, NOT_OPEN}
use Rattle.bac_c.specs.declared.device.Device.{Device}
use Rattle.bac_c.specs.declared.fault.Fault.{Fault}
use Rattle.bac_c.specs.declared.fault.Fault.TheVariants as fault

-- an object without properties and without a file
abbrev pub bare : (object_type instance : ℕ) → (name : List ℕ) → Object
bare t i name = record { id = record { kind = t; instance = i }; name = name; properties = []; file = None }

abbrev pub has_some : List Property → Bool
has_some [] = false
has_some (p ∷ ps) = true

-- an object with one more property
abbrev pub with_property : (number : ℕ) → (values : List ℕ) → (writable : Bool) → Object → Object
with_property n values writable o =
    record o {
      properties =
          o.properties ++ record { number = n; values = values; writable = writable; kind = kind_of values; allowed = Allowed.Any } ∷ [];
    }

-- there is an object that can have one more, and the octets are data
abbrev pub can_add : (values : List ℕ) → List Object → Bool
can_add values [] = false
can_add values (o ∷ os) = is_data values

-- other limits for the last of some properties
abbrev pub with_allowed : (Allowed → Allowed) → List Property → List Property
with_allowed f [] = []
with_allowed f (p ∷ []) = record p { allowed = f p.allowed } ∷ []
with_allowed f (p ∷ q ∷ ps) = p ∷ with_allowed f (q ∷ ps)

-- limits from a least to a greatest value
abbrev pub limited : (least greatest : List ℕ) → Object → Object
limited least greatest o = record o { properties = with_allowed (λ a. Allowed.Between least greatest) o.properties }

-- a list with one more value; other limits give way to a list of this one
abbrev pub one_more : (value : List ℕ) → Allowed → Allowed
one_more value (Allowed.OneOf listed) = Allowed.OneOf (listed ++ value ∷ [])
one_more value _ = Allowed.OneOf (value ∷ [])

abbrev pub allowing : (value : List ℕ) → Object → Object
allowing value o = record o { properties = with_allowed (one_more value) o.properties }

abbrev pub lists_property : Object → Bool
lists_property o = has_some o.properties

-- the object that was listed last has a property
abbrev pub last_lists : List Object → Bool
last_lists [] = false
last_lists (o ∷ []) = lists_property o
last_lists (o ∷ p ∷ os) = last_lists (p ∷ os)

-- there is a property that can have limits, and the octets are data
abbrev pub can_limit : (least greatest : List ℕ) → List Object → Bool
can_limit least greatest os = is_data least && is_data greatest && last_lists os

abbrev pub can_allow : (value : List ℕ) → List Object → Bool
can_allow value os = is_data value && last_lists os

-- an object with octets of a file
abbrev pub with_file : (octets : List ℕ) → (writable : Bool) → Object → Object
with_file octets writable o = record o { file = Some (record { octets = octets; writable = writable }) }

-- the last of the objects was changed
pub record IsLastChanged (f : Object → Object) (old new : List Object) : Type 0 where
  pub front : List Object
  pub last : Object
  pub was : old ≡ front ++ last ∷ []
  pub is : new ≡ front ++ f last ∷ []

-- nothing but the objects that are listed is other
pub record ChangesOnlyObjects (d e : Device) : Type 0 where
  pub kept : e.kept ≡ d.kept
  pub node : e.node ≡ d.node
  pub outcome : e.outcome ≡ d.outcome

-- the same objects are listed, with the same cells, the same node and the same outcome
abbrev pub IsAsListed : Device → Device → Type 0
IsAsListed d e = (listed_in e ≡ listed_in d) × ChangesOnlyObjects d e

abbrev pub StaysListed : (old new : Option Device) → Type 0
StaysListed old new = MatchOption old (new ≡ None) (λ d. MatchOption new ⊥ (IsAsListed d))

-- the objects that are listed are others, with the same cells, the same node and the same outcome
abbrev pub HasListed : (List Object → List Object → Type 0) → (old new : Option Device) → Type 0
HasListed goes old new = MatchOption old ⊥ (λ d. MatchOption new ⊥ (λ e. goes (listed_in d) (listed_in e) × ChangesOnlyObjects d e))

-- what the fault of a call that lists something says of a device
pub record IsListFault (d : Device) (result : Result (Unit {0}) Fault) : Type 0 where
  pub again : IsErrOf result fault.AlreadyStarted ↔ IsRunning d
  pub few : IsTrue (is_one_of LISTING (status_of result))
  pub not_closed : IsErrOf result fault.NotOpen → ⊥

-- what its status says of what is behind the handle
pub record IsListStatus (held : Option Device) (status : ℕ) : Type 0 where
  pub closed : (status ≡ NOT_OPEN) ↔ (held ≡ None)
  pub again : (status ≡ ALREADY_STARTED) ↔ Holds IsRunning held
  pub few : IsTrue (is_one_of LISTING status)
