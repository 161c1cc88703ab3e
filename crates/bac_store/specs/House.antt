-- The example store: a device, an analog input, an analog value, a binary value and a file.
use Rattle.std.specs.Prelude.{ℕ, true, false, [], ◌∷◌, Some, None}
use Rattle.bac_value.specs.Value.{ObjectId, real, characters, enumerated}
use Rattle.bac_value.specs.Writing.{value_spelling}
use Rattle.bac_store.specs.Limits.{ANALOG_INPUT, ANALOG_VALUE, BINARY_VALUE, DEVICE, FILE, DESCRIPTION, PRESENT_VALUE, REAL, CHARACTER_STRING, ENUMERATED}
use Rattle.bac_store.specs.Allowing.{Allowed}
use Rattle.bac_store.specs.Stores.{Store, Object}

abbrev id_of : ℕ → ℕ → ObjectId
id_of kind instance = record { kind = kind; instance = instance }

-- `flow`: present-value 72.3, read-only
abbrev pub flow : Object
flow = record {
  id = id_of ANALOG_INPUT 5;
  name = 0x66 ∷ 0x6C ∷ 0x6F ∷ 0x77 ∷ [];
  properties =
      record { number = PRESENT_VALUE; values = value_spelling (real (0x42 ∷ 0x90 ∷ 0x99 ∷ 0x9A ∷ [])); writable = false; kind = Some REAL; allowed = Allowed.Any } ∷ [];
  file = None;
}

-- `setpoint`: an empty description and present-value 0, both writable
abbrev pub setpoint : Object
setpoint = record {
  id = id_of ANALOG_VALUE 1;
  name = 0x73 ∷ 0x65 ∷ 0x74 ∷ 0x70 ∷ 0x6F ∷ 0x69 ∷ 0x6E ∷ 0x74 ∷ [];
  properties =
      record { number = DESCRIPTION; values = value_spelling (characters 0 []); writable = true; kind = Some CHARACTER_STRING; allowed = Allowed.Any }
      ∷ record { number = PRESENT_VALUE; values = value_spelling (real (0 ∷ 0 ∷ 0 ∷ 0 ∷ [])); writable = true; kind = Some REAL; allowed = Allowed.Any } ∷ [];
  file = None;
}

-- `pump`: present-value 0, writable
abbrev pub pump : Object
pump = record {
  id = id_of BINARY_VALUE 1;
  name = 0x70 ∷ 0x75 ∷ 0x6D ∷ 0x70 ∷ [];
  properties = record { number = PRESENT_VALUE; values = value_spelling (enumerated 0); writable = true; kind = Some ENUMERATED; allowed = Allowed.Any } ∷ [];
  file = None;
}

-- `house`: the device, without listed properties
abbrev pub house_device : Object
house_device = record { id = id_of DEVICE 1; name = 0x68 ∷ 0x6F ∷ 0x75 ∷ 0x73 ∷ 0x65 ∷ []; properties = []; file = None }

-- `log`: the octets of `OK`, writable
abbrev pub log : Object
log = record {
  id = id_of FILE 1;
  name = 0x6C ∷ 0x6F ∷ 0x67 ∷ [];
  properties = [];
  file = Some (record { octets = 0x4F ∷ 0x4B ∷ []; writable = true });
}

abbrev pub house : Store
house = flow ∷ setpoint ∷ pump ∷ house_device ∷ log ∷ []
