-- What the file of a server keeps, as objects of JSON.
use Rattle.std.specs.Prelude.{◌≡◌, ◌⊎◌, ◌≤◌, ℕ, List, codes, length, take}
use Rattle.bac_json.specs.Forms.{object_form, octets_form, property_form}
use Rattle.bac_json.specs.Values.{AreElementForms}
use Rattle.bac_value.specs.Data.{IsDataFront}
use Rattle.bac_value.specs.Value.{ObjectId}
use Rattle.bac_value.specs.Views.{object_identifier_view}
use Rattle.serde_json.specs.Data.{Data, Items, array, member, no_members, null, number, object, unsigned}
use Rattle.bac_log_json.specs.declared.cell.KeptPart as code
use Rattle.bac_log_json.specs.declared.cell.KeptPart.TheVariants as part

pub data KeptPart : Type 0 where
  Values : ObjectId → (property : ℕ) → (octets : List ℕ) → KeptPart
  File : ObjectId → (octets : ℕ) → KeptPart

abbrev pub part_view : code.KeptPart → KeptPart
part_view (part.Values o property octets) = Values (object_identifier_view o) property octets.now
part_view (part.File o len) = File (object_identifier_view o) len

abbrev pub cell_form : ObjectId → (len octets property values : Data) → Data
cell_form o len octets property values =
    object (member (codes "length") len (member (codes "object") (object_form o) (member (codes "octets") octets
    (member (codes "property") property (member (codes "values") values no_members)))))

-- the values at the front of octets
pub record AreRead (run : List ℕ) (octets values : Data) : Type 0 where
  pub count : ℕ
  pub front : IsDataFront run count
  pub items : Items
  pub are : AreElementForms items (take count run)
  pub values_are : values ≡ array items
  pub octets_are : octets ≡ null

-- octets without values at their front
pub record AreOctets (run : List ℕ) (octets values : Data) : Type 0 where
  pub none : (count : ℕ) → IsDataFront run count → ⊥
  pub values_are : values ≡ null
  pub octets_are : octets ≡ octets_form run

abbrev pub AreKeptValues : (run : List ℕ) → (octets values : Data) → Type 0
AreKeptValues run octets values = AreRead run octets values ⊎ AreOctets run octets values

pub record AreValuesOf (o : ObjectId) (property : ℕ) (run : List ℕ) (d : Data) : Type 0 where
  pub octets : Data
  pub values : Data
  pub are : AreKeptValues run octets values
  pub is : d ≡ cell_form o null octets (property_form property) values

-- a property has values; a file has a length, its number of octets
abbrev pub IsCellForm : KeptPart → Data → Type 0
IsCellForm (Values o property run) d = AreValuesOf o property run d
IsCellForm (File o len) d = d ≡ cell_form o (number (unsigned len)) null null null
