-- Requests and the service data of ComplexACKs as JSON: an object with their name and their members.
use Rattle.std.specs.Prelude.{◌≡◌, ℕ, List, [], ◌∷◌, codes, Option, Some, None}
use Rattle.bac_service.specs.Values.{Member, EndOfFile, Object, Property, Index, Position, Record, Count, Content, Records, Values, Priority}
use Rattle.bac_service.specs.MemberViews.{member_view}
use Rattle.bac_service.specs.declared.member.Member as code
use Rattle.serde_json.specs.Data as json
use Rattle.serde_json.specs.Data.{Data, Items, array, boolean, no_members, number, object, put, string, unsigned}
use Rattle.serde_json.specs.Find.{of_integer}
use Rattle.bac_json.specs.Forms.{object_form, octets_form, optional_number, property_form}
use Rattle.bac_json.specs.Values.{AreElementForms}

abbrev pub name_of : Member → List ℕ
name_of (EndOfFile is_end) = codes "end"
name_of (Object o) = codes "object"
name_of (Property p) = codes "property"
name_of (Index index) = codes "index"
name_of (Position start) = codes "position"
name_of (Record start) = codes "record"
name_of (Count count) = codes "count"
name_of (Content octets) = codes "octets"
name_of (Records run) = codes "records"
name_of (Values octets) = codes "values"
name_of (Priority priority) = codes "priority"

pub record AreValues (octets : List ℕ) (form : Option Data) : Type 0 where
  pub values : Items
  pub are : AreElementForms values octets
  pub is : form ≡ Some (array values)

-- the value of a member; records have none, since their number is a member of its own
abbrev pub IsMemberForm : Member → Option Data → Type 0
IsMemberForm (EndOfFile is_end) form = form ≡ Some (boolean is_end)
IsMemberForm (Object o) form = form ≡ Some (object_form o)
IsMemberForm (Property p) form = form ≡ Some (property_form p)
IsMemberForm (Index index) form = form ≡ Some (optional_number index)
IsMemberForm (Position start) form = form ≡ Some (number (of_integer start))
IsMemberForm (Record start) form = form ≡ Some (number (of_integer start))
IsMemberForm (Count count) form = form ≡ Some (number (unsigned count))
IsMemberForm (Content octets) form = form ≡ Some (octets_form octets)
IsMemberForm (Records run) form = form ≡ None
IsMemberForm (Values octets) form = AreValues octets form
IsMemberForm (Priority priority) form = form ≡ Some (optional_number priority)

abbrev pub with_value : (name : List ℕ) → Option Data → json.Members → json.Members
with_value name None members = members
with_value name (Some d) members = put name d members

-- the same with one more member
pub record IsWith (m : Member) (before after : json.Members) : Type 0 where
  pub form : Option Data
  pub of : IsMemberForm m form
  pub is : after ≡ with_value (name_of m) form before

-- one of a list in code, where there is one
abbrev pub IsWithListed : Option code.Member → (before after : json.Members) → Type 0
IsWithListed None before after = after ≡ before
IsWithListed (Some m) before after = IsWith (member_view m) before after

-- with one after the other
abbrev pub AreWith : List Member → (before after : json.Members) → Type 0
AreWith [] before after = after ≡ before
AreWith (m ∷ members) before after = (between : json.Members) × (IsWith m before between × AreWith members between after)

-- an object with that name and these members
pub record IsNamedForm (name : List ℕ) (members : List Member) (d : Data) : Type 0 where
  pub all : json.Members
  pub are : AreWith members (put (codes "service") (string name) no_members) all
  pub is : d ≡ object all
