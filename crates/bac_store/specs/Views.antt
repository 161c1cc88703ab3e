-- The abstract values of the types in code.
use Rattle.std.specs.Prelude.{ℕ, List, map}
use Rattle.std.specs.Option.{option_map}
use Rattle.std.specs.String.{string_bytes}
use Rattle.bac_value.specs.declared.data.DataBuf.{DataBuf}
use Rattle.bac_value.specs.Views.{object_identifier_view}
use Rattle.bac_store.specs.declared.object.Property as listed
use Rattle.bac_store.specs.declared.object.File as contents
use Rattle.bac_store.specs.declared.object.Object as thing
use Rattle.bac_store.specs.declared.allowed.Allowed as limits
use Rattle.bac_store.specs.declared.allowed.Allowed.TheVariants as limit
use Rattle.bac_store.specs.declared.entry.StoredProperty.{StoredProperty}
use Rattle.bac_store.specs.declared.entry.StoredObject.{StoredObject}
use Rattle.bac_store.specs.declared.change.Change as change
use Rattle.bac_store.specs.declared.change.Change.TheVariants as change_case
use Rattle.bac_store.specs.declared.planned.StoreEffect as code
use Rattle.bac_store.specs.declared.planned.StoreEffect.TheVariants as variant
use Rattle.bac_store.specs.AtNode.{Change}
use Rattle.bac_store.specs.Plans.{StoreEffect}
use Rattle.bac_store.specs.Allowing.{Allowed}
use Rattle.bac_store.specs.Kinds.{kind_of}
use Rattle.bac_store.specs.Stores.{Object, Property, File}

abbrev pub file_view : contents.File → File
file_view f = record { octets = f.octets.items; writable = f.writable }

abbrev pub data_view : DataBuf → List ℕ
data_view d = d.octets.items

abbrev pub allowed_view : limits.Allowed → Allowed
allowed_view limit.Any = Allowed.Any
allowed_view (limit.Between least greatest) = Allowed.Between (data_view least) (data_view greatest)
allowed_view (limit.OneOf listed) = Allowed.OneOf (map data_view listed.items)

-- the kind of a property is determined by its values when the store is created
abbrev pub property_view : listed.Property → Property
property_view p =
    record {
      number = p.number;
      values = p.values.octets.items;
      writable = p.writable;
      kind = kind_of p.values.octets.items;
      allowed = allowed_view p.allowed;
    }

abbrev pub object_view : thing.Object → Object
object_view o =
    record {
      id = object_identifier_view o.id;
      name = string_bytes o.name;
      properties = map property_view o.properties.items;
      file = option_map file_view o.file;
    }

abbrev pub slot_view : StoredProperty → Property
slot_view s =
    record { number = s.number; values = s.values.octets.items; writable = s.writable; kind = s.kind; allowed = allowed_view s.allowed }

abbrev pub entry_view : StoredObject → Object
entry_view e =
    record {
      id = object_identifier_view e.id;
      name = string_bytes e.name;
      properties = map slot_view e.slots.items;
      file = option_map file_view e.file;
    }

abbrev pub effect_view : code.StoreEffect → StoreEffect
effect_view variant.Nothing = StoreEffect.Nothing
effect_view (variant.Values id n values) = StoreEffect.Values (object_identifier_view id) n values.octets.items
effect_view (variant.Octets id splice) = StoreEffect.Octets (object_identifier_view id) splice.at splice.new.items
effect_view (variant.Contents id octets) = StoreEffect.Contents (object_identifier_view id) octets.items

abbrev pub change_view : change.Change → Change
change_view (change_case.Value id n octets) = Change.Value (object_identifier_view id) n octets.items
change_view (change_case.File id octets) = Change.File (object_identifier_view id) octets.items
