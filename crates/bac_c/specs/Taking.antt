-- Which of the listed objects a plain start refuses, and why.
use Rattle.std.specs.Prelude.{◌≡◌, ◌<◌, ℕ, Bool, not, ◌==◌, ◌&&◌, false, nat_le, List, [], ◌∷◌, length, take, slice_index_or, Option, Some, None, if◌then◌else◌}
use Rattle.std.specs.List.{All, list_any}
use Rattle.bac_value.specs.Value.{characters}
use Rattle.bac_value.specs.Writing.{value_spelling}
use Rattle.bac_store.specs.Allowing.{Allowed, are_right_limits}
use Rattle.bac_store.specs.Kinds.{kind_of}
use Rattle.bac_store.specs.Limits.{ANY_INSTANCE, FIRST_VENDOR_PROPERTY, FIRST_VENDOR_TYPE, VALUE_LIMIT}
use Rattle.bac_store.specs.Objects.{AreDistinct, IsRight, are_right_values, is_right_file, is_right_number, is_right_type}
use Rattle.bac_store.specs.Stores.{Object, Property, is_number, is_object}
use Rattle.bac_c.specs.declared.flaw.Flaw.{Flaw}
use Rattle.bac_c.specs.declared.flaw.Flaw.TheVariants as flaw
use Rattle.bac_c.specs.declared.taking.Refusal.{Refusal}

-- own numbers of this library
abbrev pub plain_flaw_number : Flaw → ℕ
plain_flaw_number flaw.Instance = 1
plain_flaw_number flaw.Name = 2
plain_flaw_number flaw.File = 3
plain_flaw_number flaw.Number = 4
plain_flaw_number flaw.Twice = 5
plain_flaw_number flaw.Values = 6
plain_flaw_number flaw.Limits = 7
plain_flaw_number flaw.SameIdentifier = 8
plain_flaw_number flaw.Type = 13

-- the objects that a plain start takes: each is right by itself, and no two have one identifier
pub record AreTaken (os : List Object) : Type 0 where
  pub right : All IsRight os
  pub distinct : AreDistinct os

-- an object of a vendor's type that lists one property of a vendor
abbrev pub vendor_object : (values : List ℕ) → Allowed → Object
vendor_object values allowed =
    record {
      id = record { kind = FIRST_VENDOR_TYPE; instance = 0 };
      name = [];
      properties = record { number = FIRST_VENDOR_PROPERTY; values = values; writable = false; kind = kind_of values; allowed = allowed } ∷ [];
      file = None;
    }

-- ---- one check after the other

-- a flaw where the first check fails, or what the later ones find
abbrev pub unless : Bool → Flaw → Option Flaw → Option Flaw
unless fits why later = if fits then later else Some why

-- the flaw of a property of an object of this type, which lists others before it
abbrev pub property_flaw : (kind : ℕ) → (before : List Property) → Property → Option Flaw
property_flaw k before p =
    unless (is_right_number p.number) flaw.Number
    (unless (not (list_any (is_number p.number) before)) flaw.Twice
    (unless (nat_le (length p.values) VALUE_LIMIT && are_right_values k p.number p.values) flaw.Values
    (unless (are_right_limits p.allowed p.values) flaw.Limits None)))

-- the flaw of an object apart from its properties, where others are listed before it
abbrev pub object_flaw : (before : List Object) → Object → Option Flaw
object_flaw before o =
    unless (is_right_type o.id.kind) flaw.Type
    (unless (not (o.id.instance == ANY_INSTANCE)) flaw.Instance
    (unless (nat_le (length (value_spelling (characters 0 o.name))) VALUE_LIMIT) flaw.Name
    (unless (is_right_file o.id.kind o.file) flaw.File
    (unless (not (list_any (is_object o.id) before)) flaw.SameIdentifier None))))

-- ---- the first that is refused

-- the properties before this place have no flaw
abbrev pub HaveNoFlaw : (kind at : ℕ) → List Property → Type 0
HaveNoFlaw k at ps = (i : ℕ) (d : Property) → i < at → property_flaw k (take i ps) (slice_index_or ps i d) ≡ None

-- the first property with a flaw, and which flaw that is
pub record IsFirstFlawed (kind : ℕ) (ps : List Property) (number : ℕ) (why : Flaw) : Type 0 where
  pub at : ℕ
  pub within : at < length ps
  pub before : HaveNoFlaw kind at ps
  pub numbered : (d : Property) → (slice_index_or ps at d).number ≡ number
  pub flawed : (d : Property) → property_flaw kind (take at ps) (slice_index_or ps at d) ≡ Some why

-- the object is taken after those that are listed before it
pub record IsTakenAfter (before : List Object) (o : Object) : Type 0 where
  pub whole : object_flaw before o ≡ None
  pub each : HaveNoFlaw o.id.kind (length o.properties) o.properties

-- the object is refused for a property, or as a whole
abbrev pub IsRefusedAfter : (before : List Object) → Object → (property : Option ℕ) → Flaw → Type 0
IsRefusedAfter before o None why = object_flaw before o ≡ Some why
IsRefusedAfter before o (Some n) why = (object_flaw before o ≡ None) × IsFirstFlawed o.id.kind o.properties n why

-- the objects before this place are taken, each after those before it
abbrev pub AreTakenUpTo : (at : ℕ) → List Object → Type 0
AreTakenUpTo at os = (i : ℕ) (d : Object) → i < at → IsTakenAfter (take i os) (slice_index_or os i d)

-- the first object that is refused, and why
pub record IsFirstRefused (os : List Object) (e : Refusal) : Type 0 where
  pub within : e.object < length os
  pub before : AreTakenUpTo e.object os
  pub refused : (d : Object) → IsRefusedAfter (take e.object os) (slice_index_or os e.object d) e.property e.why
