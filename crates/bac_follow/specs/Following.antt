-- What a document that was read again changes in a store.
use mathlib.Core.Bool.{beq}
use Rattle.std.specs.Prelude.{◌≡◌, ◌≢◌, ⊤, ℕ, nat_eq, ◌==◌, Bool, true, false, not, ◌&&◌, List, [], ◌∷◌, ◌++◌, length, map, Option, Some, None}
use Rattle.std.specs.Prelude.{if◌then◌else◌}
use Rattle.std.specs.List.{list_all, list_any}
use Rattle.std.specs.Option.{option_eq, option_map, option_or}
use Rattle.std.specs.Cmp.Lexicographic.{pointwise}
use Rattle.bac_value.specs.Value.{ObjectId}
use Rattle.bac_value.specs.Views.{object_identifier_view}
use Rattle.bac_store.specs.Allowing.{Allowed, are_same}
use Rattle.bac_store.specs.AtNode.{Change, change_fault, changed}
use Rattle.bac_store.specs.Changes.{with_contents, with_own_values}
use Rattle.bac_store.specs.Stores.{File, Object, Property, Store, first_that, is_same}
use Rattle.bac_store.specs.Writes.{file_at, listed_at}
use Rattle.bac_store.specs.declared.change_fault.ChangeFault.{ChangeFault}
use Rattle.bac_store.specs.declared.change_fault.ChangeFault.TheVariants as change
use Rattle.bac_follow.specs.declared.fault.FollowFault.{FollowFault}
use Rattle.bac_follow.specs.declared.fault.FollowFault.TheVariants as fault

-- the store after changes, one after the other
abbrev pub made : List Change → Store → Store
made [] s = s
made (c ∷ cs) s = made cs (changed c s)

-- what there is now, where it is not what there was before
abbrev pub news : (before now : Option (List ℕ)) → Option (List ℕ)
news before None = None
news None (Some now) = Some now
news (Some before) (Some now) = if pointwise nat_eq before now then None else Some now

abbrev pub values_at : Store → ObjectId → ℕ → Option (List ℕ)
values_at s id n = option_map (λ p. p.values) (listed_at s id n)

abbrev pub octets_at : Store → ObjectId → Option (List ℕ)
octets_at s id = option_map (λ f. f.octets) (file_at s id)

-- a change gives a property or a file what is new of it in a document
abbrev pub IsNews : (before now : Store) → Change → Type 0
IsNews before now (Change.Value id n values) = news (values_at before id n) (values_at now id n) ≡ Some values
IsNews before now (Change.File id octets) = news (octets_at before id) (octets_at now id) ≡ Some octets

-- ---- what the news of a document make of a store

abbrev pub in_place : Option (List ℕ) → Property → Property
in_place None p = p
in_place (Some values) p = with_own_values values p

abbrev pub contents_in_place : Option (List ℕ) → File → File
contents_in_place None f = f
contents_in_place (Some octets) f = with_contents (λ old. octets) f

abbrev pub property_followed : (before now : Store) → ObjectId → Property → Property
property_followed before now id p = in_place (news (values_at before id p.number) (values_at now id p.number)) p

abbrev pub file_followed : (before now : Store) → ObjectId → File → File
file_followed before now id f = contents_in_place (news (octets_at before id) (octets_at now id)) f

abbrev pub object_followed : (before now : Store) → Object → Object
object_followed before now o =
    record o { properties = map (property_followed before now o.id) o.properties; file = option_map (file_followed before now o.id) o.file }

abbrev pub followed : (before now : Store) → Store → Store
followed before now s = map (object_followed before now) s

-- ---- all news of a document, in the order of its objects

abbrev pub value_change : (before now : Store) → ObjectId → ℕ → Option Change
value_change before now id n = option_map (λ values. Change.Value id n values) (news (values_at before id n) (values_at now id n))

abbrev pub file_change : (before now : Store) → ObjectId → Option Change
file_change before now id = option_map (λ octets. Change.File id octets) (news (octets_at before id) (octets_at now id))

abbrev pub with_news : List Change → Option Change → List Change
with_news cs None = cs
with_news cs (Some c) = cs ++ c ∷ []

-- the changes so far, and the news of some properties of an object
abbrev pub with_properties : (before now : Store) → ObjectId → List Property → List Change → List Change
with_properties before now id [] cs = cs
with_properties before now id (p ∷ ps) cs = with_properties before now id ps (with_news cs (value_change before now id p.number))

-- of an object the properties, then the file
abbrev pub with_object : (before now : Store) → Object → List Change → List Change
with_object before now o cs = with_news (with_properties before now o.id o.properties cs) (file_change before now o.id)

abbrev pub with_objects : (before now : Store) → List Object → List Change → List Change
with_objects before now [] cs = cs
with_objects before now (o ∷ os) cs = with_objects before now os (with_object before now o cs)

abbrev pub all_news : (before now : Store) → List Object → List Change
all_news before now objects = with_objects before now objects []

-- ---- which object of a document differs in more than values and octets

abbrev pub are_same_limits : Allowed → Allowed → Bool
are_same_limits Allowed.Any Allowed.Any = true
are_same_limits (Allowed.Between a b) (Allowed.Between c d) = are_same a c && are_same b d
are_same_limits (Allowed.OneOf xs) (Allowed.OneOf ys) = pointwise are_same xs ys
are_same_limits _ _ = false

-- the same property, whatever its values: of one number, flag, kind and limits
abbrev pub is_like_property : Property → Property → Bool
is_like_property p q = (p.number == q.number) && beq p.writable q.writable && option_eq nat_eq p.kind q.kind && are_same_limits p.allowed q.allowed

-- the same properties in any order, where no two of either have the same number
abbrev pub are_like_properties : List Property → List Property → Bool
are_like_properties ps qs = (length ps == length qs) && list_all (λ p. list_any (is_like_property p) qs) ps

-- the same file, whatever its octets
abbrev pub is_like_file : File → File → Bool
is_like_file f g = beq f.writable g.writable

-- the same object, whatever its values and octets
abbrev pub is_like : Object → Object → Bool
is_like o p = is_same o.id p.id && are_same o.name p.name && are_like_properties o.properties p.properties && option_eq is_like_file o.file p.file

-- the first of some objects that is like none of the others
abbrev pub first_unlike : (others objects : List Object) → Option ObjectId
first_unlike others objects = option_map (λ o. o.id) (first_that (λ o. not (list_any (is_like o) others)) objects)

-- the first object that is new or differs, in the order that the document has now; if there is none, the first one that is gone, in the order before
abbrev pub other_object : (before now : List Object) → Option ObjectId
other_object before now = option_or (first_unlike before now) (first_unlike now before)

-- ---- why a document cannot be followed

-- a property or a file that cannot be given what the document says, and why
pub record Refused : Type 0 where
  pub object : ObjectId
  pub property : Option ℕ
  pub fault : ChangeFault

abbrev pub refused : Change → ChangeFault → Refused
refused (Change.Value id n values) f = record { object = id; property = Some n; fault = f }
refused (Change.File id octets) f = record { object = id; property = None; fault = f }

abbrev pub refused_or : Change → Option ChangeFault → (others : Option Refused) → Option Refused
refused_or c (Some f) others = Some (refused c f)
refused_or c None others = others

-- the first of some changes that cannot be made, one after the other
abbrev pub first_refused : List Change → Store → Option Refused
first_refused [] s = None
first_refused (c ∷ cs) s = refused_or c (change_fault s c) (first_refused cs (changed c s))

-- the fault of one change
abbrev pub IsRefusedAs : Change → ChangeFault → FollowFault → Type 0
IsRefusedAs c f (fault.Cannot object property why) =
    (f ≢ change.NoMemory) × (refused c f ≡ record { object = object_identifier_view object; property = property; fault = why })
IsRefusedAs c f (fault.Other object) = ⊥
IsRefusedAs c f fault.NoMemory = f ≡ change.NoMemory

-- memory was refused, or that change is the first that cannot be made
abbrev pub IsRefusal : List Change → Store → FollowFault → Type 0
IsRefusal cs s (fault.Cannot object property why) =
    first_refused cs s ≡ Some (record { object = object_identifier_view object; property = property; fault = why })
IsRefusal cs s (fault.Other object) = ⊥
IsRefusal cs s fault.NoMemory = ⊤

-- all of them can be made, and do not make that store; and which object differs
pub record IsOther (cs : List Change) (before now : Store) (differs named : Option ObjectId) : Type 0 where
  pub made_all : first_refused cs before ≡ None
  pub other : made cs before ≢ now
  pub object : named ≡ differs

-- why the document is not followed whose news are those changes, and in which that object differs
abbrev pub IsFollowFault : List Change → (before now : Store) → (differs : Option ObjectId) → FollowFault → Type 0
IsFollowFault cs before now differs (fault.Cannot object property why) = IsRefusal cs before (fault.Cannot object property why)
IsFollowFault cs before now differs (fault.Other object) = IsOther cs before now differs (option_map object_identifier_view object)
IsFollowFault cs before now differs fault.NoMemory = ⊤
