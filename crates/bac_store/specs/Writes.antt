-- What a write changes, in terms of look-ups: one listed property of one object, or the octets of one file.
use Rattle.std.specs.Prelude.{◌≡◌, ◌≢◌, ℕ, ℤ, false, List, Option, Some, None}
use Rattle.std.specs.Option.{option_map}
use Rattle.bac_value.specs.Value.{ObjectId}
use Rattle.bac_service.specs.Values.{Reference}
use Rattle.bac_store.specs.Changes.{with_contents, with_own_values}
use Rattle.bac_store.specs.Replies.{file_of, written}
use Rattle.bac_store.specs.Stores.{Store, Object, Property, File, is_same, listed_in, object_in}

abbrev pub listed_of : ℕ → Option Object → Option Property
listed_of n None = None
listed_of n (Some o) = listed_in o n

-- the listed property of an object
abbrev pub listed_at : Store → ObjectId → ℕ → Option Property
listed_at s id n = listed_of n (object_in s id)

abbrev pub name_at : Store → ObjectId → Option (List ℕ)
name_at s id = option_map (λ o. o.name) (object_in s id)

abbrev pub file_at : Store → ObjectId → Option File
file_at s id = file_of (object_in s id)

-- clause 15.9: the property has the new values, and its old flag and kind; everything else is unchanged
pub record IsValueWrite (r : Reference) (values : List ℕ) (old new : Store) : Type 0 where
  pub there : listed_at new r.object r.property ≡ option_map (with_own_values values) (listed_at old r.object r.property)
  pub other_properties : (n : ℕ) → n ≢ r.property → listed_at new r.object n ≡ listed_at old r.object n
  pub name : name_at new r.object ≡ name_at old r.object
  pub file : file_at new r.object ≡ file_at old r.object
  pub other_objects : (id : ObjectId) → is_same r.object id ≡ false → object_in new id ≡ object_in old id

-- the file has new octets, a function of the old ones, and its old flag; everything else is unchanged
pub record IsFileChange (id : ObjectId) (change : List ℕ → List ℕ) (old new : Store) : Type 0 where
  pub there : file_at new id ≡ option_map (with_contents change) (file_at old id)
  pub properties : (n : ℕ) → listed_at new id n ≡ listed_at old id n
  pub name : name_at new id ≡ name_at old id
  pub other_objects : (q : ObjectId) → is_same id q ≡ false → object_in new q ≡ object_in old q

-- clause 14.2: the octets before the start, the new ones, and the old ones after those
abbrev pub IsFileWrite : ObjectId → ℤ → List ℕ → Store → Store → Type 0
IsFileWrite id start octets = IsFileChange id (written start octets)
