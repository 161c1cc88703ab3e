-- What a node makes of its store: it performs a request, or makes a local change.
use Rattle.std.specs.Prelude.{◌≡◌, true, ℕ, Some}
use Rattle.bac_value.specs.Value.{ObjectId}
use Rattle.bac_service.specs.Values.{Request}
use Rattle.bac_service.specs.Views.{request_view}
use Rattle.bac_store.specs.AtNode.{Change, changed}
use Rattle.bac_store.specs.Changes.{IsGranted, after}
use Rattle.bac_store.specs.Stores.{File, Property, Store}
use Rattle.bac_store.specs.Views.{change_view}
use Rattle.bac_store.specs.Writes.{file_at, listed_at}
use Rattle.bac_keep.specs.declared.made.Made as code
use Rattle.bac_keep.specs.declared.made.Made.TheVariants as variant

pub data Made : Type 0 where
  Performed : (request : Request) → Made
  Changed : (change : Change) → Made

abbrev pub made_view : code.Made → Made
made_view (variant.Performed r) = Performed (request_view r)
made_view (variant.Changed c) = Changed (change_view c.now)

abbrev pub after_made : Made → Store → Store
after_made (Performed r) s = after s r
after_made (Changed c) s = changed c s

-- ---- what may be written over the network is kept

pub record IsWritableValue (s : Store) (id : ObjectId) (n : ℕ) : Type 0 where
  pub property : Property
  pub found : listed_at s id n ≡ Some property
  pub writable : property.writable ≡ true

pub record IsWritableFile (s : Store) (id : ObjectId) : Type 0 where
  pub file : File
  pub found : file_at s id ≡ Some file
  pub writable : file.writable ≡ true

-- a local change of anything else is not kept
abbrev pub IsWritable : Change → Store → Type 0
IsWritable (Change.Value id n octets) s = IsWritableValue s id n
IsWritable (Change.File id octets) s = IsWritableFile s id

-- a request is performed if its reply is not an Error
abbrev pub IsKeepable : Made → Store → Type 0
IsKeepable (Performed r) s = IsGranted s r
IsKeepable (Changed c) s = IsWritable c s
