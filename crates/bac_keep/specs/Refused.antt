-- Why a document and cells make no store.
use Rattle.std.specs.Prelude.{◌≡◌, ◌≢◌, ◌⊎◌, true, ℕ, suc, ◌<◌, List, [], ◌∷◌, get_or, None, Some, ⊤}
use Rattle.bac_value.specs.Value.{ObjectId}
use Rattle.bac_value.specs.Views.{object_identifier_view}
use Rattle.bac_value.specs.declared.value.ObjectIdentifier.{ObjectIdentifier}
use Rattle.bac_store.specs.AtNode.{Change, IsFaultOf}
use Rattle.bac_store.specs.Stores.{Store}
use Rattle.bac_store.specs.Writes.{file_at, listed_at}
use Rattle.bac_store.specs.declared.change_fault.ChangeFault.{ChangeFault}
use Rattle.bac_store.specs.declared.change_fault.ChangeFault.TheVariants.{NoMemory}
use Rattle.bac_keep.specs.Cells.{Cells, NUMBERS, file_place, value_place}
use Rattle.bac_keep.specs.Overlay.{joined}
use Rattle.bac_keep.specs.Parts.{IsForNothing}
use Rattle.bac_keep.specs.Restored.{is_writable_file, is_writable_value}
use Rattle.bac_keep.specs.declared.cell.Cell.{Cell}
use Rattle.bac_keep.specs.declared.fault.KeepFault.{KeepFault}
use Rattle.bac_keep.specs.declared.fault.KeepFault.TheVariants as fault

-- the document has the property, it may be written, and it cannot have the values that are kept
pub record IsBadValues (document : Store) (cells : Cells) (id : ObjectId) (n : ℕ) (e : ChangeFault) : Type 0 where
  pub values : List ℕ
  pub small : n < NUMBERS
  pub are_kept : cells (value_place id n) ≡ Some values
  pub writable : is_writable_value (listed_at document id n) ≡ true
  pub fault : IsFaultOf document (Change.Value id n values) e
  pub enough_memory : e ≢ NoMemory

-- the document has the file, it may be written, and it cannot have the octets that are kept
pub record IsBadOctets (document : Store) (cells : Cells) (id : ObjectId) (e : ChangeFault) : Type 0 where
  pub count : ℕ
  pub are_kept : cells (file_place id 0) ≡ Some (count ∷ [])
  pub writable : is_writable_file (file_at document id) ≡ true
  pub fault : IsFaultOf document (Change.File id (joined cells id count)) e
  pub enough_memory : e ≢ NoMemory

-- why a store does not take these values, and these octets, where it is not that memory is short
abbrev pub AreBadValues : Store → ObjectIdentifier → ℕ → List ℕ → KeepFault → Type 0
AreBadValues s object n values (fault.BadValues o m e) =
    (o ≡ object) × (m ≡ n) × (is_writable_value (listed_at s (object_identifier_view object) n) ≡ true)
    × IsFaultOf s (Change.Value (object_identifier_view object) n values) e × (e ≢ NoMemory)
AreBadValues s object n values fault.NoMemory = ⊤
AreBadValues s object n values _ = ⊥

abbrev pub AreBadOctets : Store → ObjectIdentifier → List ℕ → KeepFault → Type 0
AreBadOctets s object octets (fault.BadOctets o e) = (o ≡ object) × IsFaultOf s (Change.File (object_identifier_view object) octets) e × (e ≢ NoMemory)
AreBadOctets s object octets fault.NoMemory = ⊤
AreBadOctets s object octets _ = ⊥

-- a cell at a place that is for nothing
pub record IsForeign (cells : Cells) : Type 0 where
  pub place : ℕ
  pub there : cells place ≢ None
  pub nothing : IsForNothing place

-- one of so many chunks of a file is not there
pub record LacksChunk (cells : Cells) (id : ObjectId) (count : ℕ) : Type 0 where
  pub chunk : ℕ
  pub small : chunk < count
  pub missing : cells (file_place id (suc chunk)) ≡ None

-- these octets are not a number of chunks, which is one octet, or one of so many chunks is not there
abbrev pub IsBadCount : Cells → ObjectId → List ℕ → Type 0
IsBadCount cells id [] = ⊤
IsBadCount cells id (count ∷ []) = LacksChunk cells id count
IsBadCount cells id (count ∷ n ∷ more) = ⊤

-- the cell at this index of a list has this place
abbrev pub IsAt : List Cell → ℕ → (place : ℕ) → Type 0
IsAt cells at place = (d : Cell) → (get_or cells at d).place ≡ place

-- why the octets of a file are not there, where `lacks` says that it lacks a chunk
abbrev pub AreNoOctets : (lacks : Type 0) → KeepFault → Type 0
AreNoOctets lacks fault.BadRow = lacks
AreNoOctets lacks fault.NoMemory = ⊤
AreNoOctets lacks _ = ⊥

-- the document has the file, it may be written, and what is kept as the number of its chunks is no number, or one of so many chunks is not kept
pub record HasBadFile (document : Store) (cells : Cells) : Type 0 where
  pub id : ObjectId
  pub octets : List ℕ
  pub are_kept : cells (file_place id 0) ≡ Some octets
  pub bad : IsBadCount cells id octets
  pub writable : is_writable_file (file_at document id) ≡ true

-- a cell at a place that is for nothing, or a bad one of a file that the document lets be written
abbrev pub HasBadCell : Store → Cells → Type 0
HasBadCell document cells = IsForeign cells ⊎ HasBadFile document cells

-- why a document and cells make no store
abbrev pub IsUnfit : Store → Cells → KeepFault → Type 0
IsUnfit document cells (fault.BadValues object n e) = IsBadValues document cells (object_identifier_view object) n e
IsUnfit document cells (fault.BadOctets object e) = IsBadOctets document cells (object_identifier_view object) e
IsUnfit document cells fault.BadRow = HasBadCell document cells
IsUnfit document cells fault.NoMemory = ⊤
IsUnfit document cells _ = ⊥
