-- Why a start from a document and a database is refused.
use Rattle.std.specs.Prelude.{◌≡◌, ◌<◌, ◌≤◌, ◌⊎◌, false, true, ℕ, List, [], ◌∷◌, IfSome, ⊤}
use Rattle.bac_value.specs.Views.{object_identifier_view}
use Rattle.bac_value.specs.Value.{ObjectId}
use Rattle.bac_store.specs.Stores.{Store}
use Rattle.bac_store.specs.Writes.{listed_at}
use Rattle.sqlite_value.specs.Order.{Row}
use Rattle.sqlite_disk.specs.Disk.{MoreFaults}
use Rattle.sqlite_trees.specs.View.{IsClean, View}
use Rattle.sqlite_trees.specs.declared.store.Shape.TheVariants.{Table}
use Rattle.bac_keep.specs.Cells.{NUMBERS}
use Rattle.bac_keep.specs.Refused.{HasBadCell, IsBadOctets, IsBadValues}
use Rattle.bac_keep.specs.declared.fault.DatabaseFault.TheVariants.{OutOfMemory}
use Rattle.bac_keep.specs.declared.fault.KeepFault.{KeepFault}
use Rattle.bac_keep.specs.declared.fault.KeepFault.TheVariants as fault
use Rattle.bac_keep_file.specs.Rows.{IsRowOf, cells_of}

-- the first table is missing, or it has a column of REAL values
abbrev pub HasNoCells : View → Type 0
HasNoCells v = ¬ ((v.committed_shape 0 ≡ Table) × (v.committed_reals 0 ≡ 0))

-- why a database cannot be used, which was so before a rollback and is so after it
abbrev pub IsUnready : View → View → KeepFault → Type 0
IsUnready old new fault.Shut = new.is_open ≡ false
IsUnready old new fault.NoTable = HasNoCells old
IsUnready old new _ = ⊥

-- a row that is no cell
abbrev pub IsNoCell : Row → Type 0
IsNoCell r = (place : ℕ) (octets : List ℕ) → IsRowOf place octets r → ⊥

-- one of the rows
abbrev pub Has : List Row → Row → Type 0
Has [] r = ⊥
Has (q ∷ rows) r = (r ≡ q) ⊎ Has rows r

-- a row of these is no cell
pub record HasOtherRow (rows : List Row) : Type 0 where
  pub row : Row
  pub there : Has rows row
  pub other : IsNoCell row

-- why these rows are not read, where `failed` says that the disk failed or refused
abbrev pub IsUnreadable : List Row → (failed : Type 0) → KeepFault → Type 0
IsUnreadable rows failed (fault.Database e) = (e ≡ OutOfMemory) ⊎ failed
IsUnreadable rows failed fault.BadRow = HasOtherRow rows
IsUnreadable rows failed fault.NoMemory = ⊤
IsUnreadable rows failed _ = ⊥

-- why a cell is not put into the table, where `failed` says that the disk failed or refused
abbrev pub IsUnput : (failed : Type 0) → KeepFault → Type 0
IsUnput failed (fault.Database e) = (e ≡ OutOfMemory) ⊎ failed
IsUnput failed fault.NoMemory = ⊤
IsUnput failed _ = ⊥

-- a property that the network may write has a number that a place has room for
abbrev pub HasRoom : Store → ObjectId → (number : ℕ) → Type 0
HasRoom store id number = IfSome (listed_at store id number) (λ p. p.writable ≡ true → number < NUMBERS)

-- why the values of the property with this number are not noted
abbrev pub IsUnnotedValue : (number : ℕ) → (failed : Type 0) → KeepFault → Type 0
IsUnnotedValue number failed fault.HighNumber = NUMBERS ≤ number
IsUnnotedValue number failed e = IsUnput failed e

-- why a start is refused, where the database was so before it and is so after it, and `failed` says that the disk failed or refused
abbrev pub IsRefused : Store → View → View → (failed : Type 0) → KeepFault → Type 0
IsRefused document old new failed fault.Shut = new.is_open ≡ false
IsRefused document old new failed fault.NoTable = HasNoCells old
IsRefused document old new failed (fault.BadValues object n e) = IsBadValues document (cells_of old.committed) (object_identifier_view object) n e
IsRefused document old new failed (fault.BadOctets object e) = IsBadOctets document (cells_of old.committed) (object_identifier_view object) e
IsRefused document old new failed (fault.Database e) = (e ≡ OutOfMemory) ⊎ failed
IsRefused document old new failed fault.BadRow = HasOtherRow (old.committed 0) ⊎ HasBadCell document (cells_of old.committed)
IsRefused document old new failed fault.NoMemory = ⊤
IsRefused document old new failed fault.HighNumber = ⊥

-- that, of a database before and after the start, unless a wrong answer of the disk was taken as true
abbrev pub RefusesStart : {S : Type 0} → (view : S → View) → (faults : S → ℕ) → Store → (old new : S) → KeepFault → Type 0
RefusesStart view faults document old new e = IsClean (view new) → IsRefused document (view old) (view new) (MoreFaults (faults old) (faults new)) e
