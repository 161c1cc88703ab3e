-- What the calls of a keeper over a store make of that store.
use Rattle.std.specs.Prelude.{◌≡◌, ◌≤◌, ℕ, List, false, IsTrue}
use Rattle.sqlite_trees.specs.View.{IsClean, View, doubt}
use Rattle.sqlite_trees.specs.Tree.{Trees}
use Rattle.sqlite_trees.specs.declared.store.Shape.TheVariants.{Table}
use Rattle.bac_store.specs.Stores.{Store}
use Rattle.bac_keep.specs.declared.cell.Cell.{Cell}
use Rattle.bac_keep.specs.Cells.{Cells}
use Rattle.bac_keep.specs.Made.{IsKeepable, Made, after_made}
use Rattle.bac_keep.specs.Overlay.{overlay}
use Rattle.bac_keep_file.specs.Rows.{AreCells, cells_of}

-- the store is open, and its table is there, without a column of REAL values; some writes may wait for a commit
pub record IsReady (v : View) : Type 0 where
  pub table : v.shape 0 ≡ Table
  pub plain : v.reals 0 ≡ 0
  pub sound : v.is_broken ≡ false
  pub is_open : IsTrue v.is_open

-- it is ready, unless a wrong answer of the disk was taken as true
abbrev pub IsReadyIfClean : View → Type 0
IsReadyIfClean v = IsClean v → IsReady v

-- the transaction sees what it saw, unless a wrong answer of the disk was taken as true
abbrev pub SameTrees : View → View → Type 0
SameTrees old new = IsClean new → new.trees ≡ old.trees

-- what the last commit left is as it was, unless a wrong answer of the disk was taken as true
abbrev pub SameCommitted : View → View → Type 0
SameCommitted old new = IsClean new → new.committed ≡ old.committed

-- the same, as long as the store is open
abbrev pub StaysCommitted : View → View → Type 0
StaysCommitted old new = IsClean new → IsTrue new.is_open → new.committed ≡ old.committed

-- the store that a document and the cells of these trees make
abbrev pub store_over : Store → Trees → Store
store_over document trees = overlay (cells_of trees) document

-- what a node made of the store that a document and a database make, which is this store now
pub record IsMadeOver (document : Store) (made : Made) (old : View) (store : Store) : Type 0 where
  pub is : store ≡ after_made made (store_over document old.trees)
  -- a keeper has a place for it
  pub keepable : IsKeepable made (store_over document old.trees)

-- a document and the cells that wait for a commit make this store; the last commit is as it was
pub record HasNoted (document store : Store) (old new : View) : Type 0 where
  pub ready : IsReady new
  pub noted : store_over document new.trees ≡ store
  pub committed : new.committed ≡ old.committed

-- a document and the last commit make this store, and nothing else waits for a commit
pub record HasFound (document : Store) (old : View) (store : Store) (new : View) : Type 0 where
  pub ready : IsReady new
  pub kept : store_over document new.committed ≡ store
  pub noted : store_over document new.trees ≡ store
  pub found : store ≡ store_over document old.committed

-- that, unless a wrong answer of the disk was taken as true
abbrev pub FindsStore : Store → View → Store → View → Type 0
FindsStore document old store new = IsClean new → HasFound document old store new

-- these cells wait for a commit, in place of those that were there; the last commit is as it was
pub record HasCells (old : View) (cells : Cells) (new : View) : Type 0 where
  pub ready : IsReady new
  pub has : cells_of new.trees ≡ cells
  pub committed : new.committed ≡ old.committed

-- that, unless a wrong answer of the disk was taken as true
abbrev pub GetsCells : View → Cells → View → Type 0
GetsCells old cells new = IsClean new → HasCells old cells new

-- all cells of the table are read, and a store that was ready has what it had
pub record HasRead (old : View) (cells : List Cell) (new : View) : Type 0 where
  pub are : AreCells (old.trees 0) cells
  pub ready : IsReady new
  pub trees : new.trees ≡ old.trees
  pub committed : new.committed ≡ old.committed

-- a crash leaves nothing that it could not leave before
abbrev pub NoMore : {S : Type 0} → (S → Trees → Type 0) → S → S → Type 0
NoMore recovers old new = (db : Trees) → recovers new db → recovers old db

-- what a call that commits nothing leaves of a store
pub record CommitsNothing {S : Type 0} (view : S → View) (faults : S → ℕ) (recovers : S → Trees → Type 0) (old new : S) : Type 0 where
  -- a wrong answer of the disk that was taken as true stays so
  pub clean : doubt (view old).is_clean ≤ doubt (view new).is_clean
  -- no fault of the disk is forgotten
  pub counts : faults old ≤ faults new
  pub crash : NoMore recovers old new
