-- What `serve --keep` and `keep` print, and their statuses.
use Rattle.std.specs.Prelude.{◌≡◌, ⊤, ◌||◌, ℕ, Bool, true, false, not, List, Option, None, Some, IfSome}
use Rattle.std.specs.Io.KnownBytes.{Keeps}
use Rattle.sqlite_trees.specs.Tree.{Trees}
use Rattle.sqlite_trees.specs.View.{IsClean, View}
use Rattle.bac_store.specs.House.{house}
use Rattle.bac_store.specs.Stores.{Store}
use Rattle.bac_keep.specs.Overlay.{overlay}
use Rattle.bac_keep_file.specs.Rows.{cells_of}
use Rattle.bac_keep_file.specs.Settling.{MayFind}
use Rattle.bac_keep_file.specs.Steps.{IsReady}
use Rattle.bac_text.specs.declared.status.Status.{Status}
use Rattle.bac_driver.specs.Runs.{Timed}
use Rattle.bac_server.specs.Kept.{AllIsKept, RoundsText}
use Rattle.bac_commands.specs.Statuses.{ByStatus}
use Rattle.bac_environment.specs.Files.{OfFile}
use Rattle.bac_environment.specs.Sockets.{Clocks, Links}
use Rattle.bac_serving.specs.Online.{IsServer}
use Rattle.bac_serving.specs.Serving.{patience_of}
use Rattle.bac_environment.specs.Limits.{turns_of}
use Rattle.bac_serving.specs.Stores.{MeansStore}
use Rattle.bac_serving.specs.Stretches.{PrintsStretches, ServesInRounds, stop_of}
use Rattle.bac_serving.specs.declared.looking.Stop.{Stop}
use Rattle.bac_serving.specs.declared.serving.Serving.{Serving}

-- ---- the document

-- the house, or a store that a file at the path means
abbrev pub IsDocument : (IsFile : (path : List ℕ) → (content : Option (List ℕ)) → Type 0) → (objects : Option (List ℕ)) → Store → Type 0
IsDocument IsFile None document = document ≡ house
IsDocument IsFile (Some path) document = OfFile IsFile path (λ content. MeansStore content document)

-- this is so of it
pub record OfDocument (IsFile : (path : List ℕ) → (content : Option (List ℕ)) → Type 0) (objects : Option (List ℕ)) (Says : Store → Type 0) : Type 0 where
  pub document : Store
  pub is : IsDocument IsFile objects document
  pub says : Says document

-- a document is followed where that is told, and there is one
abbrev pub is_followed : Serving → (objects : Option (List ℕ)) → Bool
is_followed serving None = false
is_followed serving (Some path) = serving.follow

-- what a keeper lies over in the end: what it lay over at first; where a document was followed, nothing is said of it
abbrev pub LiesOver : {B : Type 0} → (followed : Bool) → (first last : B) → Type 0
LiesOver false first last = last ≡ first
LiesOver true first last = ⊤

-- ---- the database

-- a database that was opened, over a document: as long as it is honest, it was so at first, it has committed what makes the store, and nothing waits for a commit
pub record HasStore {D : Type 0} (view : D → View) (opened : D) (document store : Store) (database : D) : Type 0 where
  pub honest : IsClean (view database) → IsClean (view opened)
  pub ready : IsClean (view database) → IsReady (view database)
  pub found : IsClean (view database) → store ≡ overlay (cells_of (view opened).committed) document
  pub kept : IsClean (view database) → overlay (cells_of (view database).committed) document ≡ store
  pub noted : IsClean (view database) → overlay (cells_of (view database).trees) document ≡ store

-- a database that the machine opened at a path, and that is so in the end: as long as it is honest, it was so at first, the first store is what it had
-- committed over the document, or where it was followed over some store, and the next start over that finds the last one, whatever a power cut leaves
pub record OnDatabase {D : Type 0} (IsDatabase : (path : List ℕ) → (is_new : Bool) → D → Type 0) (view : D → View) (recovers : D → Trees → Type 0)
    (followed : Bool) (path : List ℕ) (is_new : Bool) (document first last : Store) : Type 0 where
  pub opened : D
  pub made : IsDatabase path is_new opened
  pub ended : D
  pub honest : IsClean (view ended) → IsClean (view opened)
  pub found : IsClean (view ended) → first ≡ overlay (cells_of (view opened).committed) document
  pub over : Store
  pub is_over : LiesOver followed document over
  pub kept : IsClean (view ended) → (s : Store) → MayFind recovers ended over s → s ≡ last

-- What follows takes such a relation.
abbrev pub Databases : Type 1
Databases = (followed : Bool) → (path : List ℕ) → (is_new : Bool) → (document first last : Store) → Type 0

-- ---- serving

-- a keeper, which began as that one, keeps a store, over what it lay over at first, or over a document that was followed; if one is given back, it is this one
pub record EndsWith {K B : Type 0} (IsHonest IsOpen : K → Type 0) (kept noted : K → Store) (base : K → B) (followed : Bool) (first : K) (back : Option K)
    (store : Store) : Type 0 where
  pub last : K
  pub same : IfSome back (λ k. k ≡ last)
  pub honest : IsHonest last → IsHonest first
  pub is_over : LiesOver followed (base first) (base last)
  pub all : AllIsKept IsHonest IsOpen kept noted last store

-- it took rounds from a moment on, and how many requests it performed was printed
abbrev pub RunsInRounds : Serving → (start : ℕ) → (before : Timed) → (old new : Option (List ℕ)) → (after : Timed) → Type 0
RunsInRounds serving start before old new after = RoundsText (patience_of serving start) (turns_of serving.turns) before after old new

-- so it did, in stretches of rounds up to a stop; between them it may have changed its own store, which was kept then
abbrev pub RunsInStretches : Stop → (before : Timed) → (old new : Option (List ℕ)) → (after : Timed) → Type 0
RunsInStretches stop before old new after = PrintsStretches ServesInRounds stop before after old new

-- in stretches where a document is followed
abbrev pub Runs : (followed : Bool) → Serving → (start : ℕ) → (before : Timed) → (old new : Option (List ℕ)) → (after : Timed) → Type 0
Runs false serving start before old new after = RunsInRounds serving start before old new after
Runs true serving start before old new after = RunsInStretches (stop_of serving start) before old new after

-- it ran so, and this is so of its store in the end
pub record RunsTo (Text : (after : Timed) → Type 0) (Ends : Store → Type 0) : Type 0 where
  pub after : Timed
  pub text : Text after
  pub ends : Ends after.bound_node.node.store

-- a node with a store served from a moment on, how many requests it performed was printed, and this is so of its store in the end
pub record ServesStore (followed : Bool) (store : Store) (IsOn : Links) (IsClock : Clocks) (serving : Serving) (Ends : Store → Type 0)
    (old new : Option (List ℕ)) : Type 0 where
  pub start : ℕ
  pub before : Timed
  pub server : IsServer IsOn IsClock serving store start before
  pub run : RunsTo (Runs followed serving start before old new) Ends

abbrev pub IsServedStore : (followed : Bool) → Store → Links → Clocks → Status → Serving → (Ends : Store → Type 0) → (old new : Option (List ℕ)) → Type 0
IsServedStore followed store IsOn IsClock s serving Ends old new =
    ByStatus s (ServesStore followed store IsOn IsClock serving Ends old new) ⊥ (Keeps old new)

-- a server whose database is not new restarts
abbrev pub restarted_by : (is_new : Bool) → Serving → Serving
restarted_by is_new serving = record serving { restarted = serving.restarted || not is_new }

-- over the document a node served with the store that a database at the path keeps
pub record ServesKept (followed : Bool) (IsOnDatabase : Databases) (IsOn : Links) (IsClock : Clocks) (serving : Serving) (path : List ℕ)
    (old new : Option (List ℕ)) (document : Store) : Type 0 where
  pub is_new : Bool
  pub first : Store
  pub serves : ServesStore followed first IsOn IsClock (restarted_by is_new serving) (IsOnDatabase followed path is_new document first) old new

-- where the command line is refused, nothing was printed
abbrev pub IsServedOver : (followed : Bool) → Databases → Links → Clocks → Status → Serving → (path : List ℕ) → (document : Store)
    → (old new : Option (List ℕ)) → Type 0
IsServedOver followed IsOnDatabase IsOn IsClock s serving path document old new =
    ByStatus s (ServesKept followed IsOnDatabase IsOn IsClock serving path old new document) ⊥ (Keeps old new)

abbrev pub IsServedKept : (IsFile : (path : List ℕ) → (content : Option (List ℕ)) → Type 0) → (objects : Option (List ℕ)) → Databases → Links → Clocks
    → Status → Serving → (path : List ℕ) → (old new : Option (List ℕ)) → Type 0
IsServedKept IsFile objects IsOnDatabase IsOn IsClock s serving path old new =
    ByStatus s (OfDocument IsFile objects (ServesKept (is_followed serving objects) IsOnDatabase IsOn IsClock serving path old new)) ⊥ (Keeps old new)

-- ---- listing: what is printed stands in Listing

abbrev pub IsListed : Status → (old new : Option (List ℕ)) → Type 0
IsListed s old new = ByStatus s (Unit {0}) ⊥ (Keeps old new)

-- a file could be opened at the path
pub record IsThere {File : Type 0} (IsFile : (path : List ℕ) → File → Type 0) (path : List ℕ) : Type 0 where
  pub file : File
  pub opened : IsFile path file

-- what a file keeps is told only where it was there before: none is made
abbrev pub IsToldOf : Status → (there : Type 0) → Type 0
IsToldOf s there = ByStatus s there ⊥ (Unit {0})
