-- What a power cut leaves, and that it is what is kept while the database is open.
use Rattle.std.specs.Prelude.{◌≡◌, IsTrue}
use mathlib.Core.Path.{ap, ◌∙◌}
use Rattle.bac_store.specs.Stores.{Store}
use Rattle.sqlite_trees.specs.View.{View}
use Rattle.sqlite_trees.specs.Tree.{Trees}
use Rattle.bac_keep.specs.Overlay.{overlay}
use Rattle.bac_keep_file.specs.Rows.{cells_of}
use Rattle.bac_keep_file.specs.Steps.{IsReady}

-- some outcome of a power cut gives this store
abbrev pub MayFind : {S : Type 0} → (S → Trees → Type 0) → S → Store → Store → Type 0
MayFind recovers database document s = (db : Trees) × recovers database db × (s ≡ overlay (cells_of db) document)

pub settles : {S : Type 0} (view : S → View) (recovers : S → Trees → Type 0)
    → ((s : S) (db : Trees) → IsTrue (view s).is_open → recovers s db → db ≡ (view s).committed)
    → (database : S) (document s : Store) → IsReady (view database) → MayFind recovers database document s
    → s ≡ overlay (cells_of (view database).committed) document
settles view recovers settled database document s ready may =
    may.2 ∙ ap (λ (db : Trees). overlay (cells_of db) document) (settled database may.0 ready.is_open may.1)
