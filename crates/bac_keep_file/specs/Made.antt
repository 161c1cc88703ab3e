-- When the table of cells is made.
use Rattle.std.specs.Prelude.{◌≡◌, Bool, false, true, IsTrue, []}
use Rattle.sqlite_schema.specs.declared.schema.Schema.{Schema}
use Rattle.sqlite_trees.specs.Tree.{Trees}
use Rattle.sqlite_trees.specs.View.{IsClean, View}
use Rattle.sqlite.specs.Effect.{IsDatabase}
use Rattle.bac_keep.specs.Cells.{no_cells}
use Rattle.bac_keep_file.specs.Rows.{cells_of}
use Rattle.bac_keep_file.specs.Steps.{IsReady}

-- a schema without tables describes the database; tables that are only kept as they are, since SQL cannot read their definition, are not among them
pub record HasNoTable (db : Trees) : Type 0 where
  pub schema : Schema
  pub described : IsDatabase (record { schema = schema; trees = db })
  pub none : schema.tables ≡ []

-- one of the databases that may be found has no table
pub record HasNone (may_find : Trees → Type 0) : Type 0 where
  pub db : Trees
  pub found : may_find db
  pub none : HasNoTable db

-- the table is there, and nothing is kept in it
pub record HasEmptyTable (v : View) : Type 0 where
  pub ready : IsReady v
  pub empty : cells_of v.committed ≡ no_cells

-- what an open has, of files that had the table; `holds` says what their whole image is, and `may_find` what they recover to
pub record HasTable (holds may_find : Trees → Type 0) (is_new : Bool) (v : View) : Type 0 where
  -- just what the files hold
  pub found : is_new ≡ false → IsClean v → IsTrue v.is_open → (db : Trees) → holds db → v.committed ≡ db
  pub read : is_new ≡ false → IsClean v → IsTrue v.is_open → may_find v.committed

-- what it has, of files that had no table: it made one
pub record MakesTable (holds may_find : Trees → Type 0) (is_new : Bool) (v : View) : Type 0 where
  pub made : is_new ≡ true → IsClean v → (db : Trees) → holds db → HasNoTable db
  pub bare : is_new ≡ true → IsClean v → HasNone may_find
  pub empty : is_new ≡ true → IsClean v → HasEmptyTable v
