use Rattle.std.proofs.Common.{◌≡◌, ◌∙◌, List, ℕ, ap, ap₂, sym, subst, IsTrue}
use Rattle.sqlite_wal.specs.Recovery.{Image}
use Rattle.sqlite_store.specs.FileStore.{view}
use Rattle.sqlite_trees.specs.Tree.{Trees}
use Rattle.sqlite_trees.specs.View.{View}
use Rattle.sqlite.specs.Effect.{Database}
use Rattle.sqlite.specs.Files.{AreFoundIn, HoldsDatabase, image_of}
use Rattle.bac_keep_file.specs.Made.{HasNoTable, HasNone}
use Rattle.bac_keep_file.proofs.file.open_files.Goals as goal

abbrev image : List ℕ → List ℕ → Image
image log db = record { log = log; db = db }

pub returns : goal.returns
returns g c =
    let checked = c.in_ok-check_files.ensures in
    let same : image_of g.D.Disk c.check_files.new.files ≡ image_of g.D.Disk c.args.files =
    ap₂ image checked.log.seen checked.db.seen in
    let first = c.in_ok-store.ensures in
    let last = c.in_ok-store-2.ensures in
    record {
      found = record {
        found = λ old clean still db holds.
            let is = last.same old clean still in
            let was = subst (λ (v : View). IsTrue v.is_open) is still in
            ap (λ (v : View). v.committed) is ∙ first.same old (last.clean clean) was
            ∙ (c.in-Ok.ensures.found (first.clean (last.clean clean))).holds db (subst (λ (i : Image). HoldsDatabase i db) (sym same) holds);
        read = λ old clean still.
            let is = last.same old clean still in
            let was = subst (λ (v : View). IsTrue v.is_open) is still in
            subst (λ (i : Image). AreFoundIn i (view c.in_ok-store-2.store).committed) same
            (subst (AreFoundIn (image_of g.D.Disk c.check_files.new.files)) (sym (ap (λ (v : View). v.committed) is ∙ first.same old (last.clean clean) was))
            (c.in-Ok.ensures.found (first.clean (last.clean clean))).reads);
      };
      made = record {
        made = λ new clean db holds.
            let opened = (c.in-Ok.ensures.opened (first.clean (last.clean clean))).0 in
            subst HasNoTable (ap (λ (x : Database). x.trees) opened.clean
            ∙ (c.in-Ok.ensures.found (first.clean (last.clean clean))).holds db (subst (λ (i : Image). HoldsDatabase i db) (sym same) holds))
            (first.none new opened.is_open);
        bare = λ new clean.
            let opened = (c.in-Ok.ensures.opened (first.clean (last.clean clean))).0 in
            subst (λ (i : Image). HasNone (AreFoundIn i)) same (record {
              db = _;
              found = (c.in-Ok.ensures.found (first.clean (last.clean clean))).reads;
              none = subst HasNoTable (ap (λ (x : Database). x.trees) opened.clean) (first.none new opened.is_open);
            });
        empty = last.empty;
      };
    }
