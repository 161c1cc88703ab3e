-- What a put makes of the cells.
use Rattle.std.proofs.Common.{◌≡◌, ◌≤◌, ℕ, ℤ, pos, false, List, [], ◌∷◌, Some, refl, sym, ap, ◌∙◌, subst}
use Rattle.sqlite_value.specs.declared.value.Value.TheVariants.{Blob, Int, Null}
use Rattle.sqlite_value.specs.Order.{Row}
use Rattle.sqlite_trees.specs.Tree.{Trees, put_row, with_tree}
use Rattle.sqlite_trees.specs.View.{View, IsClean, IsOrdered, SetsTree, doubt}
use Rattle.bac_value.specs.Value.{ObjectId}
use Rattle.bac_keep.specs.Overlay.{with_chunks}
use Rattle.bac_keep.specs.Cells.{Cells, with_cell}
use Rattle.bac_keep_file.specs.Rows.{IsRowOf, cells_of}
use Rattle.bac_keep_file.specs.Steps.{HasCells, IsReady, NoMore}
use Rattle.bac_keep_file.proofs.Finding.{found-put, ints, there_already}

-- the row of a cell
pub is_row : (place : ℕ) (octets : List ℕ) (kind instance n : ℤ) (row : Row) → row ≡ Int (pos place) ∷ Null ∷ Blob octets ∷ Int kind ∷ Int instance ∷ Int n ∷ []
    → IsRowOf place octets row
is_row place octets kind instance n row is = subst (IsRowOf place octets) (sym is) (record { keyed = refl; holds = refl })

pub puts : (old mid new : View) (place : ℕ) (octets : List ℕ) (row : Row) → IsReady old → (old.is_broken ≡ false → IsOrdered old.shape old.trees) → mid ≡ old
    → IsRowOf place octets row → SetsTree mid new 0 (put_row row) → HasCells old (with_cell place octets (cells_of old.trees)) new
puts old mid new place octets row ready ordered same is sets =
    let put : new ≡ record old { trees = with_tree old.trees 0 (put_row row (old.trees 0)); cursors = new.cursors } =
    sets.is ∙ ap (λ (v : View). record v { trees = with_tree v.trees 0 (put_row row (v.trees 0)); cursors = new.cursors }) same in
    subst (HasCells old (with_cell place octets (cells_of old.trees))) (sym put) (record {
      ready = record { table = ready.table; plain = ready.plain; sound = ready.sound; is_open = ready.is_open };
      has = λ i q. found-put place octets row is (old.trees 0) (ints old ready ordered) q i;
      committed = refl;
    })

pub stays : (old mid : View) (place : ℕ) (octets : List ℕ) → IsReady old → mid ≡ old → cells_of old.trees place ≡ Some octets
    → HasCells old (with_cell place octets (cells_of old.trees)) mid
stays old mid place octets ready same is =
    subst (HasCells old (with_cell place octets (cells_of old.trees))) (sym same) (record {
      ready = ready;
      has = λ i q. there_already place octets (cells_of old.trees) is q i;
      committed = refl;
    })

-- nothing is put
pub idle : (v : View) → IsReady v → HasCells v (cells_of v.trees) v
idle v ready = record { ready = ready; has = refl; committed = refl }

-- one put after another
pub and_then : (old mid new : View) (cells : Cells) (place : ℕ) (octets : List ℕ) → HasCells old cells mid
    → HasCells mid (with_cell place octets (cells_of mid.trees)) new
    → HasCells old (with_cell place octets cells) new
and_then old mid new cells place octets before now = record {
  ready = now.ready;
  has = now.has ∙ ap (with_cell place octets) before.has;
  committed = now.committed ∙ before.committed;
}

-- so many chunks are put
pub record IsPutting {S : Type 0} (view : S → View) (faults : S → ℕ) (recovers : S → Trees → Type 0) (id : ObjectId) (octets : List ℕ) (old : S) (count : ℕ) (new : S) : Type
    0 where
  pub clean : doubt (view old).is_clean ≤ doubt (view new).is_clean
  pub put : IsClean (view new) → HasCells (view old) (with_chunks id octets count (cells_of (view old).trees)) (view new)
  pub counts : faults old ≤ faults new
  pub crash : NoMore recovers old new
