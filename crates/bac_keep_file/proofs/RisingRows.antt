-- The cells of the rows of a table, whose places rise.
use Rattle.std.proofs.Common.{◌≡◌, ◌==◌, ℕ, pos, ◌<◌, false, List, [], ◌∷◌, Option, Some}
use Rattle.std.proofs.Common.{refl, sym, ap, ◌∙◌, subst, arith, if◌then◌else◌, Less}
use Rattle.std.specs.List.{AllByRecursion}
use Rattle.std.proofs.lemmas.Bool.Decides.{nat_tests}
use Rattle.sqlite_value.specs.declared.value.Value.{Value}
use Rattle.sqlite_value.specs.declared.value.Value.TheVariants.{Int}
use Rattle.sqlite_value.specs.Order.{Row, value_cmp}
use Rattle.sqlite_value.proofs.OrderLemmas.{value_cmp-Int}
use Rattle.sqlite_trees.specs.Tree.{IsTable, rowid}
use Rattle.sqlite_trees.specs.View.{View, IsOrdered, IsShaped}
use Rattle.sqlite_trees.specs.declared.store.Shape.{Shape}
use Rattle.bac_store.specs.Stores.{Store}
use Rattle.bac_keep.specs.declared.cell.Cell.{Cell}
use Rattle.bac_keep.specs.Cells.{Cells}
use Rattle.bac_keep.specs.Held.{IsRising, held}
use Rattle.bac_keep.specs.Overlay.{overlay}
use Rattle.bac_keep_file.specs.Rows.{AreCells, IsRowOf, cells_of, found}
use Rattle.bac_keep_file.specs.Steps.{IsReady}
use Rattle.bac_keep_file.proofs.Finding.{on_top}

-- what the rows have is what the cells have
pub found-held : (rows : List Row) (cells : List Cell) → AreCells rows cells → (q : ℕ) → found rows q ≡ held cells q
found-held [] [] are q = refl
found-held [] (c ∷ cs) are q = absurd are
found-held (r ∷ rs) [] are q = absurd are
found-held (r ∷ rs) (c ∷ cs) are q =
    on_top c.place c.octets.items r are.0 rs q ∙ ap (λ (x : Option (List ℕ)). if q == c.place then Some c.octets.items else x) (found-held rs cs are.1 q)

below : (a b : ℕ) → value_cmp (Int (pos a)) (Int (pos b)) ≡ Less → a < b
below a b e = let f = sym (value_cmp-Int (pos a) (pos b)) ∙ e in grind (arith, nat_tests, f)

all_above : (r : Row) (c : Cell) → IsRowOf c.place c.octets.items r → (rs : List Row) (cs : List Cell) → AreCells rs cs
    → AllByRecursion (λ b. value_cmp (rowid r) (rowid b) ≡ Less) rs → AllByRecursion (λ (d : Cell). c.place < d.place) cs
all_above r c is [] [] are all = tt
all_above r c is [] (d ∷ cs) are all = absurd are
all_above r c is (q ∷ rs) [] are all = absurd are
all_above r c is (q ∷ rs) (d ∷ cs) are all = (
  below c.place d.place (sym (ap (λ (v : Value). value_cmp v (Int (pos d.place))) is.keyed) ∙ sym (ap (value_cmp (rowid r)) are.0.keyed) ∙ all.0),
  all_above r c is rs cs are.1 all.1,
)

pub rising : (rows : List Row) (cells : List Cell) → AreCells rows cells → IsTable rows → IsRising cells
rising [] [] are table = tt
rising [] (c ∷ cs) are table = absurd are
rising (r ∷ rs) [] are table = absurd are
rising (r ∷ rs) (c ∷ cs) are table = (all_above r c are.0 rs cs are.1 table.0, rising rs cs are.1 table.1)

-- the rows of the table rise
pub table : (v : View) → IsReady v → (v.is_broken ≡ false → IsOrdered v.shape v.trees) → IsTable (v.trees 0)
table v ready ordered = (subst (λ (s : Shape). IsShaped s (v.trees 0)) ready.table (ordered ready.sound 0)).0

-- the cells that were read are those of the table, and they rise
pub read_rising : (v : View) (cells : List Cell) → IsReady v → (v.is_broken ≡ false → IsOrdered v.shape v.trees) → AreCells (v.trees 0) cells
    → IsRising cells × (held cells ≡ cells_of v.trees)
read_rising v cells ready ordered are = (rising (v.trees 0) cells are (table v ready ordered), λ i q. sym (found-held (v.trees 0) cells are q) i)

-- the store of a document and the cells that were read
pub opened : (v : View) (cells : List Cell) (document s : Store) → IsReady v → (v.is_broken ≡ false → IsOrdered v.shape v.trees) → AreCells (v.trees 0) cells
    → (IsRising cells → s ≡ overlay (held cells) document) → s ≡ overlay (cells_of v.trees) document
opened v cells document s ready ordered are restored =
    restored (rising (v.trees 0) cells are (table v ready ordered))
    ∙ ap (λ (x : Cells). overlay x document) (λ i q. sym (found-held (v.trees 0) cells are q) i)
