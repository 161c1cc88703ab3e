-- A row that is put is found at its place, and what was found elsewhere still is.
use Rattle.std.proofs.Common.{◌≡◌, ◌==◌, ℕ, ℤ, pos, Bool, true, false, if◌then◌else◌, List, [], ◌∷◌, Option, Some, IsTrue, refl, sym, ap, ◌∙◌}
use Rattle.std.proofs.Common.{subst, arith, Ordering, Less, Equal, Greater, eqb-true, filter}
use Rattle.std.specs.Ordering.{is_eq, match_ordering}
use Rattle.std.specs.List.{AllByRecursion}
use Rattle.std.proofs.lemmas.Bool.Decides.{nat_tests}
use Rattle.std.proofs.lemmas.Map.Lookups.{exact_signed}
use Rattle.sqlite_value.specs.declared.value.Value.{Value}
use Rattle.sqlite_value.specs.declared.value.Value.TheVariants.{Null, Int, Real, Text, Blob}
use Rattle.sqlite_value.specs.Order.{Row, column, bytes, value_cmp}
use Rattle.sqlite_value.proofs.OrderLemmas.{value_cmp-Int}
use Rattle.sqlite_trees.specs.Tree.{rowid, has_rowid, put_row}
use Rattle.sqlite_trees.specs.View.{View, is_int, IsOrdered, IsShaped}
use Rattle.sqlite_trees.specs.declared.store.Shape.{Shape}
use Rattle.bac_keep.specs.Cells.{Cells, with_cell}
use Rattle.bac_keep_file.specs.Rows.{IsRowOf, found}
use Rattle.bac_keep_file.specs.Steps.{IsReady}

-- two places are one where their rowids are
pub same_place : (p q : ℕ) → is_eq (value_cmp (Int (pos p)) (Int (pos q))) ≡ (q == p)
same_place p q = ap is_eq (value_cmp-Int (pos p) (pos q)) ∙ grind (arith, nat_tests)

tied : (z : ℤ) (p : ℕ) → value_cmp (Int z) (Int (pos p)) ≡ Equal → z ≡ pos p
tied z p e = exact_signed z (pos p) (sym (value_cmp-Int z (pos p)) ∙ e)

-- the first row of a list with that place is at no other
pub other_place : (v : Value) (p q : ℕ) → IsTrue (is_int v) → value_cmp v (Int (pos p)) ≡ Equal → (q == p) ≡ false → is_eq (value_cmp v (Int (pos q))) ≡ false
other_place Null p q int e other = absurd (cc)
other_place (Real x) p q int e other = absurd (cc)
other_place (Text t) p q int e other = absurd (cc)
other_place (Blob b) p q int e other = absurd (cc)
other_place (Int z) p q int e other = ap (λ (y : ℤ). is_eq (value_cmp (Int y) (Int (pos q)))) (tied z p e) ∙ same_place p q ∙ other

module _ (p : ℕ) (octets : List ℕ) (new : Row) (row : IsRowOf p octets new) where
  is_there : (q : ℕ) → has_rowid (pos q) new ≡ (q == p)
  is_there q = ap (λ (v : Value). is_eq (value_cmp v (Int (pos q)))) row.keyed ∙ same_place p q

  what_is_there : Some (bytes (column new 2)) ≡ Some octets
  what_is_there = ap (λ (v : Value). Some (bytes v)) row.holds

  pub on_top : (rows : List Row) (q : ℕ) → found (new ∷ rows) q ≡ with_cell p octets (found rows) q
  on_top rows q = ap (λ (b : Bool). if b then Some (bytes (column new 2)) else found rows q) (is_there q)
      ∙ ap (λ (x : Option (List ℕ)). if q == p then x else found rows q) what_is_there

  pub found-put : (rows : List Row) → AllByRecursion (λ r. IsTrue (is_int (rowid r))) rows → (q : ℕ)
      → found (put_row new rows) q ≡ with_cell p octets (found rows) q
  found-put [] ints q = on_top [] q
  found-put (r ∷ rows) ints q = ap (λ (v : Value). found (match_ordering (value_cmp (rowid r) v) (r ∷ put_row new rows) (new ∷ rows) (new ∷ r ∷ rows)) q)
      row.keyed ∙ go (value_cmp (rowid r) (Int (pos p))) refl (found-put rows ints.1 q)
    where
      go : (o : Ordering) → value_cmp (rowid r) (Int (pos p)) ≡ o → found (put_row new rows) q ≡ with_cell p octets (found rows) q
          → found (match_ordering o (r ∷ put_row new rows) (new ∷ rows) (new ∷ r ∷ rows)) q ≡ with_cell p octets (found (r ∷ rows)) q
      go Less e more = less (q == p) refl
        where
          less : (b : Bool) → (q == p) ≡ b → found (r ∷ put_row new rows) q ≡ with_cell p octets (found (r ∷ rows)) q
          less true is =
              let apart : has_rowid (pos q) r ≡ false = ap (λ (n : ℕ). is_eq (value_cmp (rowid r) (Int (pos n)))) (eqb-true q p is) ∙ ap is_eq e in
              rw apart (rw is (more ∙ rw is refl))
          less false is = rw is (ap (λ (x : Option (List ℕ)). if has_rowid (pos q) r then Some (bytes (column r 2)) else x) (more ∙ rw is refl))
      go Equal e more = on_top rows q ∙ equal (q == p) refl
        where
          equal : (b : Bool) → (q == p) ≡ b → with_cell p octets (found rows) q ≡ with_cell p octets (found (r ∷ rows)) q
          equal true is = rw is refl
          equal false is =
              let apart : has_rowid (pos q) r ≡ false = other_place (rowid r) p q ints.0 e is in
              rw (is, apart) refl
      go Greater e more = on_top (r ∷ rows) q

-- the table has a number in each row
pub ints : (v : View) → IsReady v → (v.is_broken ≡ false → IsOrdered v.shape v.trees) → AllByRecursion (λ r. IsTrue (is_int (rowid r))) (v.trees 0)
ints v ready ordered = (subst (λ (s : Shape). IsShaped s (v.trees 0)) ready.table (ordered ready.sound 0)).1

-- what a look-up finds is what the rows have
pub found-filter : (rows : List Row) (p : ℕ) (r : Row) → filter (has_rowid (pos p)) rows ≡ r ∷ [] → found rows p ≡ Some (bytes (column r 2))
found-filter [] p r e = absurd (cc)
found-filter (x ∷ rows) p r e = go (has_rowid (pos p) x) refl e (found-filter rows p r)
  where
    go : (b : Bool) → has_rowid (pos p) x ≡ b → (if b then x ∷ filter (has_rowid (pos p)) rows else filter (has_rowid (pos p)) rows) ≡ r ∷ []
        → (filter (has_rowid (pos p)) rows ≡ r ∷ [] → found rows p ≡ Some (bytes (column r 2)))
        → (if b then Some (bytes (column x 2)) else found rows p) ≡ Some (bytes (column r 2))
    go true t is more = let same : x ≡ r = cc in ap (λ (y : Row). Some (bytes (column y 2))) same
    go false t is more = more is

-- a cell that is there already
pub there_already : (p : ℕ) (octets : List ℕ) (cells : Cells) → cells p ≡ Some octets → (q : ℕ) → cells q ≡ with_cell p octets cells q
there_already p octets cells is q = go (q == p) refl
  where
    go : (b : Bool) → (q == p) ≡ b → cells q ≡ (if b then Some octets else cells q)
    go true e = ap cells (eqb-true q p e) ∙ is
    go false e = refl
