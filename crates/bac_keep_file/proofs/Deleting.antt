-- A row that is deleted is found no more, and what was found elsewhere still is.
use Rattle.std.proofs.Common.{◌≡◌, ◌==◌, ℕ, pos, Bool, true, false, not, if◌then◌else◌, List, [], ◌∷◌, Option, Some, None, IsTrue}
use Rattle.std.proofs.Common.{refl, sym, ap, ◌∙◌, subst, Ordering, Less, Equal, Greater, eqb-true}
use Rattle.std.specs.Ordering.{is_eq}
use Rattle.std.specs.List.{AllByRecursion}
use Rattle.sqlite_value.specs.declared.value.Value.TheVariants.{Int}
use Rattle.sqlite_value.specs.Order.{Row, column, bytes, value_cmp}
use Rattle.sqlite_trees.specs.Tree.{has_rowid, rowid, without_rowid}
use Rattle.sqlite_trees.specs.View.{View, is_int, IsOrdered, SetsTree}
use Rattle.bac_keep_file.specs.Forgotten.{is_place, without}
use Rattle.bac_keep_file.specs.Rows.{cells_of, found}
use Rattle.bac_keep_file.specs.Steps.{HasCells, IsReady}
use Rattle.bac_keep_file.proofs.Finding.{ints, other_place}

equal : (o : Ordering) → is_eq o ≡ true → o ≡ Equal
equal Less e = absurd (cc)
equal Equal e = refl
equal Greater e = absurd (cc)

either : (b : Bool) (x : Option (List ℕ)) → x ≡ (if b then x else x)
either true x = refl
either false x = refl

pub found-without : (p : ℕ) (rows : List Row) → AllByRecursion (λ r. IsTrue (is_int (rowid r))) rows → (q : ℕ)
    → found (without_rowid (pos p) rows) q ≡ without (is_place p) (found rows) q
found-without p [] ints q = either (q == p) None
found-without p (r ∷ rows) ints q = go (has_rowid (pos p) r) refl (q == p) refl (found-without p rows ints.1 q)
  where
    rest : List Row
    rest = without_rowid (pos p) rows

    go : (b : Bool) → has_rowid (pos p) r ≡ b → (here : Bool) → (q == p) ≡ here
        → found rest q ≡ (if q == p then None else found rows q)
        → found (if not b then r ∷ rest else rest) q ≡ (if q == p then None else (if has_rowid (pos q) r then Some (bytes (column r 2)) else found rows q))
    go true e true same more = more ∙ rw same refl
    go true e false same more =
        let apart : has_rowid (pos q) r ≡ false = other_place (rowid r) p q ints.0 (equal (value_cmp (rowid r) (Int (pos p))) e) same in
        more ∙ rw (same, apart) refl
    go false e true same more =
        let apart : has_rowid (pos q) r ≡ false = ap (λ (n : ℕ). has_rowid (pos n) r) (eqb-true q p same) ∙ e in
        rw apart (more ∙ rw same refl)
    go false e false same more = rw same (ap (λ (x : Option (List ℕ)). if has_rowid (pos q) r then Some (bytes (column r 2)) else x) (more ∙ rw same refl))

pub deletes : (old new : View) (place : ℕ) → IsReady old → (old.is_broken ≡ false → IsOrdered old.shape old.trees)
    → SetsTree old new 0 (without_rowid (pos place)) → HasCells old (without (is_place place) (cells_of old.trees)) new
deletes old new place ready ordered sets =
    subst (HasCells old (without (is_place place) (cells_of old.trees))) (sym sets.is) (record {
      ready = record { table = ready.table; plain = ready.plain; sound = ready.sound; is_open = ready.is_open };
      has = λ i q. found-without place (old.trees 0) (ints old ready ordered) q i;
      committed = refl;
    })
