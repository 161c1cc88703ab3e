-- What is left once the cells of a selection are deleted.
use Rattle.std.proofs.Common.{◌≡◌, ◌⊎◌, inl, inr, ◌≤◌, ◌==◌, ◌&&◌, ◌||◌, ℕ, pos, Bool, true, false, if◌then◌else◌, List, [], ◌∷◌, ◌++◌, length, None}
use Rattle.std.proofs.Common.{IsTrue, arith, refl, sym, ap, ◌∙◌, eqb-true, filter}
use Rattle.std.specs.Ordering.{is_eq}
use Rattle.sqlite_value.specs.declared.value.Value.{Value}
use Rattle.sqlite_value.specs.declared.value.Value.TheVariants.{Int}
use Rattle.sqlite_value.specs.Order.{Row, value_cmp}
use Rattle.sqlite_trees.specs.Tree.{Trees, has_rowid}
use Rattle.sqlite_trees.specs.View.{IsClean, View, doubt}
use Rattle.bac_keep.specs.declared.cell.Cell.{Cell}
use Rattle.bac_keep.specs.Cells.{Cells, no_cells}
use Rattle.bac_keep_file.specs.Rows.{AreCells, cells_of, found}
use Rattle.bac_keep_file.specs.Steps.{HasCells, IsReady, NoMore}
use Rattle.bac_keep_file.specs.Forgotten.{AreSelected, has_place, is_place, without}
use Rattle.bac_keep_file.proofs.Finding.{same_place}

-- ---- the selected cells are the only ones at the selected places

has-filter : (f : ℕ → Bool) (cells : List Cell) (q : ℕ) → has_place (filter (λ (c : Cell). f c.place) cells) q ≡ (f q && has_place cells q)
has-filter f [] q = none (f q)
  where
    none : (b : Bool) → false ≡ (b && false)
    none true = refl
    none false = refl
has-filter f (c ∷ cs) q = go (f c.place) refl (q == c.place) refl (has-filter f cs q)
  where
    kept : List Cell
    kept = filter (λ (c : Cell). f c.place) cs

    neither : (b : Bool) → (f q ≡ false) → (f q && b) ≡ false
    neither b e = rw e refl

    go : (b : Bool) → f c.place ≡ b → (here : Bool) → (q == c.place) ≡ here → has_place kept q ≡ (f q && has_place cs q)
        → has_place (if b then c ∷ kept else kept) q ≡ (f q && ((q == c.place) || has_place cs q))
    go true e true same more =
        let is : f q ≡ true = ap f (eqb-true q c.place same) ∙ e in
        rw (same, is) refl
    go true e false same more = rw same more
    go false e true same more =
        let is : f q ≡ false = ap f (eqb-true q c.place same) ∙ e in
        more ∙ neither (has_place cs q) is ∙ sym (neither ((q == c.place) || has_place cs q) is)
    go false e false same more = rw same more

not-there : (rows : List Row) (cells : List Cell) → AreCells rows cells → (q : ℕ) → has_place cells q ≡ false → found rows q ≡ None
not-there [] [] are q none = refl
not-there [] (c ∷ cs) are q none = absurd are
not-there (r ∷ rs) [] are q none = absurd are
not-there (r ∷ rs) (c ∷ cs) are q none = go (q == c.place) refl none (not-there rs cs are.1 q)
  where
    is : has_rowid (pos q) r ≡ (q == c.place)
    is = ap (λ (v : Value). is_eq (value_cmp v (Int (pos q)))) are.0.keyed ∙ same_place c.place q

    go : (b : Bool) → (q == c.place) ≡ b → (b || has_place cs q) ≡ false → (has_place cs q ≡ false → found rs q ≡ None) → found (r ∷ rs) q ≡ None
    go true e none more = absurd (cc)
    go false e none more =
        let apart : has_rowid (pos q) r ≡ false = is ∙ e in
        rw apart (more none)

-- so nothing else is gone where these are
pub all_gone : (f : ℕ → Bool) (rows : List Row) (selected : List Cell) → AreSelected f rows selected → (q : ℕ)
    → without (has_place selected) (found rows) q ≡ without f (found rows) q
all_gone f rows selected are q =
    let has : has_place selected q ≡ (f q && has_place are.all q) = ap (λ (cs : List Cell). has_place cs q) are.is ∙ has-filter f are.all q in
    ap (λ (b : Bool). if b then None else found rows q) has ∙ go (f q) (has_place are.all q) refl
  where
    go : (b has : Bool) → has_place are.all q ≡ has → (if b && has then None else found rows q) ≡ (if b then None else found rows q)
    go true true e = refl
    go true false e = not-there rows are.all are.are q e
    go false true e = refl
    go false false e = refl

pub forgotten : (f : ℕ → Bool) (before : Trees) (selected : List Cell) → AreSelected f (before 0) selected
    → without (has_place selected) (cells_of before) ≡ without f (cells_of before)
forgotten f before selected are = λ i q. all_gone f (before 0) selected are q i

none_there : (cells : List Cell) → length cells ≡ 0 → cells ≡ []
none_there [] e = refl
none_there (c ∷ cs) e = absurd (cc)

-- where none is selected, nothing changes
pub nothing_selected : (f : ℕ → Bool) (before : Trees) (selected : List Cell) → length selected ≡ 0 → AreSelected f (before 0) selected
    → cells_of before ≡ without f (cells_of before)
nothing_selected f before selected none are =
    ap (λ (cs : List Cell). without (has_place cs) (cells_of before)) (sym (none_there selected none)) ∙ forgotten f before selected are

-- what is left once they are deleted
pub left_over : (f : ℕ → Bool) (before : Trees) (selected given : List Cell) (old new : View) → given ≡ selected → AreSelected f (before 0) selected
    → old.trees ≡ before → HasCells old (without (has_place given) (cells_of old.trees)) new → cells_of new.trees ≡ without f (cells_of before)
left_over f before selected given old new same are trees left =
    left.has
    ∙ ap (λ (cs : List Cell). without (has_place cs) (cells_of old.trees)) same
    ∙ ap (λ (t : Trees). without (has_place selected) (cells_of t)) trees
    ∙ forgotten f before selected are

-- a power cut during the commit leaves that, or what it could leave before
pub outcome : {Sound Then Before : Type 0} (db trees : Trees) (cells : Cells) → (Then → Before) → cells_of trees ≡ cells
    → (Sound × (db ≡ trees)) ⊎ Then → Before ⊎ (cells_of db ≡ cells)
outcome db trees cells back is (inl new) = inr (ap (λ (t : Trees). cells_of t) new.1 ∙ is)
outcome db trees cells back is (inr old) = inl (back old)

-- ---- one after the other

pub has_one_more : (cells : List Cell) (c : Cell) (q : ℕ) → has_place (cells ++ c ∷ []) q ≡ (has_place cells q || (q == c.place))
has_one_more [] c q = one (q == c.place)
  where
    one : (b : Bool) → (b || false) ≡ b
    one true = refl
    one false = refl
has_one_more (d ∷ cs) c q = go (q == d.place) (has_one_more cs c q)
  where
    go : (b : Bool) → has_place (cs ++ c ∷ []) q ≡ (has_place cs q || (q == c.place))
        → (b || has_place (cs ++ c ∷ []) q) ≡ ((b || has_place cs q) || (q == c.place))
    go true more = refl
    go false more = more

pub and_then : (old mid new : View) (cells : List Cell) (c : Cell) → HasCells old (without (has_place cells) (cells_of old.trees)) mid
    → HasCells mid (without (is_place c.place) (cells_of mid.trees)) new
    → HasCells old (without (has_place (cells ++ c ∷ [])) (cells_of old.trees)) new
and_then old mid new cells c before now = record {
  ready = now.ready;
  has = now.has ∙ ap (without (is_place c.place)) before.has ∙ (λ i q. both q i);
  committed = now.committed ∙ before.committed;
}
  where
    both : (q : ℕ) → (if q == c.place then None else (if has_place cells q then None else cells_of old.trees q))
        ≡ (if has_place (cells ++ c ∷ []) q then None else cells_of old.trees q)
    both q = go (q == c.place) (has_place cells q) ∙ ap (λ (b : Bool). if b then None else cells_of old.trees q) (sym (has_one_more cells c q))
      where
        go : (here has : Bool) → (if here then None else (if has then None else cells_of old.trees q))
            ≡ (if has || here then None else cells_of old.trees q)
        go true true = refl
        go true false = refl
        go false true = refl
        go false false = refl

-- nothing is deleted yet
pub idle : (v : View) → IsReady v → HasCells v (without (has_place []) (cells_of v.trees)) v
idle v ready = record { ready = ready; has = refl; committed = refl }

-- these are deleted
pub record IsDeleting {S : Type 0} (view : S → View) (recovers : S → Trees → Type 0) (cells : List Cell) (old new : S) : Type 0 where
  pub clean : doubt (view old).is_clean ≤ doubt (view new).is_clean
  pub deleted : IsClean (view new) → HasCells (view old) (without (has_place cells) (cells_of (view old).trees)) (view new)
  pub crash : NoMore recovers old new

-- ---- what is committed

-- a call that adds no outcome of a crash leaves what was committed
pub still_committed : {S : Type 0} (view : S → View) (recovers : S → Trees → Type 0)
    → ((s : S) (db : Trees) → IsTrue (view s).is_open → recovers s db → db ≡ (view s).committed)
    → ((s : S) → IsTrue (view s).is_open → recovers s (view s).committed)
    → (old new : S) → IsTrue (view old).is_open → IsTrue (view new).is_open → NoMore recovers old new → (view new).committed ≡ (view old).committed
still_committed view recovers settled stays old new was_open is_open more =
    settled old (view new).committed was_open (more (view new).committed (stays new is_open))

-- ---- nothing is kept

no_rows : (rows : List Row) → AreCells rows [] → rows ≡ []
no_rows [] are = refl
no_rows (r ∷ rs) are = absurd are

pub empty_table : (before now : Trees) (cells : List Cell) → length cells ≡ 0 → AreCells (before 0) cells → now ≡ before → cells_of now ≡ no_cells
empty_table before now [] none are same = ap (λ (db : Trees). cells_of db) same ∙ ap found (no_rows (before 0) are)
empty_table before now (c ∷ cs) none are same = absurd (omega (arith, none))
