-- What holds while the rows of the table are read.
use Rattle.std.proofs.Common.{◌⊎◌, ℕ, ◌≡◌, ◌≤◌, inl, inr, true, false, List, [], ◌∷◌, ◌++◌, Some, IsSome, refl, sym, ap, ◌∙◌, subst, append_assoc, Result, Ok, IfErr, MatchResult}
use Rattle.std.proofs.lemmas.List.{append-nil}
use Rattle.sqlite_value.specs.declared.keys.Order.{Order}
use Rattle.sqlite_trees.specs.declared.store.Direction.TheVariants.{Forward}
use Rattle.sqlite_value.specs.Order.{Row}
use Rattle.sqlite_trees.specs.View.{View, IsClean, doubt, with_cursor, Advances, HasCause}
use Rattle.sqlite_trees.specs.declared.error.StoreError.{StoreError}
use Rattle.sqlite_trees.specs.declared.error.StoreError.TheVariants as failure
use Rattle.sqlite_trees.specs.Tree.{from_key, order_of, sought}
use Rattle.sqlite_trees.specs.Tree.{Trees}
use Rattle.bac_keep.specs.declared.cell.Cell.{Cell}
use Rattle.bac_keep.specs.declared.fault.DatabaseFault.TheVariants as database
use Rattle.bac_keep.specs.declared.fault.KeepFault.{KeepFault}
use Rattle.bac_keep.specs.declared.fault.KeepFault.TheVariants as fault
use Rattle.bac_keep_file.specs.Faults.{database_fault, keep_fault}
use Rattle.bac_keep_file.specs.Refused.{Has, HasOtherRow, IsNoCell, IsUnreadable}
use Rattle.bac_keep_file.specs.Rows.{AreCells, IsRowOf}
use Rattle.bac_keep_file.specs.Steps.{IsReady, NoMore}
use Rattle.bac_keep_file.proofs.Faults.{err, if_err}

-- these cells are the rows so far, and the cursor gives the others
pub record HasReadSome (old : View) (cells : List Cell) (new : View) : Type 0 where
  pub ready : IsReady new
  pub trees : new.trees ≡ old.trees
  pub committed : new.committed ≡ old.committed
  pub read : List Row
  pub left : List Row
  pub cursor : new.cursors 0 ≡ Some left
  pub are : AreCells read cells
  pub rows : read ++ left ≡ old.trees 0

pub record IsReading {S : Type 0} (view : S → View) (faults : S → ℕ) (recovers : S → Trees → Type 0) (old : S) (cells : List Cell) (new : S) : Type 0 where
  pub clean : doubt (view old).is_clean ≤ doubt (view new).is_clean
  pub live : IsSome ((view new).cursors 0)
  pub some : IsClean (view new) → HasReadSome (view old) cells (view new)
  pub counts : faults old ≤ faults new
  pub crash : NoMore recovers old new

no_key : (o : Order) (es : List Row) → from_key o [] es ≡ es
no_key o [] = refl
no_key o (e ∷ es) = refl

-- before the first
pub begins : (old new : View) (key : Row) → key ≡ [] → IsReady old → new ≡ with_cursor old 0 (sought (order_of (old.shape 0)) Forward key (old.trees 0))
    → HasReadSome old [] new
begins old new key empty ready is =
    subst (HasReadSome old []) (sym (is ∙ ap (λ (k : Row). with_cursor old 0 (sought (order_of (old.shape 0)) Forward k (old.trees 0))) empty)) (record {
      ready = record { table = ready.table; plain = ready.plain; sound = ready.sound; is_open = ready.is_open };
      trees = refl;
      committed = refl;
      read = [];
      left = sought (order_of (old.shape 0)) Forward [] (old.trees 0);
      cursor = refl;
      are = tt;
      rows = no_key (order_of (old.shape 0)) (old.trees 0);
    })

one_more : (rs : List Row) (cs : List Cell) (r : Row) (c : Cell) → AreCells rs cs → IsRowOf c.place c.octets.items r → AreCells (rs ++ r ∷ []) (cs ++ c ∷ [])
one_more [] [] r c are is = (is, tt)
one_more [] (d ∷ cs) r c are is = absurd are
one_more (q ∷ rs) [] r c are is = absurd are
one_more (q ∷ rs) (d ∷ cs) r c are is = (are.0, one_more rs cs r c are.1 is)

some_is : (a b : List Row) → Some a ≡ Some b → a ≡ b
some_is a b e = cc

-- one more
pub goes_on : (old mid new : View) (cs : List Cell) (c : Cell) (row : Row) → HasReadSome old cs mid → IsRowOf c.place c.octets.items row
    → Advances mid new 0 row true
    → HasReadSome old (cs ++ c ∷ []) new
goes_on old mid new cs c row so_far makes next =
    let left : so_far.left ≡ row ∷ next.0 = some_is _ _ (sym so_far.cursor ∙ next.1) in
    subst (HasReadSome old (cs ++ c ∷ [])) (sym next.2) (record {
      ready = record { table = so_far.ready.table; plain = so_far.ready.plain; sound = so_far.ready.sound; is_open = so_far.ready.is_open };
      trees = so_far.trees;
      committed = so_far.committed;
      read = so_far.read ++ row ∷ [];
      left = next.0;
      cursor = refl;
      are = one_more so_far.read cs row c so_far.are makes;
      rows =
          append_assoc so_far.read (row ∷ []) next.0
          ∙ ap (λ (l : List Row). so_far.read ++ l) (sym left)
          ∙ so_far.rows;
    })

-- at the end
pub ends : (old mid new : View) (cs : List Cell) (row : Row) → HasReadSome old cs mid → Advances mid new 0 row false
    → AreCells (old.trees 0) cs × IsReady new × (new.trees ≡ old.trees) × (new.committed ≡ old.committed)
ends old mid new cs row so_far next =
    let left : so_far.left ≡ [] = some_is _ _ (sym so_far.cursor ∙ next.0) in
    let whole : so_far.read ≡ old.trees 0 = sym (append-nil so_far.read) ∙ ap (λ (l : List Row). so_far.read ++ l) (sym left) ∙ so_far.rows in (
      subst (λ (rs : List Row). AreCells rs cs) whole so_far.are,
      subst IsReady (sym next.1) so_far.ready,
      ap (λ (v : View). v.trees) next.1 ∙ so_far.trees,
      ap (λ (v : View). v.committed) next.1 ∙ so_far.committed,
    )

has_there : (before : List Row) (row : Row) (after : List Row) → Has (before ++ row ∷ after) row
has_there [] row after = inl refl
has_there (r ∷ rs) row after = inr (has_there rs row after)

-- the next row is no cell
pub other_row : (old mid new : View) (cs : List Cell) (row : Row) → HasReadSome old cs mid → Advances mid new 0 row true → IsNoCell row → HasOtherRow (old.trees 0)
other_row old mid new cs row so_far next no_cell =
    let left : so_far.left ≡ row ∷ next.0 = some_is _ _ (sym so_far.cursor ∙ next.1) in
    record {
      row = row;
      there = subst (λ (rs : List Row). Has rs row) (ap (λ (l : List Row). so_far.read ++ l) (sym left) ∙ so_far.rows) (has_there so_far.read row next.0);
      other = no_cell;
    }

-- a database that is not broken fails for the disk, or for memory
pub failed_for : {T : Type 0} (old : View) (failed : Type 0) (rows : List Row) (r : Result T StoreError) (f : KeepFault)
    → MatchResult r (λ x. err T f ≡ Ok x) (λ e. f ≡ keep_fault e) → old.is_broken ≡ false → IfErr r (HasCause old failed ⊥) → IsUnreadable rows failed f
failed_for old failed rows r f is sound cause = if_err (λ e f. f ≡ keep_fault e) (HasCause old failed ⊥) (IsUnreadable rows failed) r f is cause
    (λ e same why. subst (IsUnreadable rows failed) (sym same) (go e why))
  where
    go : (e : StoreError) → HasCause old failed ⊥ e → (database_fault e ≡ database.OutOfMemory) ⊎ failed
    go failure.OutOfMemory why = inl refl
    go failure.Io why = inr why
    go failure.Corrupt why = inr why
    go failure.Full why = inr why
    go failure.Broken why = absurd (cc)
    go failure.Unstorable why = absurd why

pub or_earlier : {Here Before After : Type 0} → (Before → After) → Here ⊎ Before → Here ⊎ After
or_earlier longer (inl here) = inl here
or_earlier longer (inr before) = inr (longer before)

-- a fault of more calls
pub more_failed : {failed later : Type 0} → (failed → later) → (rows : List Row) (f : KeepFault) → IsUnreadable rows failed f → IsUnreadable rows later f
more_failed longer rows (fault.Database e) it = or_earlier longer it
more_failed longer rows fault.BadRow it = it
more_failed longer rows fault.NoMemory it = tt
more_failed longer rows fault.Shut it = absurd it
more_failed longer rows fault.NoTable it = absurd it
more_failed longer rows (fault.BadValues o m e) it = absurd it
more_failed longer rows (fault.BadOctets o e) it = absurd it
more_failed longer rows fault.HighNumber it = absurd it
