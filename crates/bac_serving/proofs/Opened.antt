-- A database that was opened, and a server whose store it keeps.
use Rattle.std.proofs.Common.{◌≡◌, ℕ, ◌≤◌, Bool, true, false, List, Option, Some, IfSome, ap, arith, subst, sym, ◌∙◌}
use Rattle.std.specs.Prelude.{IsTrue}
use Rattle.sqlite_trees.specs.Tree.{Trees}
use Rattle.sqlite_trees.specs.View.{IsClean, View, doubt}
use Rattle.bac_store.specs.Stores.{Store}
use Rattle.bac_keep.specs.Overlay.{overlay}
use Rattle.bac_keep_file.specs.Rows.{cells_of}
use Rattle.bac_keep_file.specs.Settling.{MayFind, settles}
use Rattle.bac_keep_file.specs.Steps.{IsReady, NoMore}
use Rattle.bac_text.specs.declared.status.Status.{Status}
use Rattle.bac_driver.specs.Rounds.{IsKept}
use Rattle.bac_serving.specs.Keeping.{EndsWith, HasStore, IsServedOver, IsServedStore, LiesOver, OnDatabase, ServesKept, ServesStore, restarted_by}
use Rattle.bac_environment.specs.Sockets.{Clocks, Links}
use Rattle.bac_serving.specs.declared.serving.Serving.{Serving}
use Rattle.bac_environment.proofs.Statuses.{lifted}

pub clean_before : (old new : Bool) → doubt old ≤ doubt new → doubt new ≡ 0 → doubt old ≡ 0
clean_before old new less clean = omega (arith, less, clean)

-- where the next call changed nothing that it has
pub store_still : {D : Type 0} (view : D → View) (opened : D) (document store : Store) (old new : D) → doubt (view old).is_clean ≤ doubt (view new).is_clean
    → (IsClean (view new) → IsReady (view new)) → (IsClean (view new) → (view new).trees ≡ (view old).trees)
    → (IsClean (view new) → (view new).committed ≡ (view old).committed) → HasStore view opened document store old → HasStore view opened document store new
store_still view opened document store old new honest ready noted kept has =
    record {
      honest = λ clean. has.honest (clean_before _ _ honest clean);
      ready = ready;
      found = λ clean. has.found (clean_before _ _ honest clean);
      kept = λ clean. ap (λ (t : Trees). overlay (cells_of t) document) (kept clean) ∙ has.kept (clean_before _ _ honest clean);
      noted = λ clean. ap (λ (t : Trees). overlay (cells_of t) document) (noted clean) ∙ has.noted (clean_before _ _ honest clean);
    }

-- keepers, by the database and the document that they have
module _ {D K : Type 0} (view : D → View) (database_of : K → D) (document_of : K → Store) where
  abbrev honest_of : K → Type 0
  honest_of k = IsClean (view (database_of k))

  abbrev open_of : K → Type 0
  open_of k = IsReady (view (database_of k))

  abbrev kept_of : K → Store
  kept_of k = overlay (cells_of (view (database_of k)).committed) (document_of k)

  abbrev noted_of : K → Store
  noted_of k = overlay (cells_of (view (database_of k)).trees) (document_of k)

  pub begins_kept : (opened : D) (document store : Store) (keeper first : K) → first ≡ keeper → document_of keeper ≡ document
      → HasStore view opened document store (database_of keeper) → honest_of first → IsKept open_of kept_of noted_of first store
  begins_kept opened document store keeper first is below has =
      subst (λ (k : K). honest_of k → IsKept open_of kept_of noted_of k store) (sym is) kept where
        kept : honest_of keeper → IsKept open_of kept_of noted_of keeper store
        kept clean =
            record {
              is_open = has.ready clean;
              kept_is = ap (overlay (cells_of (view (database_of keeper)).committed)) below ∙ has.kept clean;
              noted_is = ap (overlay (cells_of (view (database_of keeper)).trees)) below ∙ has.noted clean;
            }

  -- a database, since a keeper had it last: as long as it is honest it was, and a power cut leaves nothing else
  pub record IsClosed (recovers : D → Trees → Type 0) (last : K) : Type 0 where
    pub ended : D
    pub honest : IsClean (view ended) → IsClean (view (database_of last))
    pub crash : NoMore recovers (database_of last) ended

  pub closed_so : (recovers : D → Trees → Type 0) (back : Option K) (keeper : K) (ended : D) → back ≡ Some keeper
      → doubt (view (database_of keeper)).is_clean ≤ doubt (view ended).is_clean → NoMore recovers (database_of keeper) ended
      → (last : K) → IfSome back (λ k. k ≡ last) → IsClosed recovers last
  closed_so recovers back keeper ended is honest crash last same =
      let before : keeper ≡ last = subst (λ (b : Option K). IfSome b (λ k. k ≡ last)) is same in
      record {
        ended = ended;
        honest = λ clean. subst (λ (k : K). IsClean (view (database_of k))) before (clean_before _ _ honest clean);
        crash = λ db may. subst (λ (k : K). recovers (database_of k) db) before (crash db may);
      }

  -- what it lies over in the end, where that is said of the keeper
  over_so : (followed : Bool) (document : Store) (keeper first last : K) → first ≡ keeper → document_of keeper ≡ document
      → LiesOver followed (document_of first) (document_of last) → LiesOver followed document (document_of last)
  over_so false document keeper first last is below over = over ∙ (ap document_of is ∙ below)
  over_so true document keeper first last is below over = tt

  pub kept_over : (followed : Bool) (IsDatabase : (path : List ℕ) → (is_new : Bool) → D → Type 0) (recovers : D → Trees → Type 0)
      → ((d : D) (db : Trees) → IsTrue (view d).is_open → recovers d db → db ≡ (view d).committed) → (path : List ℕ) (is_new : Bool) (opened : D)
      (document store : Store) (keeper first : K) (back : Option K) (IsOn : Links) (IsClock : Clocks) (serving own : Serving) (old new : Option (List ℕ)) (s : Status)
      → IsDatabase path is_new opened → first ≡ keeper → document_of keeper ≡ document → HasStore view opened document store (database_of keeper) → own ≡ restarted_by is_new serving
      → ((last : K) → IfSome back (λ k. k ≡ last) → IsClosed recovers last)
      → IsServedStore followed store IsOn IsClock s own (EndsWith honest_of open_of kept_of noted_of document_of followed first back) old new
      → IsServedOver followed (OnDatabase IsDatabase view recovers) IsOn IsClock s serving path document old new
  kept_over followed IsDatabase recovers settled path is_new opened document store keeper first back IsOn IsClock serving own old new s made is below has restarts closes
      served =
      lifted s over (λ (no : ⊥). absurd no) (λ n. n) served where
        found : honest_of first → store ≡ overlay (cells_of (view opened).committed) document
        found = subst (λ (k : K). honest_of k → store ≡ overlay (cells_of (view opened).committed) document) (sym is) has.found

        clean_first : honest_of first → IsClean (view opened)
        clean_first = subst (λ (k : K). honest_of k → IsClean (view opened)) (sym is) has.honest

        ends : (last : Store) → EndsWith honest_of open_of kept_of noted_of document_of followed first back last
            → OnDatabase IsDatabase view recovers followed path is_new document store last
        ends last e =
            let closed = closes e.last e.same in
            record {
              opened = opened;
              made = made;
              ended = closed.ended;
              honest = λ clean. clean_first (e.honest (closed.honest clean));
              found = λ clean. found (e.honest (closed.honest clean));
              over = document_of e.last;
              is_over = over_so followed document keeper first e.last is below e.is_over;
              kept = λ clean at may.
                  let kept = e.all.is_kept (closed.honest clean) in
                  let before : MayFind recovers (database_of e.last) (document_of e.last) at = (may.0, closed.crash may.0 may.1, may.2) in
                  settles view recovers settled (database_of e.last) (document_of e.last) at kept.is_open before ∙ kept.kept_is;
            }

        over : ServesStore followed store IsOn IsClock own (EndsWith honest_of open_of kept_of noted_of document_of followed first back) old new
            → ServesKept followed (OnDatabase IsDatabase view recovers) IsOn IsClock serving path old new document
        over serves =
            let by : ServesStore followed store IsOn IsClock own (OnDatabase IsDatabase view recovers followed path is_new document store) old new = record {
              start = serves.start;
              before = serves.before;
              server = serves.server;
              run = record {
                after = serves.run.after;
                text = serves.run.text;
                ends = ends serves.run.after.bound_node.node.store serves.run.ends;
              };
            } in
            record {
              is_new = is_new;
              first = store;
              serves =
                  subst (λ (o : Serving). ServesStore followed store IsOn IsClock o (OnDatabase IsDatabase view recovers followed path is_new document store) old new)
                  restarts by;
            }
