-- What a power cut leaves of a database that forgot.
use Rattle.std.proofs.Common.{◌≡◌, ◌≤◌, ℕ, Bool, List, Option, ap}
use Rattle.std.specs.Prelude.{IsTrue}
use Rattle.sqlite_trees.specs.Tree.{Trees}
use Rattle.sqlite_trees.specs.View.{IsClean, View, doubt}
use Rattle.bac_value.specs.Views.{object_identifier_view}
use Rattle.bac_keep_file.specs.Rows.{cells_of}
use Rattle.bac_keep_file.specs.Steps.{IsReady}
use Rattle.bac_keep_file.specs.Forgotten.{is_selected, without}
use Rattle.bac_keep_file.specs.declared.selection.Selection.{Selection}
use Rattle.bac_serving.specs.Forgetting.{Forgets, Names, OnForgotten}
use Rattle.bac_serving.proofs.Opened.{clean_before}

pub forgot_so : {D : Type 0} (IsDatabase : (path : List ℕ) → (is_new : Bool) → D → Type 0) (view : D → View) (recovers : D → Trees → Type 0)
    → ((d : D) (db : Trees) → IsTrue (view d).is_open → recovers d db → db ≡ (view d).committed)
    → (path object : List ℕ) (property : Option (List ℕ)) (s : Selection) (is_new : Bool) (opened ended : D)
    → Names object property s → IsDatabase path is_new opened → doubt (view opened).is_clean ≤ doubt (view ended).is_clean
    → (IsClean (view ended) → IsReady (view ended))
    → (IsClean (view ended)
    → cells_of (view ended).committed ≡ without (is_selected (object_identifier_view s.object) s.property) (cells_of (view opened).committed))
    → Forgets (OnForgotten IsDatabase view recovers) path object property
forgot_so IsDatabase view recovers settled path object property s is_new opened ended names made less ready forgot = record {
  selection = s;
  named = names;
  forgot = record {
    is_new = is_new;
    opened = opened;
    made = made;
    ended = ended;
    honest = λ clean. clean_before _ _ less clean;
    forgot = forgot;
    found = λ clean db left. ap (λ (t : Trees). cells_of t) (settled ended db (ready clean).is_open left);
  };
}
