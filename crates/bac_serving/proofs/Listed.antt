-- What is printed of cells, one after the other, and of the database that has them.
use Rattle.std.proofs.Common.{◌≡◌, ◌-◌, ◌<◌, ◌≤◌, ℕ, Bool, List, [], ◌∷◌, drop, get_or, length, take, Option, Result, Ok, Err, OnOk, arith, refl, subst}
use Rattle.std.proofs.lemmas.List.{take_all}
use Rattle.std.proofs.KnownBytes.{Appends-kept, Appends-nil, Appends-trans}
use Rattle.std.specs.Io.KnownBytes.{Keeps}
use Rattle.sqlite_trees.specs.View.{IsClean, View, doubt}
use Rattle.bac_keep_file.specs.Rows.{AreCells}
use Rattle.bac_keep.specs.declared.cell.Cell.{Cell}
use Rattle.bac_text.specs.Texts.{AppendsText}
use Rattle.bac_serving.specs.Listing.{AreListed, IsCellText, Lines, OnListed, line_in}
use Rattle.bac_serving.specs.declared.listing.ListForm.{ListForm}
use Rattle.bac_serving.proofs.Opened.{clean_before}

-- the first cell of some, and the others
pub cell_more : (IsLine : Lines) (rest : List Cell) (c : Cell) → 1 ≤ length rest → c ≡ get_or rest 0 c → (a b d : Option (List ℕ))
    → AppendsText a b (IsCellText IsLine c (take (length rest - 1) (drop 1 rest))) → AppendsText b d (AreListed IsLine (take (length rest - 1) (drop 1 rest)))
    → AppendsText a d (AreListed IsLine rest)
cell_more IsLine [] c some is a b d p q = absurd (omega (arith, some))
cell_more IsLine (x ∷ xs) c some is a b d p q =
    let all : take (length (x ∷ xs) - 1) xs ≡ xs = take_all (length (x ∷ xs) - 1) xs (omega arith) in
    let first : AppendsText a b (IsCellText IsLine x xs)
    = subst (λ (y : Cell). AppendsText a b (IsCellText IsLine y xs)) is (subst (λ (l : List Cell). AppendsText a b (IsCellText IsLine c l)) all p) in
    let others : AppendsText b d (AreListed IsLine xs) = subst (λ (l : List Cell). AppendsText b d (AreListed IsLine l)) all q in
    (_, (record { first = first.0; rest = others.0; told = first.1.0; others = others.1.0; is = refl }, Appends-trans a b d first.0 others.0 first.1.1 others.1.1))

pub cells_listed : {T E : Type 0} (r : Result T E) (IsLine : Lines) (cells rest : List Cell) (a b d : Option (List ℕ)) → length rest < 1 → Keeps b d
    → ((end : Option (List ℕ)) → AppendsText b end (AreListed IsLine rest) → AppendsText a end (AreListed IsLine cells))
    → OnOk r (AppendsText a d (AreListed IsLine cells))
cells_listed (Err e) IsLine cells rest a b d few keeps so_far = tt
cells_listed (Ok t) IsLine cells [] a b d few keeps so_far = so_far d ([], (refl, Appends-kept b b d [] (Appends-nil b) keeps))
cells_listed (Ok t) IsLine cells (x ∷ xs) a b d few keeps so_far = absurd (omega (arith, few))

pub listed_so : {D : Type 0} (IsDatabase : (path : List ℕ) → (is_new : Bool) → D → Type 0) (view : D → View) (f : ListForm) (path : List ℕ) (is_new : Bool)
    → (opened ended : D) (cells run : List Cell) (a b : Option (List ℕ)) → IsDatabase path is_new opened → doubt (view opened).is_clean ≤ doubt (view ended).is_clean
    → (IsClean (view ended) → AreCells ((view opened).committed 0) cells) → run ≡ cells → AppendsText a b (AreListed (line_in f) run)
    → AppendsText a b (OnListed IsDatabase view f path)
listed_so IsDatabase view f path is_new opened ended cells run a b made less are same p = (
  p.0,
  (
    record {
      is_new = is_new;
      opened = opened;
      made = made;
      ended = ended;
      honest = λ clean. clean_before _ _ less clean;
      cells = cells;
      are = are;
      listed = subst (λ (cs : List Cell). AreListed (line_in f) cs p.0) same p.1.0;
    },
    p.1.1,
  ),
)
