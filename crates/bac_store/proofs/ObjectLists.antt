-- The values of an object-list are data.
use Rattle.std.proofs.Common.{◌≡◌, ℕ, zero, suc, ◌∙◌, List, [], ◌∷◌, ◌++◌, refl, sym, ap}
use Rattle.std.proofs.lemmas.List.{append-nil}
use Rattle.bac_value.specs.Data.{Forest, none, leaf, pair, IsData, IsWithin, closing, opening, spelling}
use Rattle.bac_value.specs.Element.{part_spelling}
use Rattle.bac_value.specs.Value.{ObjectId, object}
use Rattle.bac_value.specs.Writing.{value_spelling}
use Rattle.bac_store.specs.Described.{list_spelling}

appended : (xs ys zs : List ℕ) → (xs ++ ys) ++ zs ≡ xs ++ (ys ++ zs)
appended [] ys zs = refl
appended (x ∷ xs) ys zs = ap (λ l. x ∷ l) (appended xs ys zs)

joined : Forest → Forest → Forest
joined none g = g
joined (leaf p f) g = leaf p (joined f g)
joined (pair n inside f) g = pair n inside (joined f g)

within_joined : (d : ℕ) (f g : Forest) → IsWithin d f → IsWithin d g → IsWithin d (joined f g)
unfolding IsWithin joined
within_joined d none g a b = b
within_joined d (leaf p f) g a b = (a.0, within_joined d f g a.1 b)
within_joined zero (pair n inside f) g a b = absurd a
within_joined (suc d) (pair n inside f) g a b = (a.0, a.1, within_joined (suc d) f g a.2 b)

spelling_joined : (f g : Forest) → spelling (joined f g) ≡ spelling f ++ spelling g
unfolding spelling joined
spelling_joined none g = refl
spelling_joined (leaf p f) g = ap (λ l. part_spelling p ++ l) (spelling_joined f g) ∙ sym (appended (part_spelling p) (spelling f) (spelling g))
spelling_joined (pair n inside f) g =
    ap (λ l. opening n ++ (spelling inside ++ (closing n ++ l))) (spelling_joined f g)
    ∙ ap (λ l. opening n ++ (spelling inside ++ l)) (sym (appended (closing n) (spelling f) (spelling g)))
    ∙ ap (λ l. opening n ++ l) (sym (appended (spelling inside) (closing n ++ spelling f) (spelling g)))
    ∙ sym (appended (opening n) (spelling inside ++ (closing n ++ spelling f)) (spelling g))

pub data_appended : (xs ys : List ℕ) → IsData xs → IsData ys → IsData (xs ++ ys)
data_appended xs ys a b = (
  joined a.0 b.0,
  record {
    within = within_joined 8 a.0 b.0 a.1.within b.1.within;
    is = ap (λ l. l ++ ys) a.1.is ∙ ap (λ l. spelling a.0 ++ l) b.1.is ∙ sym (spelling_joined a.0 b.0);
  },
)

pub list_appended : (is : List ObjectId) (i : ObjectId) → list_spelling (is ++ i ∷ []) ≡ list_spelling is ++ value_spelling (object i)
list_appended [] i = append-nil _
list_appended (j ∷ js) i =
    ap (λ l. value_spelling (object j) ++ l) (list_appended js i)
    ∙ sym (appended (value_spelling (object j)) (list_spelling js) (value_spelling (object i)))
