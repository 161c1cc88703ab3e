-- What is told of one cell after the other.
use Rattle.std.proofs.Common.{◌≡◌, true, false, take, refl, subst, List, [], ◌∷◌, ◌++◌, filter, sym, ap, ◌∙◌}
use Rattle.std.proofs.lemmas.List.{append-nil}
use Rattle.std.proofs.lemmas.List.Elements.{filter-append}
use Rattle.bac_store.specs.Stores.{Store}
use Rattle.bac_keep.specs.declared.cell.Cell.{Cell}
use Rattle.bac_keep.specs.declared.part.Part.{Part}
use Rattle.bac_keep.specs.Parts.{IsSmall, place_for}
use Rattle.bac_keep_file.specs.Idle.{AreFor, AreIdle, TellsOne, is_told}

one_more : (cs : List Cell) (ps : List Part) (c : Cell) (p : Part) → AreFor cs ps → c.place ≡ place_for p → IsSmall p → AreFor (cs ++ c ∷ []) (ps ++ p ∷ [])
one_more [] [] c p are place small = (place, small, tt)
one_more [] (q ∷ ps) c p are place small = absurd are
one_more (d ∷ cs) [] c p are place small = absurd are
one_more (d ∷ cs) (q ∷ ps) c p are place small = (are.0, are.1, one_more cs ps c p are.2 place small)

pub tells : (document : Store) (cs : List Cell) (c : Cell) (old new : List Part) → AreIdle document cs old → TellsOne document c old new
    → AreIdle document (cs ++ c ∷ []) new
tells document cs c old new before one = record {
  all = before.all ++ one.part ∷ [];
  are = one_more cs before.all c one.part before.are one.place one.small;
  is = one.is ∙ ap (λ (ps : List Part). ps ++ filter (is_told document) (one.part ∷ [])) before.is
      ∙ sym (filter-append (is_told document) before.all (one.part ∷ []));
}

-- one that has no place is told
pub pushed : (document : Store) (c : Cell) (old new : List Part) (p : Part) → c.place ≡ place_for p → IsSmall p → is_told document p ≡ true
    → new ≡ old ++ p ∷ [] → TellsOne document c old new
pushed document c old new p place small told is = record {
  part = p;
  place = place;
  small = small;
  is = is ∙ ap (λ (ps : List Part). old ++ ps) (sym all);
}
  where
    all : filter (is_told document) (p ∷ []) ≡ p ∷ []
    all = rw told refl

-- another one is not
pub left_out : (document : Store) (c : Cell) (old : List Part) (p : Part) → c.place ≡ place_for p → IsSmall p → is_told document p ≡ false
    → TellsOne document c old old
left_out document c old p place small told = record {
  part = p;
  place = place;
  small = small;
  is = sym (append-nil old) ∙ ap (λ (ps : List Part). old ++ ps) (sym none);
}
  where
    none : filter (is_told document) (p ∷ []) ≡ []
    none = rw told refl

-- before the first
pub begins : (document : Store) (cells : List Cell) (idle : List Part) → idle ≡ [] → AreIdle document (take 0 cells) idle
begins document cells idle is = subst (AreIdle document []) (sym is) (record { all = []; are = tt; is = refl })
