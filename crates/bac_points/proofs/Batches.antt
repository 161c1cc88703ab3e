-- What was asked in batches.
use Rattle.std.proofs.Common.{◌≡◌, ◌∙◌, ℕ, zero, suc, ◌+◌, ◌-◌, ◌≤◌, Bool, true, ◌&&◌, List, [], ◌∷◌, ◌++◌, map, refl, sym, ap, arith, inl, inr, append_assoc, take, drop}
use Rattle.std.proofs.lemmas.List.{map-append, take-append-drop}
use Rattle.std.specs.List.{range_with_len}
use Rattle.std.proofs.lemmas.List.FromFn.{map-range_with_len_more}
use Rattle.bac_value.specs.Value.{ObjectId}
use Rattle.bac_npdu.specs.Peers.{PeerView}
use Rattle.bac_service.specs.Values.{Reference}
use Rattle.bac_driver.specs.Runs.{Timed}
use Rattle.bac_driver.specs.declared.question.AskEnd.{AskEnd}
use Rattle.bac_point_report.specs.Points.{point_references}
use Rattle.bac_asking.specs.declared.asking.Asking.{Asking}
use Rattle.bac_environment.specs.Sockets.{Links}
use Rattle.bac_points.specs.Lists.{Adds, AreLacking, AsksBatch, AsksBatches, AsksColumns, Batch, ElementLacked, ElementsCame, ReadsColumns}
use Rattle.bac_points.specs.Lists.{all_have_come, columns, element_behind, elements, have_come, references_in}

-- ---- elements of a list

joined : (f : ℕ → Reference) (a m n k : ℕ) → k ≡ m + n
    → map f (range_with_len a k) ≡ map f (range_with_len a m) ++ map f (range_with_len (a + m) n)
joined f a zero n k e =
    let same : k ≡ n = omega (arith, e) in
    let at : a ≡ a + zero = omega arith in
    ap (λ (x : ℕ). map f (range_with_len a x)) same ∙ ap (λ (x : ℕ). map f (range_with_len x n)) at
joined f a (suc m) n zero e = absurd (omega (arith, e))
joined f a (suc m) n (suc k) e =
    let less : k ≡ m + n = omega (arith, e) in
    let at : (a + 1) + m ≡ a + suc m = omega arith in
    ap (λ (l : List Reference). f a ∷ l)
    (joined f (a + 1) m n k less ∙ ap (λ (x : ℕ). map f (range_with_len (a + 1) m) ++ map f (range_with_len x n)) at)

pub elements_joined : (device : ObjectId) (a m n k b : ℕ) → k ≡ m + n → b ≡ a + m
    → elements device a k ≡ elements device a m ++ elements device b n
elements_joined device a m n k b e at =
    joined (element_behind device) a m n k e ∙ ap (λ (x : ℕ). elements device a m ++ elements device x n) (sym at)

pub elements_more : (device : ObjectId) (behind place : ℕ) (old new : List Reference) → behind ≤ place → old ≡ elements device behind (place - behind)
    → new ≡ old ++ (element_behind device place ∷ []) → new ≡ elements device behind (place + 1 - behind)
elements_more device behind place old new below before is =
    let at : behind + (place - behind) ≡ place = omega (arith, below) in
    let count : (place - behind) + 1 ≡ place + 1 - behind = omega (arith, below) in
    is ∙ ap (λ (l : List Reference). l ++ (element_behind device place ∷ [])) before
    ∙ sym (map-range_with_len_more (element_behind device) behind (place - behind) place at) ∙ ap (λ (n : ℕ). elements device behind n) count

-- none was read
pub none_came : (IsOn : Links) (asking : Asking) (peer : PeerView) (device : ObjectId) (objects : List ObjectId) (now : Timed) → objects ≡ []
    → ElementsCame IsOn asking peer device 0 objects now now
none_came IsOn asking peer device objects now none = record { batches = []; asks = refl; are = refl; found = none }

next_are : (device : ObjectId) (behind more total : ℕ) (batches : List Batch) (references : List Reference) → total ≡ behind + more
    → references ≡ elements device behind more → references_in batches ≡ elements device 0 behind
    → references_in batches ++ references ≡ elements device 0 total
next_are device behind more total batches references sum is before =
    ap (λ (l : List Reference). l ++ references) before ∙ ap (λ (l : List Reference). elements device 0 behind ++ l) is
    ∙ sym (elements_joined device 0 behind more total behind sum (omega arith))

-- one batch more came
pub more_came : (IsOn : Links) (asking : Asking) (peer : PeerView) (device : ObjectId) (behind more total : ℕ) (references : List Reference)
    (ends : List AskEnd) (old new : List ObjectId) (before middle after : Timed) → total ≡ behind + more → references ≡ elements device behind more
    → ElementsCame IsOn asking peer device behind old before middle → AsksBatch IsOn asking peer references ends middle after → Adds references ends old new
    → ElementsCame IsOn asking peer device total new before after
more_came IsOn asking peer device behind more total references ends old new before middle after sum is came asks adds = record {
  batches = record { references = references; ends = ends } ∷ came.batches;
  asks = record { middle = middle; earlier = came.asks; last = asks };
  are = next_are device behind more total came.batches references sum is came.are;
  found = record { first = old; others = adds.found; are = adds.are; came = came.found; more = adds.each };
}

-- of one batch more an element did not come
pub one_lacked : (IsOn : Links) (asking : Asking) (peer : PeerView) (device : ObjectId) (behind more count : ℕ) (references : List Reference)
    (ends : List AskEnd) (old : List ObjectId) (before middle after : Timed) → behind + more ≤ count → references ≡ elements device behind more
    → ElementsCame IsOn asking peer device behind old before middle → AsksBatch IsOn asking peer references ends middle after → AreLacking references ends
    → ElementLacked IsOn asking peer device count before after
one_lacked IsOn asking peer device behind more count references ends old before middle after within is came asks lacks = record {
  batches = came.batches;
  last = record { references = references; ends = ends };
  unread = elements device (behind + more) (count - (behind + more));
  asks = record { middle = middle; earlier = came.asks; last = asks };
  are =
      ap (λ (l : List Reference). l ++ elements device (behind + more) (count - (behind + more)))
      (next_are device behind more (behind + more) came.batches references refl is came.are)
      ∙ sym (elements_joined device 0 (behind + more) (count - (behind + more)) count (behind + more) (omega (arith, within)) (omega arith));
  lacks = lacks;
}

-- ---- columns

-- the front of a list and what stands behind it
pub split_maps : {A B : Type 0} (f : A → B) (n : ℕ) (rest front back : List A) → front ≡ take n rest → back ≡ drop n rest → map f rest ≡ map f front ++ map f back
split_maps {A = A} f n rest front back is others =
    ap (map f) (sym (take-append-drop n rest) ∙ ap (λ (l : List A). l ++ drop n rest) (sym is) ∙ ap (λ (l : List A). front ++ l) (sym others))
    ∙ map-append f front back

columns_joined : (xs ys : List ObjectId) → columns (xs ++ ys) ≡ columns xs ++ columns ys
columns_joined [] ys = refl
columns_joined (x ∷ xs) ys =
    ap (λ (l : List Reference). point_references x ++ l) (columns_joined xs ys) ∙ sym (append_assoc (point_references x) (columns xs) (columns ys))

-- those of some objects were asked for, and these are left
pub record ColumnsSoFar (IsOn : Links) (asking : Asking) (peer : PeerView) (left objects : List ObjectId) (all : Bool) (before now : Timed) : Type 0 where
  pub batches : List Batch
  pub asks : AsksBatches IsOn asking peer batches before now
  pub are : references_in batches ++ columns left ≡ columns objects
  pub whether : all ≡ all_have_come batches

pub no_columns : (IsOn : Links) (asking : Asking) (peer : PeerView) (objects : List ObjectId) (now : Timed)
    → ColumnsSoFar IsOn asking peer objects objects true now now
no_columns IsOn asking peer objects now = record { batches = []; asks = refl; are = refl; whether = refl }

columns_are : (batches : List Batch) (left batch more objects : List ObjectId) → left ≡ batch ++ more → references_in batches ++ columns left ≡ columns objects
    → (references_in batches ++ columns batch) ++ columns more ≡ columns objects
columns_are batches left batch more objects split before =
    append_assoc (references_in batches) (columns batch) (columns more)
    ∙ ap (λ (l : List Reference). references_in batches ++ l) (sym (columns_joined batch more) ∙ ap columns (sym split)) ∙ before

columns_whether : (batches : List Batch) (references : List Reference) (ends : List AskEnd) (all is_whole new : Bool) → all ≡ all_have_come batches
    → is_whole ≡ have_come references ends → new ≡ (all && is_whole) → new ≡ (all_have_come batches && have_come references ends)
columns_whether batches references ends all is_whole new before whole is =
    is ∙ ap (λ (b : Bool). b && is_whole) before ∙ ap (λ (b : Bool). all_have_come batches && b) whole

pub more_columns : (IsOn : Links) (asking : Asking) (peer : PeerView) (left batch more objects : List ObjectId) (all is_whole is_silent new : Bool)
    (before middle after : Timed) → left ≡ batch ++ more → new ≡ (all && is_whole) → ColumnsSoFar IsOn asking peer left objects all before middle
    → AsksColumns IsOn asking peer (columns batch) is_whole is_silent middle after → ColumnsSoFar IsOn asking peer more objects new before after
more_columns IsOn asking peer left batch more objects all is_whole is_silent new before middle after split is so_far asks = record {
  batches = record { references = columns batch; ends = asks.ends } ∷ so_far.batches;
  asks = record { middle = middle; earlier = so_far.asks; last = asks.asks };
  are = columns_are so_far.batches left batch more objects split so_far.are;
  whether = columns_whether so_far.batches (columns batch) asks.ends all is_whole new so_far.whether asks.whole is;
}

-- an ask got no answer
pub columns_stopped : (IsOn : Links) (asking : Asking) (peer : PeerView) (left batch more objects : List ObjectId) (all is_whole is_silent new : Bool)
    (before middle after : Timed) → left ≡ batch ++ more → new ≡ (all && is_whole) → is_silent ≡ true
    → ColumnsSoFar IsOn asking peer left objects all before middle → AsksColumns IsOn asking peer (columns batch) is_whole is_silent middle after
    → ReadsColumns IsOn asking peer objects new before after
columns_stopped IsOn asking peer left batch more objects all is_whole is_silent new before middle after split is silent so_far asks = record {
  batches = record { references = columns batch; ends = asks.ends } ∷ so_far.batches;
  unread = more;
  asks = record { middle = middle; earlier = so_far.asks; last = asks.asks };
  are = columns_are so_far.batches left batch more objects split so_far.are;
  whether = columns_whether so_far.batches (columns batch) asks.ends all is_whole new so_far.whether asks.whole is;
  stops = inr (sym asks.silent ∙ silent);
}

-- none are left
pub all_columns : (IsOn : Links) (asking : Asking) (peer : PeerView) (left objects : List ObjectId) (all : Bool) (before now : Timed) → left ≡ []
    → ColumnsSoFar IsOn asking peer left objects all before now → ReadsColumns IsOn asking peer objects all before now
all_columns IsOn asking peer left objects all before now none so_far = record {
  batches = so_far.batches;
  unread = left;
  asks = so_far.asks;
  are = so_far.are;
  whether = so_far.whether;
  stops = inl none;
}
