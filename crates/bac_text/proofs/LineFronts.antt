-- Lines and their fronts, and what is kept of them.
use Rattle.std.proofs.Common.{◌≡◌, ◌<◌, ◌≤◌, ◌+◌, min, nat_lt, ◌==◌, true, false, Bool, ℕ, zero, suc, List, [], ◌∷◌, ◌++◌, length, take, drop}
use Rattle.std.proofs.Common.{Option, Some, None, IfSome, refl, sym, ap, subst, ◌∙◌, arith, append_assoc, append-nil, length-take}
use Rattle.std.proofs.Common.{length-take-le, if◌then◌else◌, cond}
use Rattle.std.proofs.KnownBytes.{starts_with_rest}
use Rattle.std.proofs.lemmas.Bool.Decides.{nat_tests}
use Rattle.std.proofs.lemmas.Bool.{false≢true}
use Rattle.std.proofs.lemmas.List.Recursion.{is_position_or_len}
use Rattle.std.proofs.lemmas.List.Sums.{position_or_len_is}
use Rattle.std.specs.List.{position, position_or_len}
use Rattle.memchr.specs.Find.{IsFirstByte}
use Rattle.std.specs.Io.{StartsWith}
use Rattle.std.specs.Io.BufRead.{drop_through, DropsConsumable}
use Rattle.std.specs.Io.KnownBytes.{Keeps}
use Rattle.std.specs.Option.{option_map}
use Rattle.bac_value_text.specs.Splits.{onto_first}
use Rattle.bac_text.specs.Capture.{capture_at}
use Rattle.bac_text.specs.Notes.{read_of}
use Rattle.bac_text.specs.Lines.{LINE_END, LINE_LIMIT, is_line_end, line_in, lines_of, short_capture_at, unless_long}
use Rattle.bac_text.specs.NextLine.{kept, IsRest, IsPart, IsLine, IsEmptyInput, IsNextLine}

-- ---- the front of a list

pub take_all : (xs : List ℕ) (n : ℕ) → length xs ≤ n → take n xs ≡ xs
take_all [] zero h = refl
take_all [] (suc n) h = refl
take_all (x ∷ xs) zero h = absurd (omega (arith, h))
take_all (x ∷ xs) (suc n) h = ap (λ (l : List ℕ). x ∷ l) (take_all xs n (omega (arith, h)))

pub take_front : (n : ℕ) (xs ys : List ℕ) → take n (take n xs ++ ys) ≡ take n (xs ++ ys)
take_front zero xs ys = refl
take_front (suc n) [] ys = refl
take_front (suc n) (x ∷ xs) ys = ap (λ (l : List ℕ). x ∷ l) (take_front n xs ys)

take_min : (b : Bool) (xs : List ℕ) (k : ℕ) → nat_lt (length xs) k ≡ b → take (min (length xs) k) xs ≡ take k xs
take_min true xs k e =
    let less : length xs < k = grind (arith, nat_tests, e) in
    let m : min (length xs) k ≡ length xs = omega (arith, less) in
    ap (λ (n : ℕ). take n xs) m ∙ take_all xs (length xs) (omega arith) ∙ sym (take_all xs k (omega (arith, less)))
take_min false xs k e =
    let more : k ≤ length xs = grind (arith, nat_tests, e) in
    let m : min (length xs) k ≡ k = omega (arith, more) in
    ap (λ (n : ℕ). take n xs) m

-- what fits in the room after some octets
pub part_kept : (old xs : List ℕ) (k n : ℕ) → k + length old ≡ n → old ++ take (min (length xs) k) xs ≡ take n (old ++ xs)
part_kept [] xs k n e = take_min (nat_lt (length xs) k) xs k refl ∙ ap (λ (m : ℕ). take m xs) (omega (arith, e))
part_kept (x ∷ old) xs k zero e = absurd (omega (arith, e))
part_kept (x ∷ old) xs k (suc n) e = ap (λ (l : List ℕ). x ∷ l) (part_kept old xs k n (omega (arith, e)))

-- ---- the first line

front_step : (b : Bool) (x : ℕ) (xs l : List ℕ) → take (length l) xs ≡ l
    → take (length (if b then [] else x ∷ l)) (x ∷ xs) ≡ (if b then [] else x ∷ l)
front_step true x xs l e = refl
front_step false x xs l e = ap (λ (m : List ℕ). x ∷ m) e

pub line_front : (xs : List ℕ) → take (length (line_in xs)) xs ≡ line_in xs
line_front [] = refl
line_front (x ∷ xs) = front_step (x == LINE_END) x xs (line_in xs) (line_front xs)

ended_step : (b : Bool) (x : ℕ) (xs ys : List ℕ)
    → (length (line_in xs) < length xs → (line_in (xs ++ ys) ≡ line_in xs) × (drop_through LINE_END (xs ++ ys) ≡ drop (suc (length (line_in xs))) (xs ++ ys)))
    → length (if b then [] else x ∷ line_in xs) < suc (length xs)
    → ((if b then [] else x ∷ line_in (xs ++ ys)) ≡ (if b then [] else x ∷ line_in xs))
    × ((if b then (xs ++ ys) else drop_through LINE_END (xs ++ ys)) ≡ drop (suc (length (if b then [] else x ∷ line_in xs))) (x ∷ (xs ++ ys)))
ended_step true x xs ys ih h = (refl, refl)
ended_step false x xs ys ih h =
    let i = ih (omega (arith, h)) in
    (ap (λ (l : List ℕ). x ∷ l) i.0, i.1)

-- the line ends in what stands in front
pub ended : (xs ys : List ℕ) → length (line_in xs) < length xs
    → (line_in (xs ++ ys) ≡ line_in xs) × (drop_through LINE_END (xs ++ ys) ≡ drop (suc (length (line_in xs))) (xs ++ ys))
ended [] ys h = absurd (omega (arith, h))
ended (x ∷ xs) ys h = ended_step (x == LINE_END) x xs ys (ended xs ys) h

open_step : (b : Bool) (x : ℕ) (xs ys : List ℕ)
    → (length xs ≤ length (line_in xs) → (line_in (xs ++ ys) ≡ xs ++ line_in ys) × (drop_through LINE_END (xs ++ ys) ≡ drop_through LINE_END ys))
    → suc (length xs) ≤ length (if b then [] else x ∷ line_in xs)
    → ((if b then [] else x ∷ line_in (xs ++ ys)) ≡ x ∷ (xs ++ line_in ys))
    × ((if b then (xs ++ ys) else drop_through LINE_END (xs ++ ys)) ≡ drop_through LINE_END ys)
open_step true x xs ys ih h = absurd (omega (arith, h))
open_step false x xs ys ih h =
    let i = ih (omega (arith, h)) in
    (ap (λ (l : List ℕ). x ∷ l) i.0, i.1)

-- the line does not end in what stands in front
pub open_front : (xs ys : List ℕ) → length xs ≤ length (line_in xs)
    → (line_in (xs ++ ys) ≡ xs ++ line_in ys) × (drop_through LINE_END (xs ++ ys) ≡ drop_through LINE_END ys)
open_front [] ys h = (refl, refl)
open_front (x ∷ xs) ys h = open_step (x == LINE_END) x xs ys (open_front xs ys) h

-- ---- the lines of an input

lines_step : (b : Bool) (x : ℕ) (xs : List ℕ) → (0 < length xs → lines_of xs ≡ line_in xs ∷ lines_of (drop_through LINE_END xs))
    → (if b then ([] ∷ lines_of xs) else onto_first x (lines_of xs))
    ≡ (if b then [] else x ∷ line_in xs) ∷ lines_of (if b then xs else drop_through LINE_END xs)
lines_step true x xs ih = refl
lines_step false x [] ih = refl
lines_step false x (y ∷ xs) ih = ap (λ (ls : List (List ℕ)). onto_first x ls) (ih (omega arith))

pub first_line : (xs : List ℕ) → 0 < length xs → lines_of xs ≡ line_in xs ∷ lines_of (drop_through LINE_END xs)
first_line [] h = absurd (omega (arith, h))
first_line (x ∷ xs) h = lines_step (x == LINE_END) x xs (first_line xs)

-- ---- what is kept of a line says whether it is a capture line

kept_step : {A : Type 0} (b : Bool) (other : A) (f : List ℕ → A) (most : ℕ) (line : List ℕ) → nat_lt most (length line) ≡ b
    → (if nat_lt most (length (take (most + 1) line)) then other else f (take (most + 1) line)) ≡ (if b then other else f line)
kept_step true other f most line e =
    let long : most + 1 ≤ length line = grind (arith, nat_tests, e) in
    let len : length (take (most + 1) line) ≡ most + 1 = length-take-le (most + 1) line long in
    let over : nat_lt most (length (take (most + 1) line)) ≡ true = grind (arith, nat_tests, len) in
    rw over refl
kept_step false other f most line e =
    let short : length line ≤ most = grind (arith, nat_tests, e) in
    let same : take (most + 1) line ≡ line = take_all line (most + 1) (omega (arith, short)) in
    rw (same, e) refl

-- what is said of a line that is not too long is said by what is kept of it
pub kept_line : {A : Type 0} (long : A) (f : List ℕ → A) (line : List ℕ) → unless_long (kept line) long (f (kept line)) ≡ unless_long line long (f line)
kept_line long f line = kept_step (nat_lt LINE_LIMIT (length line)) long f LINE_LIMIT line refl

pub kept_capture : (notes : Bool) (line : List ℕ) → short_capture_at notes (kept line) ≡ short_capture_at notes line
kept_capture notes line = kept_line (Some None) (λ (l : List ℕ). option_map capture_at (read_of notes l)) line

-- ---- parts of a line

-- octets that were shown are consumed
pub dropped : (old rested new : Option (List ℕ)) (limit : Option ℕ) (shown : List ℕ) (n : ℕ) → n ≤ length shown → Keeps old rested
    → IfSome old (λ xs. IfSome limit (λ k. length shown ≤ k)) → DropsConsumable rested new limit n → IfSome old (λ xs. new ≡ Some (drop n xs))
dropped None rested new limit shown n within kept fits drops = tt
dropped (Some xs) None new limit shown n within kept fits drops = absurd kept
dropped (Some xs) (Some ys) new limit shown n within kept fits drops = drops (room limit fits) ∙ ap (λ (l : List ℕ). Some (drop n l)) kept where
  room : (o : Option ℕ) → IfSome o (λ k. length shown ≤ k) → IfSome o (λ k. n ≤ k)
  room None h = tt
  room (Some k) h = omega (arith, within, h)

ended_part : (xs shown : List ℕ) (new : Option (List ℕ)) (before after : List ℕ) → StartsWith xs shown → length (line_in shown) < length shown
    → new ≡ Some (drop (suc (length (line_in shown))) xs) → after ≡ kept (before ++ take (length (line_in shown)) shown) → IsRest xs new before after
ended_part xs shown new before after front less is keeps =
    let whole = starts_with_rest xs shown front in
    let line = ended shown (drop (length shown) xs) less in
    record {
      is = is ∙ ap (λ (l : List ℕ). Some (drop (suc (length (line_in shown))) l)) whole
          ∙ ap (λ (l : List ℕ). Some l) (sym line.1) ∙ ap (λ (l : List ℕ). Some (drop_through LINE_END l)) (sym whole);
      keeps = keeps ∙ ap (λ (l : List ℕ). kept (before ++ l)) (line_front shown ∙ sym line.0 ∙ ap line_in (sym whole));
    }

pub part_ended : (old new : Option (List ℕ)) (shown before after : List ℕ) (n : ℕ) → IfSome old (λ xs. StartsWith xs shown) → n ≡ length (line_in shown)
    → n < length shown → IfSome old (λ xs. new ≡ Some (drop (n + 1) xs)) → after ≡ kept (before ++ take n shown) → IsPart old new before after true
part_ended None new shown before after n front len less is keeps = tt
part_ended (Some xs) new shown before after n front len less is keeps =
    let step : n + 1 ≡ suc (length (line_in shown)) = omega (arith, len) in
    ended_part xs shown new before after front (omega (arith, len, less)) (is ∙ ap (λ (k : ℕ). Some (drop k xs)) step)
    (keeps ∙ ap (λ (k : ℕ). kept (before ++ take k shown)) len)

shown_part : (b : Bool) (xs shown : List ℕ) (new : Option (List ℕ)) (before after : List ℕ) (n : ℕ) → StartsWith xs shown → (length shown ≡ 0 → xs ≡ [])
    → n ≡ length (line_in shown) → length shown ≤ n → n ≤ length shown → (n == 0) ≡ b
    → new ≡ Some (drop n xs) → after ≡ kept (before ++ take n shown) → IsPart (Some xs) new before after b
shown_part true xs shown new before after n front end len more within none is keeps =
    let zero_len : n ≡ 0 = grind (arith, nat_tests, none) in
    let empty = end (omega (arith, zero_len, more)) in
    record {
      is = is ∙ ap (λ (l : List ℕ). Some (drop n l)) empty ∙ ap (λ (k : ℕ). Some (drop k [])) zero_len
          ∙ ap (λ (l : List ℕ). Some (drop_through LINE_END l)) (sym empty);
      keeps = keeps ∙ ap (λ (k : ℕ). kept (before ++ take k shown)) zero_len ∙ ap (λ (l : List ℕ). kept (before ++ line_in l)) (sym empty);
    }
shown_part false xs shown new before after n front end len more within none is keeps =
    let whole = starts_with_rest xs shown front in
    let rest = drop (length shown) xs in
    let line = open_front shown rest (omega (arith, len, more)) in
    let all : n ≡ length shown = omega (arith, more, within) in
    record {
      part = shown;
      left = rest;
      is = is ∙ ap (λ (k : ℕ). Some (drop k xs)) all;
      line = ap line_in whole ∙ line.0;
      rest = ap (drop_through LINE_END) whole ∙ line.1;
      keeps = keeps ∙ ap (λ (l : List ℕ). kept (before ++ l)) (take_all shown n more);
    }

pub part_shown : (old new : Option (List ℕ)) (shown before after : List ℕ) (n : ℕ) → IfSome old (λ xs. StartsWith xs shown)
    → IfSome old (λ xs. length shown ≡ 0 → xs ≡ []) → n ≡ length (line_in shown) → length shown ≤ n → n ≤ length shown
    → IfSome old (λ xs. new ≡ Some (drop n xs)) → after ≡ kept (before ++ take n shown) → IsPart old new before after (n == 0)
part_shown None new shown before after n front end len more within is keeps = tt
part_shown (Some xs) new shown before after n front end len more within is keeps =
    shown_part (n == 0) xs shown new before after n front end len more within refl is keeps

-- nothing was shown: a signal came in between
pub nothing_taken : (old new : Option (List ℕ)) (before : List ℕ) → Keeps old new → length before ≤ LINE_LIMIT + 1 → IsPart old new before before false
nothing_taken None new before keeps short = tt
nothing_taken (Some xs) None before keeps short = absurd keeps
nothing_taken (Some xs) (Some ys) before keeps short = record {
  part = [];
  left = ys;
  is = refl;
  line = ap line_in (sym keeps);
  rest = ap (drop_through LINE_END) (sym keeps);
  keeps = sym (ap kept (append-nil before) ∙ take_all before (LINE_LIMIT + 1) short);
}

-- ---- parts one after the other

-- the front of the first line of the input is in the vector, and its rest before the reader
pub record IsBegun (octets : List ℕ) (left : Option (List ℕ)) (line : List ℕ) : Type 0 where
  pub here : List ℕ
  pub is : left ≡ Some here
  pub rest : drop_through LINE_END octets ≡ drop_through LINE_END here
  pub whole : kept (line ++ line_in here) ≡ kept (line_in octets)

abbrev pub AreBegun : Option (List ℕ) → Option (List ℕ) → List ℕ → Type 0
AreBegun None left line = Unit {0}
AreBegun (Some octets) left line = IsBegun octets left line

pub begun : (old : Option (List ℕ)) → AreBegun old old []
begun None = tt
begun (Some xs) = record { here = xs; is = refl; rest = refl; whole = refl }

part_of : (here : List ℕ) (left new : Option (List ℕ)) (before after : List ℕ) (b : Bool) → left ≡ Some here → IsPart left new before after b
    → IsPart (Some here) new before after b
part_of here left new before after b e p = subst (λ (o : Option (List ℕ)). IsPart o new before after b) e p

pub more_begun : (old left new : Option (List ℕ)) (before after : List ℕ) → AreBegun old left before
    → IsPart left new before after false → AreBegun old new after
more_begun None left new before after b p = tt
more_begun (Some xs) left new before after b p =
    let f = part_of b.here left new before after false b.is p in
    record {
      here = f.left;
      is = f.is;
      rest = b.rest ∙ f.rest;
      whole = ap (λ (l : List ℕ). kept (l ++ line_in f.left)) f.keeps ∙ take_front (LINE_LIMIT + 1) (before ++ f.part) (line_in f.left)
          ∙ ap kept (append_assoc before f.part (line_in f.left)) ∙ ap (λ (l : List ℕ). kept (before ++ l)) (sym f.line) ∙ b.whole;
    }

pub line_taken : (old left new : Option (List ℕ)) (before after : List ℕ) → AreBegun old left before → IsPart left new before after true → IsLine old new after
line_taken None left new before after b p = tt
line_taken (Some xs) left new before after b p =
    let r = part_of b.here left new before after true b.is p in
    (r.is ∙ ap (λ (l : List ℕ). Some l) (sym b.rest), r.keeps ∙ b.whole)

pub kept_short : (line : List ℕ) → length (kept line) ≤ LINE_LIMIT + 1
kept_short line = omega (arith, length-take (LINE_LIMIT + 1) line)

-- ---- the place of the end of the first line

len_step : (b : Bool) (x : ℕ) (l : List ℕ) → length (if b then [] else x ∷ l) ≡ cond b 0 (1 + length l)
len_step true x l = refl
len_step false x l = omega arith

line_place : (xs : List ℕ) → length (line_in xs) ≡ position_or_len is_line_end xs
line_place xs = is_position_or_len (λ (l : List ℕ). length (line_in l)) is_line_end refl (λ x l. len_step (x == LINE_END) x (line_in l)) xs

abbrev or_none : Option ℕ → ℕ
or_none None = 0
or_none (Some n) = n

abbrev is_there : Option ℕ → Bool
is_there None = false
is_there (Some n) = true

not_true : (b : Bool) → ¬ (b ≡ true) → b ≡ false
not_true true h = absurd (h refl)
not_true false h = refl

abbrev place_if : ℕ → ℕ → Option ℕ
place_if len place = cond (nat_lt place len) (Some place) None

-- a search's answer is the place of the first that passes
pub first_place : (test : ℕ → Bool) (xs : List ℕ) (r : Option ℕ) → IsFirstByte test xs r → r ≡ position test xs
first_place test xs None h =
    let at_end : position_or_len test xs ≡ length xs =
    position_or_len_is test xs (length xs) 0 (omega arith) (λ k lt. not_true _ (h k (omega arith) lt)) (λ lt. absurd (omega (arith, lt))) in
    let out : nat_lt (length xs) (length xs) ≡ false = grind (arith, nat_tests) in
    sym (ap (place_if (length xs)) at_end ∙ ap (λ (b : Bool). cond b (Some (length xs)) None) out)
first_place test xs (Some k) h =
    let here : position_or_len test xs ≡ k =
    position_or_len_is test xs k 0 (omega (arith, h.0.high)) (λ j lt. not_true _ (h.0.before j (omega arith) lt)) (λ lt. h.1) in
    let inside : nat_lt k (length xs) ≡ true = grind (arith, nat_tests, h.0.high) in
    sym (ap (place_if (length xs)) here ∙ ap (λ (b : Bool). cond b (Some k) None) inside)

pub len_some : (xs : List ℕ) (k : ℕ) → position is_line_end xs ≡ Some k → k ≡ length (line_in xs)
len_some xs k e = go (nat_lt (position_or_len is_line_end xs) (length xs)) e where
  go : (b : Bool) → cond b (Some (position_or_len is_line_end xs)) None ≡ Some k → k ≡ length (line_in xs)
  go true q = sym (ap or_none q) ∙ sym (line_place xs)
  go false q = absurd (false≢true (ap is_there q))

pub line_within : (xs : List ℕ) → length (line_in xs) ≤ length xs
line_within [] = omega arith
line_within (x ∷ xs) = go (x == LINE_END) (line_within xs) where
  go : (b : Bool) → length (line_in xs) ≤ length xs → length (if b then [] else x ∷ line_in xs) ≤ suc (length xs)
  go true h = omega arith
  go false h = omega (arith, h)

pub len_none : (xs : List ℕ) → position is_line_end xs ≡ None → length xs ≡ length (line_in xs)
len_none xs e = go (nat_lt (position_or_len is_line_end xs) (length xs)) refl e where
  go : (b : Bool) → nat_lt (position_or_len is_line_end xs) (length xs) ≡ b
      → cond b (Some (position_or_len is_line_end xs)) None ≡ None → length xs ≡ length (line_in xs)
  go true p q = absurd (false≢true (sym (ap is_there q)))
  go false p q =
      let more : length xs ≤ position_or_len is_line_end xs = grind (arith, nat_tests, p) in
      omega (arith, more, line_place xs, line_within xs)

-- ---- the next line

pub next_found : (old mid new : Option (List ℕ)) (line : List ℕ) → IsEmptyInput old false → Keeps old mid → IsLine mid new line → IsNextLine old new line true
next_found None mid new line some keeps taken = tt
next_found (Some xs) None new line some keeps taken = absurd keeps
next_found (Some xs) (Some ys) new line some keeps taken = (some, subst (λ (l : List ℕ). IsLine (Some l) new line) keeps taken)
