-- Runs of octets, part by part.
use Rattle.std.proofs.Common.{◌≡◌, ◌<◌, ◌≤◌, ◌+◌, min, nat_lt, true, false, Bool, ℕ, zero, suc, List, [], ◌∷◌, ◌++◌, length, take, drop}
use Rattle.std.proofs.Common.{Option, Some, None, IfSome, refl, sym, ap, subst, ◌∙◌, arith, append-nil, length-take, length-drop}
use Rattle.std.proofs.KnownBytes.{starts_with_rest}
use Rattle.std.proofs.lemmas.Bool.Decides.{nat_tests}
use Rattle.std.proofs.lemmas.List.{drop-drop}
use Rattle.std.specs.Io.{StartsWith}
use Rattle.std.specs.Io.BufRead.{DropsConsumable}
use Rattle.std.specs.Io.KnownBytes.{Keeps}
use Rattle.bac_capture.specs.Runs.{RUN_LIMIT, kept, IsTaken, IsPart, IsRun}

-- ---- the front of a list

pub take_all : (xs : List ℕ) (n : ℕ) → length xs ≤ n → take n xs ≡ xs
take_all [] zero h = refl
take_all [] (suc n) h = refl
take_all (x ∷ xs) zero h = absurd (omega (arith, h))
take_all (x ∷ xs) (suc n) h = ap (λ (l : List ℕ). x ∷ l) (take_all xs n (omega (arith, h)))

drop_all : (xs : List ℕ) (n : ℕ) → length xs ≤ n → drop n xs ≡ []
drop_all [] zero h = refl
drop_all [] (suc n) h = refl
drop_all (x ∷ xs) zero h = absurd (omega (arith, h))
drop_all (x ∷ xs) (suc n) h = drop_all xs n (omega (arith, h))

take_front : (n : ℕ) (xs ys : List ℕ) → take n (take n xs ++ ys) ≡ take n (xs ++ ys)
take_front zero xs ys = refl
take_front (suc n) [] ys = refl
take_front (suc n) (x ∷ xs) ys = ap (λ (l : List ℕ). x ∷ l) (take_front n xs ys)

-- reading at once has the same result as reading in two parts
take_more : (m n : ℕ) (xs : List ℕ) → m ≤ length xs → take m xs ++ take n (drop m xs) ≡ take (m + n) xs
take_more zero n xs h =
    let e : n ≡ zero + n = omega arith in
    ap (λ (k : ℕ). take k xs) e
take_more (suc m) n [] h = absurd (omega (arith, h))
take_more (suc m) n (x ∷ xs) h =
    let e : suc (m + n) ≡ suc m + n = omega arith in
    ap (λ (l : List ℕ). x ∷ l) (take_more m n xs (omega (arith, h))) ∙ ap (λ (k : ℕ). take k (x ∷ xs)) e

take_within : (n : ℕ) (xs ys : List ℕ) → n ≤ length xs → take n (xs ++ ys) ≡ take n xs
take_within zero xs ys h = refl
take_within (suc n) [] ys h = absurd (omega (arith, h))
take_within (suc n) (x ∷ xs) ys h = ap (λ (l : List ℕ). x ∷ l) (take_within n xs ys (omega (arith, h)))

take_min : (b : Bool) (xs : List ℕ) (k : ℕ) → nat_lt (length xs) k ≡ b → take (min (length xs) k) xs ≡ take k xs
take_min true xs k e =
    let less : length xs < k = grind (arith, nat_tests, e) in
    let m : min (length xs) k ≡ length xs = omega (arith, less) in
    ap (λ (n : ℕ). take n xs) m ∙ take_all xs (length xs) (omega arith) ∙ sym (take_all xs k (omega (arith, less)))
take_min false xs k e =
    let more : k ≤ length xs = grind (arith, nat_tests, e) in
    let m : min (length xs) k ≡ k = omega (arith, more) in
    ap (λ (n : ℕ). take n xs) m

-- what fits after some octets
pub part_kept : (old xs : List ℕ) (k n : ℕ) → k + length old ≡ n → old ++ take (min (length xs) k) xs ≡ take n (old ++ xs)
part_kept [] xs k n e = take_min (nat_lt (length xs) k) xs k refl ∙ ap (λ (m : ℕ). take m xs) (omega (arith, e))
part_kept (x ∷ old) xs k zero e = absurd (omega (arith, e))
part_kept (x ∷ old) xs k (suc n) e = ap (λ (l : List ℕ). x ∷ l) (part_kept old xs k n (omega (arith, e)))

pub kept_short : (run : List ℕ) → length (kept run) ≤ RUN_LIMIT
kept_short run = omega (arith, length-take RUN_LIMIT run)

-- ---- a part

-- octets that were available are consumed
pub dropped : (old rested new : Option (List ℕ)) (limit : Option ℕ) (shown : List ℕ) (n : ℕ) → n ≤ length shown → Keeps old rested
    → IfSome old (λ xs. IfSome limit (λ k. length shown ≤ k)) → DropsConsumable rested new limit n → IfSome old (λ xs. new ≡ Some (drop n xs))
dropped None rested new limit shown n within keeps fits drops = tt
dropped (Some xs) None new limit shown n within keeps fits drops = absurd keeps
dropped (Some xs) (Some ys) new limit shown n within keeps fits drops = drops (room limit fits) ∙ ap (λ (l : List ℕ). Some (drop n l)) keeps where
  room : (o : Option ℕ) → IfSome o (λ k. length shown ≤ k) → IfSome o (λ k. n ≤ k)
  room None h = tt
  room (Some k) h = omega (arith, within, h)

taken : (xs shown : List ℕ) (new : Option (List ℕ)) (before after : List ℕ) (n count : ℕ) → 0 < count → StartsWith xs shown
    → (length shown ≡ 0 → xs ≡ []) → n ≡ min (length shown) count → new ≡ Some (drop n xs) → after ≡ kept (before ++ take n shown)
    → IsTaken xs new n before after
taken xs shown new before after n count some front end len is keeps =
    let whole = starts_with_rest xs shown front in
    let within : n ≤ length shown = omega (arith, len) in
    let same : take n xs ≡ take n shown = ap (take n) whole ∙ take_within n shown (drop (length shown) xs) within in
    let long : length shown ≤ length xs = omega (arith, ap length whole, length_more shown (drop (length shown) xs)) in
    record {
      within = omega (arith, within, long);
      is = is;
      keeps = keeps ∙ ap (λ (l : List ℕ). kept (before ++ l)) (sym same);
      end = λ none. end (omega (arith, none, len, some));
    } where
      length_more : (before more : List ℕ) → length before ≤ length (before ++ more)
      length_more [] more = omega arith
      length_more (x ∷ before) more = omega (arith, length_more before more)

pub part_taken : (old new : Option (List ℕ)) (shown before after : List ℕ) (n count : ℕ) → IfSome old (λ xs. StartsWith xs shown)
    → IfSome old (λ xs. length shown ≡ 0 → xs ≡ []) → n ≡ min (length shown) count → IfSome old (λ xs. new ≡ Some (drop n xs))
    → after ≡ kept (before ++ take n shown) → IsPart old new count before after (Some n)
part_taken None new shown before after n count front end len is keeps = tt
part_taken (Some xs) new shown before after n count front end len is keeps = λ some. taken xs shown new before after n count some front end len is keeps

-- a signal interrupted the read
pub nothing_taken : (old new : Option (List ℕ)) (before : List ℕ) (count : ℕ) → Keeps old new → IsPart old new count before before None
nothing_taken None new before count keeps = tt
nothing_taken (Some xs) None before count keeps = absurd keeps
nothing_taken (Some xs) (Some ys) before count keeps = (ap (λ (l : List ℕ). Some l) keeps, refl)

-- ---- parts one after the other

-- this many octets were read so far
pub record IsSoFar (octets : List ℕ) (left : Option (List ℕ)) (gone : ℕ) (after : List ℕ) : Type 0 where
  pub within : gone ≤ length octets
  pub is : left ≡ Some (drop gone octets)
  pub keeps : after ≡ kept (take gone octets)

abbrev pub AreSoFar : Option (List ℕ) → Option (List ℕ) → ℕ → List ℕ → Type 0
AreSoFar None left gone after = Unit {0}
AreSoFar (Some octets) left gone after = IsSoFar octets left gone after

pub none_so_far : (old : Option (List ℕ)) (gone : ℕ) → gone ≡ 0 → AreSoFar old old gone []
none_so_far None gone e = tt
none_so_far (Some xs) gone e = record {
  within = omega (arith, e);
  is = ap (λ (n : ℕ). Some (drop n xs)) (sym e);
  keeps = ap (λ (n : ℕ). kept (take n xs)) (sym e);
}

part_at : (here : List ℕ) (left new : Option (List ℕ)) (count : ℕ) (before after : List ℕ) (p : Option ℕ) → left ≡ Some here
    → IsPart left new count before after p → IsPart (Some here) new count before after p
part_at here left new count before after p e part = subst (λ (o : Option (List ℕ)). IsPart o new count before after p) e part

same : (old left new : Option (List ℕ)) (gone count : ℕ) (before after : List ℕ) → AreSoFar old left gone before
    → IsPart left new count before after None → AreSoFar old new gone after
same None left new gone count before after s part = tt
same (Some xs) left new gone count before after s part =
    let p = part_at (drop gone xs) left new count before after None s.is part in
    record { within = s.within; is = p.0; keeps = p.1 ∙ s.keeps }

pub same_so_far : (old left new : Option (List ℕ)) (gone next count : ℕ) (before after : List ℕ) (p : Option ℕ) → AreSoFar old left gone before
    → IsPart left new count before after p → p ≡ None → next ≡ gone → AreSoFar old new next after
same_so_far old left new gone next count before after p s part none e =
    subst (λ (n : ℕ). AreSoFar old new n after) (sym e)
    (same old left new gone count before after s (subst (λ (q : Option ℕ). IsPart left new count before after q) none part))

pub some_within : (p : Option ℕ) (n k : ℕ) → IfSome p (λ m. m ≤ k) → p ≡ Some n → n ≤ k
some_within p n k h e = subst (λ (q : Option ℕ). IfSome q (λ m. m ≤ k)) e h

more : (old left new : Option (List ℕ)) (gone count n next : ℕ) (before after : List ℕ) → AreSoFar old left gone before → 0 < count
    → next ≡ gone + n → IsPart left new count before after (Some n) → AreSoFar old new next after
more None left new gone count n next before after s some e part = tt
more (Some xs) left new gone count n next before after s some e part =
    let t = part_at (drop gone xs) left new count before after (Some n) s.is part some in
    record {
      within = omega (arith, e, s.within, t.within, length-drop gone xs);
      is = t.is ∙ ap (λ (l : List ℕ). Some l) (drop-drop n gone xs) ∙ ap (λ (k : ℕ). Some (drop k xs)) (sym e);
      keeps = t.keeps ∙ ap (λ (l : List ℕ). kept (l ++ take n (drop gone xs))) s.keeps
          ∙ take_front RUN_LIMIT (take gone xs) (take n (drop gone xs)) ∙ ap kept (take_more gone n xs s.within)
          ∙ ap (λ (k : ℕ). kept (take k xs)) (sym e);
    }

pub more_so_far : (old left new : Option (List ℕ)) (gone count n next : ℕ) (before after : List ℕ) (p : Option ℕ) → AreSoFar old left gone before → 0 < count
    → next ≡ gone + n → IsPart left new count before after p → p ≡ Some n → AreSoFar old new next after
more_so_far old left new gone count n next before after p s some e part is =
    more old left new gone count n next before after s some e (subst (λ (q : Option ℕ). IsPart left new count before after q) is part)

pub run_taken : (old left : Option (List ℕ)) (gone count : ℕ) (after : List ℕ) → AreSoFar old left gone after → gone ≡ count → IsRun old left count after true
run_taken None left gone count after s e = tt
run_taken (Some xs) left gone count after s e =
    let within : count ≤ length xs = omega (arith, e, s.within) in
    record {
      is = s.is ∙ ap (λ (k : ℕ). Some (drop k xs)) e;
      keeps = s.keeps ∙ ap (λ (k : ℕ). kept (take k xs)) e;
      enough = grind (arith, nat_tests, within);
    }

ended : (old left new : Option (List ℕ)) (gone count more : ℕ) (before after : List ℕ) → AreSoFar old left gone before → 0 < more
    → gone + more ≡ count → IsPart left new more before after (Some 0) → IsRun old new count after false
ended None left new gone count more before after s some e part = tt
ended (Some xs) left new gone count more before after s some e part =
    let t = part_at (drop gone xs) left new more before after (Some 0) s.is part some in
    let none = t.end refl in
    let all : length xs ≤ gone = omega (arith, ap length none, length-drop gone xs) in
    let short : length xs < count = omega (arith, all, e, some) in
    record {
      is = t.is ∙ ap (λ (l : List ℕ). Some l) (none ∙ sym (drop_all xs count (omega (arith, short))));
      keeps = t.keeps ∙ ap kept (append-nil before) ∙ ap kept s.keeps ∙ ap kept (ap kept (take_all xs gone all))
          ∙ kept_again xs ∙ ap kept (sym (take_all xs count (omega (arith, short))));
      enough = grind (arith, nat_tests, short);
    } where
      kept_again : (l : List ℕ) → kept (kept l) ≡ kept l
      kept_again l = take_all (kept l) RUN_LIMIT (kept_short l)

pub run_ended : (old left new : Option (List ℕ)) (gone count more n : ℕ) (before after : List ℕ) (p : Option ℕ) → AreSoFar old left gone before → 0 < more
    → gone + more ≡ count → IsPart left new more before after p → p ≡ Some n → n ≡ 0 → IsRun old new count after false
run_ended old left new gone count more n before after p s some e part is none =
    ended old left new gone count more before after s some e
    (subst (λ (q : Option ℕ). IsPart left new more before after q) (is ∙ ap (λ (k : ℕ). Some k) none) part)
