-- Numbers in blocks.
use Rattle.std.proofs.Common.{◌≡◌, ℕ, zero, suc, ◌+◌, ◌-◌, ◌*◌, ◌<◌, ◌≤◌, List, [], ◌∷◌, ◌++◌, map, length, Some, slice_get, take, set}
use Rattle.std.proofs.Common.{refl, ap, sym, subst, ◌∙◌, arith}
use Rattle.std.specs.List.{concat, insert, remove}
use Rattle.std.proofs.lemmas.List.{append_assoc, length-append, map-append}
use Rattle.std.proofs.lemmas.List.Edits.{insert-append_left, insert-append_right, remove-append_left, remove-append_right, length-remove}
use Rattle.bac_slots.specs.Indexes.{rank_at, IsHeld, IsWithin}

-- ---- the first cells

module _ {X : Type 0} where
  take_insert : (l : List X) (n k : ℕ) (x : X) → n ≤ k → k ≤ length l → take (suc k) (insert l n x) ≡ insert (take k l) n x
  take_insert l zero k x below within = refl
  take_insert [] (suc n) k x below within = absurd (omega (arith, below, within))
  take_insert (y ∷ l) (suc n) zero x below within = absurd (omega (arith, below))
  take_insert (y ∷ l) (suc n) (suc k) x below within = ap (λ m. y ∷ m) (take_insert l n k x (omega (arith, below)) (omega (arith, within)))

  take_removed : (l : List X) (k : ℕ) → take k (remove l k) ≡ take k l
  take_removed l zero = refl
  take_removed [] (suc k) = refl
  take_removed (y ∷ l) (suc k) = ap (λ m. y ∷ m) (take_removed l k)

  pub inserted : (l : List X) (k n : ℕ) (x : X) → n ≤ k → k < length l → take (k + 1) (insert (remove l k) n x) ≡ insert (take k l) n x
  inserted l k n x below within =
      let long = length-remove l k within in
      let e : k + 1 ≡ suc k = omega arith in
      ap (λ m. take m (insert (remove l k) n x)) e
      ∙ take_insert (remove l k) n k x below (omega (arith, long, within)) ∙ ap (λ m. insert m n x) (take_removed l k)

  take_inserted : (l : List X) (k : ℕ) (x : X) → k ≤ length l → take k (insert l k x) ≡ take k l
  take_inserted l zero x within = refl
  take_inserted [] (suc k) x within = absurd (omega (arith, within))
  take_inserted (y ∷ l) (suc k) x within = ap (λ m. y ∷ m) (take_inserted l k x (omega (arith, within)))

  take_remove : (l : List X) (n j : ℕ) → n ≤ j → j < length l → take j (remove l n) ≡ remove (take (suc j) l) n
  take_remove [] n j below within = absurd (omega (arith, within))
  take_remove (y ∷ l) zero j below within = refl
  take_remove (y ∷ l) (suc n) zero below within = absurd (omega (arith, below))
  take_remove (y ∷ l) (suc n) (suc j) below within = ap (λ m. y ∷ m) (take_remove l n j (omega (arith, below)) (omega (arith, within)))

  pub removed : (l : List X) (k n : ℕ) (x : X) → n < k → k ≤ length l → take (k - 1) (insert (remove l n) (k - 1) x) ≡ remove (take k l) n
  removed l k n x below within =
      let long = length-remove l n (omega (arith, below, within)) in
      let e : suc (k - 1) ≡ k = omega (arith, below) in
      take_inserted (remove l n) (k - 1) x (omega (arith, long, below, within))
      ∙ take_remove l n (k - 1) (omega (arith, below)) (omega (arith, below, within)) ∙ ap (λ m. remove (take m l) n) e

  get_left : (xs ys : List X) (n : ℕ) → n < length xs → slice_get (xs ++ ys) n ≡ slice_get xs n
  get_left [] ys n l = absurd (omega (arith, l))
  get_left (x ∷ xs) ys zero l = refl
  get_left (x ∷ xs) ys (suc n) l = get_left xs ys n (omega (arith, l))

  get_right : (xs ys : List X) (n : ℕ) → slice_get (xs ++ ys) (length xs + n) ≡ slice_get ys n
  get_right [] ys n =
      let e : 0 + n ≡ n = omega arith in ap (λ k. slice_get ys k) e
  get_right (x ∷ xs) ys n =
      let e : suc (length xs) + n ≡ suc (length xs + n) = omega arith in
      ap (λ k. slice_get (x ∷ xs ++ ys) k) e ∙ get_right xs ys n

-- ---- where a number is

pub held_at : (bs : List (List ℕ)) (b at : ℕ) (r : List ℕ) → slice_get bs b ≡ Some r → at < length r → IsHeld (map length bs) b at
held_at [] b at r e l = absurd cc
held_at (q ∷ bs) zero at r e l = let same : q ≡ r = cc in subst (λ (s : List ℕ). at < length s) (sym same) l
held_at (q ∷ bs) (suc b) at r e l = held_at bs b at r e l

pub within_at : (bs : List (List ℕ)) (b at : ℕ) (r : List ℕ) → slice_get bs b ≡ Some r → at ≤ length r → IsWithin (map length bs) b at
within_at [] b at r e l = absurd cc
within_at (q ∷ bs) zero at r e l = let same : q ≡ r = cc in subst (λ (s : List ℕ). at ≤ length s) (sym same) l
within_at (q ∷ bs) (suc b) at r e l = within_at bs b at r e l

pub held_in : (bs : List (List ℕ)) (b at : ℕ) → IsHeld (map length bs) b at → b < length bs
held_in [] b at h = absurd h
held_in (q ∷ bs) zero at h = omega arith
held_in (q ∷ bs) (suc b) at h = let l = held_in bs b at h in omega (arith, l)

pub within_in : (bs : List (List ℕ)) (b at : ℕ) → IsWithin (map length bs) b at → b < length bs
within_in [] b at h = absurd h
within_in (q ∷ bs) zero at h = omega arith
within_in (q ∷ bs) (suc b) at h = let l = within_in bs b at h in omega (arith, l)

pub held_read : (bs : List (List ℕ)) (b at : ℕ) (r : List ℕ) → IsHeld (map length bs) b at → slice_get bs b ≡ Some r → at < length r
held_read [] b at r h e = absurd h
held_read (q ∷ bs) zero at r h e = let same : q ≡ r = cc in subst (λ (s : List ℕ). at < length s) same h
held_read (q ∷ bs) (suc b) at r h e = held_read bs b at r h e

pub within_read : (bs : List (List ℕ)) (b at : ℕ) (r : List ℕ) → IsWithin (map length bs) b at → slice_get bs b ≡ Some r → at ≤ length r
within_read [] b at r h e = absurd h
within_read (q ∷ bs) zero at r h e = let same : q ≡ r = cc in subst (λ (s : List ℕ). at ≤ length s) same h
within_read (q ∷ bs) (suc b) at r h e = within_read bs b at r h e

pub within_held : (sizes : List ℕ) (b at : ℕ) → IsHeld sizes b at → IsWithin sizes b at
within_held [] b at h = absurd h
within_held (m ∷ sizes) zero at h = omega (arith, h)
within_held (m ∷ sizes) (suc b) at h = within_held sizes b at h

pub held_last : (sizes : List ℕ) (b at : ℕ) → 0 < at → IsWithin sizes b at → IsHeld sizes b (at - 1)
held_last [] b at l h = absurd h
held_last (m ∷ sizes) zero at l h = omega (arith, l, h)
held_last (m ∷ sizes) (suc b) at l h = held_last sizes b at l h

pub within_next : (sizes : List ℕ) (b at : ℕ) → IsHeld sizes b at → IsWithin sizes b (at + 1)
within_next [] b at h = absurd h
within_next (m ∷ sizes) zero at h = omega (arith, h)
within_next (m ∷ sizes) (suc b) at h = within_next sizes b at h

pub within_first : (bs : List (List ℕ)) → 0 < length bs → IsWithin (map length bs) 0 0
within_first [] l = absurd (omega (arith, l))
within_first (q ∷ bs) l = omega arith

pub at_least : (sizes : List ℕ) (b at : ℕ) → at ≤ rank_at sizes b at
at_least sizes zero at = omega arith
at_least [] (suc b) at = omega arith
at_least (m ∷ sizes) (suc b) at = let rest = at_least sizes b at in omega (arith, rest)

-- ---- how many numbers are before it

pub rank_more : (sizes : List ℕ) (b at more : ℕ) → rank_at sizes b (at + more) ≡ rank_at sizes b at + more
rank_more sizes zero at more = refl
rank_more [] (suc b) at more = refl
rank_more (m ∷ sizes) (suc b) at more = let e = rank_more sizes b at more in omega (arith, e)

pub rank_past : (bs : List (List ℕ)) (b : ℕ) (r : List ℕ) → slice_get bs b ≡ Some r
    → rank_at (map length bs) (b + 1) 0 ≡ rank_at (map length bs) b (length r)
rank_past bs b r e = let next : b + 1 ≡ suc b = omega arith in ap (λ k. rank_at (map length bs) k 0) next ∙ go bs b e
  where
    go : (bs : List (List ℕ)) (b : ℕ) → slice_get bs b ≡ Some r → rank_at (map length bs) (suc b) 0 ≡ rank_at (map length bs) b (length r)
    go [] b e = absurd cc
    go (q ∷ bs) zero e = let same : q ≡ r = cc in let long = ap length same in omega (arith, long)
    go (q ∷ bs) (suc b) e = let rest = go bs b e in omega (arith, rest)

pub rank_below : (bs : List (List ℕ)) (b at : ℕ) → IsHeld (map length bs) b at → rank_at (map length bs) b at < length (concat bs)
rank_below [] b at h = absurd h
rank_below (q ∷ bs) zero at h = let both = length-append q (concat bs) in omega (arith, both, h)
rank_below (q ∷ bs) (suc b) at h =
    let both = length-append q (concat bs) in
    let rest = rank_below bs b at h in
    omega (arith, both, rest)

pub rank_within : (bs : List (List ℕ)) (b at : ℕ) → IsWithin (map length bs) b at → rank_at (map length bs) b at ≤ length (concat bs)
rank_within [] b at h = absurd h
rank_within (q ∷ bs) zero at h = let both = length-append q (concat bs) in omega (arith, both, h)
rank_within (q ∷ bs) (suc b) at h =
    let both = length-append q (concat bs) in
    let rest = rank_within bs b at h in
    omega (arith, both, rest)

pub rank_end : (bs : List (List ℕ)) (b : ℕ) (r : List ℕ) → slice_get bs b ≡ Some r → b + 1 ≡ length bs
    → rank_at (map length bs) b (length r) ≡ length (concat bs)
rank_end [] b r e l = absurd cc
rank_end (q ∷ []) zero r e l =
    let same : q ≡ r = cc in
    let long = ap length same in
    let both = length-append q [] in
    omega (arith, long, both)
rank_end (q ∷ p ∷ bs) zero r e l = absurd (omega (arith, l))
rank_end (q ∷ bs) (suc b) r e l =
    let both = length-append q (concat bs) in
    let rest = rank_end bs b r e (omega (arith, l)) in
    omega (arith, both, rest)

pub rank_read : (bs : List (List ℕ)) (b at x : ℕ) (r : List ℕ) → slice_get bs b ≡ Some r → at < length r → slice_get r at ≡ Some x
    → slice_get (concat bs) (rank_at (map length bs) b at) ≡ Some x
rank_read [] b at x r e l f = absurd cc
rank_read (q ∷ bs) zero at x r e l f =
    let same : q ≡ r = cc in
    let here : at < length q = subst (λ (s : List ℕ). at < length s) (sym same) l in
    get_left q (concat bs) at here ∙ ap (λ (s : List ℕ). slice_get s at) same ∙ f
rank_read (q ∷ bs) (suc b) at x r e l f = get_right q (concat bs) (rank_at (map length bs) b at) ∙ rank_read bs b at x r e l f

-- ---- blocks that are passed over

pub rank_add : (bs : List (List ℕ)) (b at : ℕ) (r : List ℕ) → slice_get bs b ≡ Some r
    → rank_at (map length bs) (b + 1) at ≡ rank_at (map length bs) b at + length r
rank_add bs b at r e = let next : b + 1 ≡ suc b = omega arith in ap (λ k. rank_at (map length bs) k at) next ∙ go bs b e
  where
    go : (bs : List (List ℕ)) (b : ℕ) → slice_get bs b ≡ Some r → rank_at (map length bs) (suc b) at ≡ rank_at (map length bs) b at + length r
    go [] b e = absurd cc
    go (q ∷ bs) zero e = let same : q ≡ r = cc in let long = ap length same in omega (arith, long)
    go (q ∷ bs) (suc b) e = let rest = go bs b e in omega (arith, rest)

pub rank_on : (bs : List (List ℕ)) (b at : ℕ) (r : List ℕ) → slice_get bs b ≡ Some r → length r ≤ at
    → rank_at (map length bs) (b + 1) (at - length r) ≡ rank_at (map length bs) b at
rank_on bs b at r e l =
    let whole : at - length r + length r ≡ at = omega (arith, l) in
    rank_add bs b (at - length r) r e ∙ sym (rank_more (map length bs) b (at - length r) (length r))
    ∙ ap (λ k. rank_at (map length bs) b k) whole

pub more_blocks : (bs : List (List ℕ)) (b at : ℕ) (r : List ℕ) → slice_get bs b ≡ Some r → length r ≤ at
    → rank_at (map length bs) b at < length (concat bs) → b + 1 < length bs
more_blocks [] b at r e l f = absurd cc
more_blocks (q ∷ []) zero at r e l f =
    let same : q ≡ r = cc in
    let long = ap length same in
    let both = length-append q [] in
    absurd (omega (arith, long, both, l, f))
more_blocks (q ∷ p ∷ bs) zero at r e l f = omega arith
more_blocks (q ∷ bs) (suc b) at r e l f =
    let both = length-append q (concat bs) in
    let rest = more_blocks bs b at r e l (omega (arith, both, f)) in
    omega (arith, rest)

pub rank_grows : (sizes : List ℕ) (m k at : ℕ) → m ≤ k → rank_at sizes m at ≤ rank_at sizes k at
rank_grows sizes zero zero at l = omega arith
rank_grows [] zero (suc k) at l = omega arith
rank_grows (s ∷ sizes) zero (suc k) at l = let rest = rank_grows sizes zero k at (omega arith) in omega (arith, rest)
rank_grows sizes (suc m) zero at l = absurd (omega (arith, l))
rank_grows [] (suc m) (suc k) at l = omega arith
rank_grows (s ∷ sizes) (suc m) (suc k) at l = let rest = rank_grows sizes m k at (omega (arith, l)) in omega (arith, rest)

-- ---- one number more or fewer

module _ (x : ℕ) where
  pub put_in : (bs : List (List ℕ)) (b at : ℕ) (r s : List ℕ) → slice_get bs b ≡ Some r → at ≤ length r → s ≡ insert r at x
      → concat (set bs b s) ≡ insert (concat bs) (rank_at (map length bs) b at) x
  put_in [] b at r s e l f = absurd cc
  put_in (q ∷ bs) zero at r s e l f =
      let same : q ≡ r = cc in
      let here : at ≤ length q = subst (λ (t : List ℕ). at ≤ length t) (sym same) l in
      ap (λ t. t ++ concat bs) (f ∙ ap (λ (t : List ℕ). insert t at x) (sym same)) ∙ sym (insert-append_left q (concat bs) at x here)
  put_in (q ∷ bs) (suc b) at r s e l f =
      let k : ℕ = rank_at (map length bs) b at in
      let rest : length q + k - length q ≡ k = omega arith in
      ap (λ t. q ++ t) (put_in bs b at r s e l f ∙ ap (λ m. insert (concat bs) m x) (sym rest))
      ∙ sym (insert-append_right q (concat bs) (length q) (length q + k) x refl (omega arith))

  pub put_split : (bs : List (List ℕ)) (b at : ℕ) (r s more : List ℕ) → slice_get bs b ≡ Some r → at ≤ length r → s ++ more ≡ insert r at x
      → concat (insert (set bs b s) (b + 1) more) ≡ insert (concat bs) (rank_at (map length bs) b at) x
  put_split bs b at r s more e l f =
      let next : b + 1 ≡ suc b = omega arith in
      ap (λ k. concat (insert (set bs b s) k more)) next ∙ go bs b e
    where
      go : (bs : List (List ℕ)) (b : ℕ) → slice_get bs b ≡ Some r
          → concat (insert (set bs b s) (suc b) more) ≡ insert (concat bs) (rank_at (map length bs) b at) x
      go [] b e = absurd cc
      go (q ∷ bs) zero e =
          let same : q ≡ r = cc in
          let here : at ≤ length q = subst (λ (t : List ℕ). at ≤ length t) (sym same) l in
          sym (append_assoc s more (concat bs))
          ∙ ap (λ t. t ++ concat bs) (f ∙ ap (λ (t : List ℕ). insert t at x) (sym same)) ∙ sym (insert-append_left q (concat bs) at x here)
      go (q ∷ bs) (suc b) e =
          let k : ℕ = rank_at (map length bs) b at in
          let rest : length q + k - length q ≡ k = omega arith in
          ap (λ t. q ++ t) (go bs b e ∙ ap (λ m. insert (concat bs) m x) (sym rest))
          ∙ sym (insert-append_right q (concat bs) (length q) (length q + k) x refl (omega arith))

pub taken_out : (bs : List (List ℕ)) (b at : ℕ) (r s : List ℕ) → slice_get bs b ≡ Some r → at < length r → s ≡ remove r at
    → concat (set bs b s) ≡ remove (concat bs) (rank_at (map length bs) b at)
taken_out [] b at r s e l f = absurd cc
taken_out (q ∷ bs) zero at r s e l f =
    let same : q ≡ r = cc in
    let here : at < length q = subst (λ (t : List ℕ). at < length t) (sym same) l in
    ap (λ t. t ++ concat bs) (f ∙ ap (λ (t : List ℕ). remove t at) (sym same)) ∙ sym (remove-append_left q (concat bs) at here)
taken_out (q ∷ bs) (suc b) at r s e l f =
    let k : ℕ = rank_at (map length bs) b at in
    let rest : length q + k - length q ≡ k = omega arith in
    ap (λ t. q ++ t) (taken_out bs b at r s e l f ∙ ap (λ m. remove (concat bs) m) (sym rest))
    ∙ sym (remove-append_right q (concat bs) (length q) (length q + k) refl (omega arith))

-- ---- blocks that leave

pub closed : (bs : List (List ℕ)) (b : ℕ) (r : List ℕ) → slice_get bs b ≡ Some r → length r ≤ 0 → concat (remove bs b) ≡ concat bs
closed [] b r e l = absurd cc
closed ([] ∷ bs) zero r e l = refl
closed ((y ∷ q) ∷ bs) zero r e l =
    let same : y ∷ q ≡ r = cc in
    let long = ap length same in
    absurd (omega (arith, long, l))
closed (q ∷ bs) (suc b) r e l = ap (λ t. q ++ t) (closed bs b r e l)

pub joined : (bs : List (List ℕ)) (n : ℕ) (r q s : List ℕ) → 0 < n → slice_get bs n ≡ Some q → slice_get (remove bs n) (n - 1) ≡ Some r → s ≡ r ++ q
    → concat (set (remove bs n) (n - 1) s) ≡ concat bs
joined bs n r q s l e f g =
    let k : ℕ = n - 1 in
    let next : n ≡ suc k = omega (arith, l) in
    go bs k (ap (λ m. slice_get bs m) (sym next) ∙ e) (ap (λ m. slice_get (remove bs m) k) (sym next) ∙ f) next
  where
    step : (bs : List (List ℕ)) (k : ℕ) → slice_get bs (suc k) ≡ Some q → slice_get (remove bs (suc k)) k ≡ Some r
        → concat (set (remove bs (suc k)) k s) ≡ concat bs
    step [] k e f = absurd cc
    step (a ∷ []) zero e f = absurd cc
    step (a ∷ b ∷ bs) zero e f =
        let first : a ≡ r = cc in
        let second : b ≡ q = cc in
        ap (λ t. t ++ concat bs) (g ∙ ap (λ t. t ++ q) (sym first) ∙ ap (λ t. a ++ t) (sym second)) ∙ append_assoc a b (concat bs)
    step (a ∷ bs) (suc k) e f = ap (λ t. a ++ t) (step bs k e f)

    go : (bs : List (List ℕ)) (k : ℕ) → slice_get bs (suc k) ≡ Some q → slice_get (remove bs (suc k)) k ≡ Some r → n ≡ suc k
        → concat (set (remove bs n) (n - 1) s) ≡ concat bs
    go bs k e f next =
        let less : n - 1 ≡ k = omega (arith, next) in
        ap (λ m. concat (set (remove bs n) m s)) less ∙ ap (λ m. concat (set (remove bs m) k s)) next ∙ step bs k e f

-- no two neighbours before the n-th fit in one block
abbrev pub Crowded : ℕ → List (List ℕ) → Type 0
Crowded n bs = (k : ℕ) (r q : List ℕ) → k + 1 < n → slice_get bs k ≡ Some r → slice_get bs (k + 1) ≡ Some q → 128 < length r + length q

pub crowded_few : (bs : List (List ℕ)) → Crowded (length bs) bs → 64 * length bs ≤ length (concat bs) + 64
crowded_few [] c = omega arith
crowded_few (r ∷ []) c = let both = length-append r [] in omega (arith, both)
crowded_few (r ∷ q ∷ bs) c =
    let rest = crowded_few bs (λ k a b l e f.
    let after : suc (suc k) + 1 ≡ suc (suc (k + 1)) = omega arith in
    c (suc (suc k)) a b (omega (arith, l)) e (ap (λ m. slice_get (r ∷ q ∷ bs) m) after ∙ f)) in
    let pair = c 0 r q (omega arith) refl refl in
    let one = length-append r (q ++ concat bs) in
    let two = length-append q (concat bs) in
    omega (arith, rest, pair, one, two)

-- each number of each block is mapped
pub concat_map : (f : ℕ → ℕ) (bs : List (List ℕ)) → concat (map (λ r. map f r) bs) ≡ map f (concat bs)
concat_map f [] = refl
concat_map f (r ∷ bs) = ap (λ l. map f r ++ l) (concat_map f bs) ∙ sym (map-append f r (concat bs))

pub length_settled : (f : ℕ → ℕ) (bs : List (List ℕ)) → length (map (λ r. map f r) bs) ≡ length bs
length_settled f [] = refl
length_settled f (r ∷ bs) = let rest = length_settled f bs in omega (arith, rest)
