-- One number of a slice leaves and another one enters, with those between the two places moved by one.
use Rattle.std.proofs.Common.{◌≡◌, ℕ, zero, suc, ◌+◌, ◌-◌, ◌<◌, ◌≤◌, List, [], ◌∷◌, ◌++◌, length, take, drop, set}
use Rattle.std.proofs.Common.{refl, ap, subst, ◌∙◌, arith}
use Rattle.std.proofs.lemmas.List.{append_assoc}
use Rattle.std.specs.List.{copy_within, insert, remove}

module _ {X : Type 0} (x : X) where
  from_start : (n : ℕ) (y : X) (ys : List X) → n ≤ length ys → set (take n ys ++ drop n (y ∷ ys)) n x ≡ take n ys ++ x ∷ drop n ys
  from_start zero y ys l = refl
  from_start (suc n) y [] l = absurd (omega arith)
  from_start (suc n) y (z ∷ ys) l = ap (λ k. z ∷ k) (from_start n z ys (omega (arith, l)))

  -- towards the start
  down : (f n t : ℕ) (xs : List X) → t ≡ f + n → t < length xs
      → set (take f xs ++ (take n (drop (suc f) xs) ++ drop t xs)) t x ≡ insert (remove xs f) t x
  down f n t [] e l = absurd (omega (arith, l))
  down zero n t (y ∷ ys) e l =
      let same : n ≡ t = omega (arith, e) in
      subst (λ k. set (take n ys ++ drop k (y ∷ ys)) k x ≡ take k ys ++ x ∷ drop k ys) same (from_start n y ys (omega (arith, l, same)))
  down (suc f) n zero (y ∷ ys) e l = absurd (omega (arith, e))
  down (suc f) n (suc t) (y ∷ ys) e l = ap (λ k. y ∷ k) (down f n t ys (omega (arith, e)) (omega (arith, l)))

  -- towards the end
  up : (t n f : ℕ) (xs : List X) → f ≡ t + n → f < length xs
      → set (take (suc t) xs ++ (take n (drop t xs) ++ drop (suc f) xs)) t x ≡ insert (remove xs f) t x
  up t n f [] e l = absurd (omega (arith, l))
  up zero n f (y ∷ ys) e l =
      let same : n ≡ f = omega (arith, e) in
      ap (λ k. x ∷ (take k (y ∷ ys) ++ drop f ys)) same
  up (suc t) n zero (y ∷ ys) e l = absurd (omega (arith, e))
  up (suc t) n (suc f) (y ∷ ys) e l = ap (λ k. y ∷ k) (up t n f ys (omega (arith, e)) (omega (arith, l)))

  down_as : (f g n k t : ℕ) (xs : List X) → g ≡ f + 1 → k ≡ t → t ≡ f + n → t < length xs
      → set (take f xs ++ (take n (drop g xs) ++ drop k xs)) t x ≡ insert (remove xs f) t x
  down_as f g n k t xs next same e l =
      let after : g ≡ suc f = omega (arith, next) in
      ap (λ m. set (take f xs ++ (take n (drop m xs) ++ drop k xs)) t x) after
      ∙ ap (λ m. set (take f xs ++ (take n (drop (suc f) xs) ++ drop m xs)) t x) same ∙ down f n t xs e l

  up_as : (t g n k f : ℕ) (xs : List X) → g ≡ t + 1 → k ≡ f + 1 → f ≡ t + n → f < length xs
      → set (take g xs ++ (take n (drop t xs) ++ drop k xs)) t x ≡ insert (remove xs f) t x
  up_as t g n k f xs next past e l =
      let after : g ≡ suc t = omega (arith, next) in
      let behind : k ≡ suc f = omega (arith, past) in
      ap (λ m. set (take m xs ++ (take n (drop t xs) ++ drop k xs)) t x) after
      ∙ ap (λ m. set (take (suc t) xs ++ (take n (drop t xs) ++ drop m xs)) t x) behind ∙ up t n f xs e l

  pub moved_down : (f t : ℕ) (xs : List X) → f < t → t < length xs → set (copy_within xs (f + 1) (t + 1) f) t x ≡ insert (remove xs f) t x
  moved_down f t xs less l =
      ap (λ l. set l t x) (append_assoc (take f xs) (take (t + 1 - (f + 1)) (drop (f + 1) xs)) (drop (f + (t + 1 - (f + 1))) xs))
      ∙ down_as f (f + 1) (t + 1 - (f + 1)) (f + (t + 1 - (f + 1))) t xs refl (omega (arith, less)) (omega (arith, less)) l

  pub moved_up : (f t : ℕ) (xs : List X) → t ≤ f → f < length xs → set (copy_within xs t f (t + 1)) t x ≡ insert (remove xs f) t x
  moved_up f t xs less l =
      ap (λ l. set l t x) (append_assoc (take (t + 1) xs) (take (f - t) (drop t xs)) (drop (t + 1 + (f - t)) xs))
      ∙ up_as t (t + 1) (f - t) (t + 1 + (f - t)) f xs refl (omega (arith, less)) (omega (arith, less)) l
