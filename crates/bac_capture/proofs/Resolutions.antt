-- The options of an interface, one after the other.
use Rattle.std.proofs.Common.{◌≡◌, ℕ, zero, suc, ◌+◌, ◌<◌, ◌≤◌, Bool, true, false, List, length, drop, nat_lt, ◌==◌, if◌then◌else◌, refl, ap, ◌∙◌, arith}
use Rattle.std.specs.List.{slice_index}
use Rattle.std.proofs.lemmas.Bool.Decides.{nat_tests}
use Rattle.bac_capture.specs.declared.order.Order.{Order}
use Rattle.bac_capture.specs.Moments.{option_len, resolution_in}
use Rattle.bac_capture.specs.Orders.{number_of}

-- no option is left
pub none_left : (count : ℕ) (order : Order) (options : List ℕ) → length options < 5 → resolution_in count order options ≡ 6
unfolding resolution_in
none_left zero order options short = refl
none_left (suc count) order options short = go (nat_lt (length options) 5) refl _
  where
    go : (b : Bool) → nat_lt (length options) 5 ≡ b → (other : ℕ) → (if b then 6 else other) ≡ 6
    go true e other = refl
    go false e other = absurd (grind (arith, nat_tests, e, short))

-- the result if an option other than the end is left, and this many more options are read
abbrev pub stated_on : ℕ → Order → List ℕ → ℕ
stated_on count order options =
    if number_of order 2 options == 9 then slice_index options 4 else
    resolution_in count order (drop (option_len (number_of order 2 (drop 2 options))) options)

-- the result if an option is left
abbrev pub stated : ℕ → Order → List ℕ → ℕ
stated count order options = if number_of order 2 options == 0 then 6 else stated_on count order options

pub one_left : (count less : ℕ) (order : Order) (options : List ℕ) → count ≡ less + 1 → 5 ≤ length options
    → resolution_in count order options ≡ stated less order options
unfolding resolution_in
one_left zero less order options some long = absurd (omega (arith, some))
one_left (suc count) less order options some long =
    let same : count ≡ less = omega (arith, some) in
    go (nat_lt (length options) 5) refl _ ∙ ap (λ n. stated n order options) same
  where
    go : (b : Bool) → nat_lt (length options) 5 ≡ b → (other : ℕ) → (if b then 6 else other) ≡ other
    go true e other = absurd (grind (arith, nat_tests, e, long))
    go false e other = refl

-- the first option has this code
pub is_code : (order : Order) (options : List ℕ) (code one other : ℕ) → number_of order 2 options ≡ code
    → (if number_of order 2 options == code then one else other) ≡ one
is_code order options code one other is = go (number_of order 2 options == code) refl
  where
    go : (b : Bool) → (number_of order 2 options == code) ≡ b → (if b then one else other) ≡ one
    go true e = refl
    go false e = absurd (grind (arith, nat_tests, e, is))

-- the first option has another code
pub no_code : (order : Order) (options : List ℕ) (code one other : ℕ) → (number_of order 2 options ≡ code → ⊥)
    → (if number_of order 2 options == code then one else other) ≡ other
no_code order options code one other is = go (number_of order 2 options == code) refl
  where
    go : (b : Bool) → (number_of order 2 options == code) ≡ b → (if b then one else other) ≡ other
    go true e = absurd (is (grind (arith, nat_tests, e)))
    go false e = refl

pub no_more : (count : ℕ) (order : Order) (options : List ℕ) → count ≡ 0 → resolution_in count order options ≡ 6
unfolding resolution_in
no_more zero order options is = refl
no_more (suc count) order options is = absurd (omega (arith, is))
