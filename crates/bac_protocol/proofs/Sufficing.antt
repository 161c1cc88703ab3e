-- For which paces the times suffice.
use Rattle.std.proofs.Common.{◌≡◌, ℕ, zero, suc, ◌+◌, ◌-◌, ◌*◌, ◌/◌, ◌<◌, ◌≤◌, sym, ap, subst, ◌∙◌, arith}
use Rattle.std.proofs.Math.Nat.{add-mul, mul-add, mul_assoc, mul_comm, mul-le-mul_left, mul-le-mul_right, le_of_mul-le-mul_right, le-mul_of_pos_right}
use Rattle.std.proofs.Math.Nat.{le-div_iff_mul-le, div-mul-le_self, mul-div_cancel_left}
use Rattle.bac_protocol.specs.Pace.{period, most, least}
use Rattle.bac_protocol.specs.Drift.{TimesSuffice}

-- Below, g is the grain, q the tick, t the period, d the drift, k the rest of a million, l the life of a copy, and m the most real time that a wait takes.

-- So many ticks are a second.

some_tick : (q ticks : ℕ) → q * ticks ≡ 1000 → 0 < q
some_tick zero ticks second = absurd (let none : 0 * ticks ≡ 0 = omega arith in omega arith)
some_tick (suc q) ticks second = omega arith

some_ticks : (q ticks : ℕ) → q * ticks ≡ 1000 → 0 < ticks
some_ticks q ticks second = some_tick ticks q (mul_comm ticks q ∙ second)

short_tick : (q ticks : ℕ) → q * ticks ≡ 1000 → q ≤ 1000
short_tick q ticks second = let less : q ≤ q * ticks = le-mul_of_pos_right q (some_ticks q ticks second) in omega arith

-- and so are whole seconds whole ticks
whole_ticks : (g q ticks n : ℕ) → q * ticks ≡ 1000 → g * q * (1000 * n / q) ≡ g * (1000 * n)
whole_ticks g q ticks n second =
    ap (λ (x : ℕ). g * q * x) (ap (λ (x : ℕ). x / q) split ∙ mul-div_cancel_left (ticks * n) (some_tick q ticks second))
    ∙ (mul_assoc g q (ticks * n) ∙ ap (λ (x : ℕ). g * x) (sym split))
  where
    split : 1000 * n ≡ q * (ticks * n)
    split = ap (λ (x : ℕ). x * n) (sym second) ∙ mul_assoc q ticks n

-- The times.

parts : (d k n : ℕ) → k + d ≡ 1000000 → n * k + n * d ≡ 1000000 * n
parts d k n whole =
    let split : n * (k + d) ≡ n * k + n * d = mul-add n k d in
    let same : n * (k + d) ≡ n * 1000000 = ap (λ (x : ℕ). n * x) whole in
    omega arith

slow_so : (g d : ℕ) → 0 < g → 126 * (d * g) ≤ 4999000 * g → d ≤ 39999
slow_so g d some fits = le_of_mul-le-mul_right (let less : d * g ≤ 39999 * g = omega arith in less) some

module _ (g t d k l : ℕ) (short : t ≤ 1000 * g) (whole : k + d ≡ 1000000) (rest : 0 < k) (fits : 1000 * l + 1000 * t + 126 * (d * g) ≤ 5000000 * g) where
  -- two waits of 60,000 ms and a life
  waits : (m : ℕ) → m * k ≤ 1000000 * (g * 60000 + (t - 1)) → 2 * m + l ≤ 126000 * g
  waits m less = le_of_mul-le-mul_right all rest
    where
      all : (2 * m + l) * k ≤ 126000 * g * k
      all =
          let left : (2 * m + l) * k ≡ 2 * m * k + l * k = add-mul (2 * m) l k in
          let two : 2 * m * k ≡ 2 * (m * k) = mul_assoc 2 m k in
          let right : 126000 * g * k ≡ 126000 * (g * k) = mul_assoc 126000 g k in
          let of_l : l * k + l * d ≡ 1000000 * l = parts d k l whole in
          let of_g : g * k + g * d ≡ 1000000 * g = parts d k g whole in
          let same : g * d ≡ d * g = mul_comm g d in
          omega arith

  -- one of 65,000 ms and a life
  waits_once : (m : ℕ) → m * k ≤ 1000000 * (g * 65000 + (t - 1)) → m + l ≤ 126000 * g
  waits_once m less = le_of_mul-le-mul_right all rest
    where
      all : (m + l) * k ≤ 126000 * g * k
      all =
          let left : (m + l) * k ≡ m * k + l * k = add-mul m l k in
          let right : 126000 * g * k ≡ 126000 * (g * k) = mul_assoc 126000 g k in
          let of_l : l * k + l * d ≡ 1000000 * l = parts d k l whole in
          let of_g : g * k + g * d ≡ 1000000 * g = parts d k g whole in
          let same : g * d ≡ d * g = mul_comm g d in
          omega arith

  keeps_so : (m : ℕ) → m * k ≤ 1000000 * (g * 60000 + (t - 1)) → (m + l) * (1000000 + d) ≤ 1000000 * (g * 65000 + 1) - 1
  keeps_so m less =
      let drifts : (2 * m + l) * d ≤ 126000 * g * d = mul-le-mul_right d (waits m less) in
      let left : (2 * m + l) * d ≡ 2 * m * d + l * d = add-mul (2 * m) l d in
      let two : 2 * m * d ≡ 2 * (m * d) = mul_assoc 2 m d in
      let right : 126000 * g * d ≡ 126000 * (g * d) = mul_assoc 126000 g d in
      let same : g * d ≡ d * g = mul_comm g d in
      let of_m : m * k + m * d ≡ 1000000 * m = parts d k m whole in
      let split : (m + l) * (1000000 + d) ≡ (m + l) * 1000000 + (m + l) * d = mul-add (m + l) 1000000 d in
      let each : (m + l) * d ≡ m * d + l * d = add-mul m l d in
      omega arith

  rests_so : (m : ℕ) → m * k ≤ 1000000 * (g * 65000 + (t - 1)) → (l + m + l) * (1000000 + d) ≤ 1000000 * (g * 75000 + 1) - 1
  rests_so m less =
      let drifts : (m + l) * d ≤ 126000 * g * d = mul-le-mul_right d (waits_once m less) in
      let left : (m + l) * d ≡ m * d + l * d = add-mul m l d in
      let right : 126000 * g * d ≡ 126000 * (g * d) = mul_assoc 126000 g d in
      let same : g * d ≡ d * g = mul_comm g d in
      let of_m : m * k + m * d ≡ 1000000 * m = parts d k m whole in
      let split : (l + m + l) * (1000000 + d) ≡ (l + m + l) * 1000000 + (l + m + l) * d = mul-add (l + m + l) 1000000 d in
      let each : (l + m + l) * d ≡ (l + m) * d + l * d = add-mul (l + m) l d in
      let first : (l + m) * d ≡ l * d + m * d = add-mul l m d in
      omega arith

pub times_suffice : TimesSuffice
unfolding most least
times_suffice p ticks some second fits =
    let tick : 0 < p.tick = some_tick p.tick ticks second in
    let more : p.grain ≤ p.grain * p.tick = le-mul_of_pos_right p.grain tick in
    let less : p.grain * p.tick ≤ p.grain * 1000 = mul-le-mul_left p.grain (short_tick p.tick ticks second) in
    let short : period p ≤ 1000 * p.grain = omega arith in
    let slow : p.drift ≤ 39999 = slow_so p.grain p.drift some (omega arith) in
    let whole : 1000000 - p.drift + p.drift ≡ 1000000 = omega arith in
    let rest : 0 < 1000000 - p.drift = omega arith in
    let above : 0 < 1000000 + p.drift = omega arith in
    let until_deadline : most p 60000 * (1000000 - p.drift) ≤ 1000000 * (p.grain * 60000 + (period p - 1)) =
    subst (λ (x : ℕ). most p 60000 * (1000000 - p.drift) ≤ 1000000 * (x + (period p - 1))) (whole_ticks p.grain p.tick ticks 60 second)
    (div-mul-le_self (1000000 * (period p * (60000 / p.tick) + (period p - 1))) (1000000 - p.drift)) in
    let kept : most p 65000 * (1000000 - p.drift) ≤ 1000000 * (p.grain * 65000 + (period p - 1)) =
    subst (λ (x : ℕ). most p 65000 * (1000000 - p.drift) ≤ 1000000 * (x + (period p - 1))) (whole_ticks p.grain p.tick ticks 65 second)
    (div-mul-le_self (1000000 * (period p * (65000 / p.tick) + (period p - 1))) (1000000 - p.drift)) in
    record {
      some = some;
      ticks = tick;
      slow = omega arith;
      keeps = (le-div_iff_mul-le above).1
          (subst (λ (x : ℕ). (most p 60000 + p.life) * (1000000 + p.drift) ≤ 1000000 * (x + 1) - 1) (sym (whole_ticks p.grain p.tick ticks 65 second))
          (keeps_so p.grain (period p) p.drift (1000000 - p.drift) p.life short whole rest fits (most p 60000) until_deadline));
      rests = (le-div_iff_mul-le above).1
          (subst (λ (x : ℕ). (p.life + most p 65000 + p.life) * (1000000 + p.drift) ≤ 1000000 * (x + 1) - 1) (sym (whole_ticks p.grain p.tick ticks 75 second))
          (rests_so p.grain (period p) p.drift (1000000 - p.drift) p.life short whole rest fits (most p 65000) kept));
    }
