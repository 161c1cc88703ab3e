-- What clocks show.
use Rattle.std.proofs.Common.{◌≡◌, ◌↔◌, ℕ, ◌+◌, ◌-◌, ◌*◌, ◌/◌, ◌<◌, ◌≤◌, sym, ap, ◌∙◌, arith}
use Rattle.std.proofs.Math.Nat.{add-mul, mul_assoc, mul_comm, mul-pos, mul-div-le, div-eq_of_lt-le}
use Rattle.bac_protocol.specs.Pace.{Pace, period, clock_at, most, least, IsLastTick}
use Rattle.bac_protocol.proofs.Paces.{above}

is_last : (p : Pace) → 0 < period p → (shown exact : ℕ) → shown ≡ (clock_at p exact).shows → IsLastTick p shown exact
is_last p some shown exact is =
    let parts : p.grain * shown ≡ period p * (exact / period p) = ap (λ (n : ℕ). p.grain * n) is ∙ sym (mul_assoc p.grain p.tick (exact / period p)) in
    let low : period p * (exact / period p) ≤ exact = mul-div-le exact (period p) in
    let high = above exact (period p) some in
    record { ticks = exact / period p; whole = is; at_least = omega arith; at_most = omega arith }

last_is : (p : Pace) (shown exact : ℕ) → IsLastTick p shown exact → shown ≡ (clock_at p exact).shows
last_is p shown exact last = last.whole ∙ ap (λ (n : ℕ). p.tick * n) (sym (div-eq_of_lt-le (period p) low high))
  where
    parts : p.grain * shown ≡ last.ticks * period p
    parts = ap (λ (n : ℕ). p.grain * n) last.whole ∙ (sym (mul_assoc p.grain p.tick last.ticks) ∙ mul_comm (period p) last.ticks)

    low : last.ticks * period p ≤ exact
    low = let same = parts in let least = last.at_least in omega arith

    high : exact < (last.ticks + 1) * period p
    high =
        let same = parts in
        let most = last.at_most in
        let next : (last.ticks + 1) * period p ≡ last.ticks * period p + 1 * period p = add-mul last.ticks 1 (period p) in
        omega arith

pub last_tick : (p : Pace) → 0 < p.grain → 0 < p.tick → (shown exact : ℕ) → (shown ≡ (clock_at p exact).shows) ↔ IsLastTick p shown exact
last_tick p some ticks shown exact = (is_last p (mul-pos some ticks) shown exact, last_is p shown exact)

-- Where a tick is a millisecond.

whole : (p : Pace) → p.tick ≡ 1 → period p ≡ p.grain
whole p one = ap (λ (t : ℕ). p.grain * t) one ∙ (let same : p.grain * 1 ≡ p.grain = omega arith in same)

all_of : (p : Pace) → p.tick ≡ 1 → (ms : ℕ) → period p * (ms / p.tick) ≡ p.grain * ms
all_of p one ms =
    ap (λ (n : ℕ). n * (ms / p.tick)) (whole p one)
    ∙ ap (λ (n : ℕ). p.grain * n) (ap (λ (t : ℕ). ms / t) one ∙ (let same : ms / 1 ≡ ms = omega arith in same))

pub shows_all : (p : Pace) → p.tick ≡ 1 → (exact : ℕ) → (clock_at p exact).shows ≡ exact / p.grain
shows_all p one exact =
    ap (λ (n : ℕ). p.tick * (exact / n)) (whole p one)
    ∙ (ap (λ (t : ℕ). t * (exact / p.grain)) one ∙ (let same : 1 * (exact / p.grain) ≡ exact / p.grain = omega arith in same))

pub most_of_all : (p : Pace) → p.tick ≡ 1 → (ms : ℕ) → most p ms ≡ 1000000 * (p.grain * ms + (p.grain - 1)) / (1000000 - p.drift)
unfolding most
most_of_all p one ms =
    ap (λ (n : ℕ). 1000000 * (n + (period p - 1)) / (1000000 - p.drift)) (all_of p one ms)
    ∙ ap (λ (n : ℕ). 1000000 * (p.grain * ms + (n - 1)) / (1000000 - p.drift)) (whole p one)

pub least_of_all : (p : Pace) → p.tick ≡ 1 → (ms : ℕ) → least p ms ≡ (1000000 * (p.grain * ms + 1) - 1) / (1000000 + p.drift)
unfolding least
least_of_all p one ms = ap (λ (n : ℕ). (1000000 * (n + 1) - 1) / (1000000 + p.drift)) (all_of p one ms)
