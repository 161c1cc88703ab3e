-- Clocks of nodes go on.
use Rattle.std.proofs.Common.{◌≡◌, ℕ, zero, suc, ◌+◌, ◌-◌, ◌*◌, ◌/◌, ◌<◌, ◌≤◌, ◌⊎◌, min, max, Bool, true, false, List, [], ◌∷◌, ◌++◌, length, map, take, Option, None, Some, slice_get, slice_index_or, slice_set}
use Rattle.std.proofs.Common.{if◌then◌else◌, nat_eq, refl, sym, ap, subst, inl, inr, ◌∙◌, arith}
use Rattle.std.proofs.lemmas.Bool.Decides.{nat_tests}
use Rattle.std.proofs.lemmas.List.{length-map, map-append}
use Rattle.std.proofs.Math.Nat.{mul-zero, mul-add, add-mul, mul_comm, mul_assoc, mul-le-mul_left, mul-div_cancel}
use Rattle.bac_protocol.specs.Pace.{Pace, clock_at, goes_on, most, slack, steps, one_clock}
use Rattle.bac_protocol.proofs.Paces.{steps_low, steps_high}
use Rattle.bac_world.specs.World.{passes, with_clock}
use Rattle.bac_world.proofs.Steps.{decide_number}
use Rattle.bac_journal.specs.declared.clocks.NodeClock.{NodeClock}
use Rattle.bac_journal.specs.Clocks.{OwnClocks, own_pace, exact_of, rate_of, steps_of, later_by, parts_of, paced, restarted_own, time_of}
use Rattle.bac_journal.specs.Clocks.{IsSane, AreSane, AreGoing, MayGo, starting}
use Rattle.bac_journal.proofs.Lists.{get_push, get_push_other, get_set, get_set_other}

-- Where all nodes have one clock.

-- no clock is slow
pub one_most : (ms : ℕ) → most one_clock ms ≡ ms
unfolding most
one_most ms = omega arith

-- a part is a millisecond
pub by_one : (n : ℕ) → 1 * (n / 1) ≡ n
by_one n = omega arith

no_slack : (by : ℕ) → slack one_clock by ≡ 0
no_slack by = ap (λ (n : ℕ). n / 1000000) (mul-zero by)

steps_so : (by own : ℕ) → steps one_clock by own ≡ by
steps_so by own = let low = steps_low one_clock by own in let high = steps_high one_clock by own in let none = no_slack by in omega arith

shows_it : (moment : ℕ) → clock_at one_clock moment ≡ record { exact = moment; shows = moment }
shows_it moment = λ i. record { exact = moment; shows = by_one moment i }

one_passes : (moment by : ℕ) (own : ℕ → ℕ) → passes (time_of moment None) by own ≡ time_of (moment + by) None
one_passes moment by own = λ i. record { pace = one_clock; now = moment + by; clocks = λ node. on node i }
  where
    on : (node : ℕ) → goes_on one_clock by (own node) (record { exact = moment; shows = moment }) ≡ record { exact = moment + by; shows = moment + by }
    on node = ap (λ (k : ℕ). clock_at one_clock (moment + k)) (steps_so by (own node)) ∙ shows_it (moment + by)

one_same : (moment node : ℕ) → with_clock (time_of moment None) node moment ≡ time_of moment None
one_same moment node = λ i. record { pace = one_clock; now = moment; clocks = λ j. go (nat_eq j node) i }
  where
    go : (b : Bool) → (if b then clock_at one_clock moment else record { exact = moment; shows = moment }) ≡ record { exact = moment; shows = moment }
    go true = shows_it moment
    go false = refl

-- Where each has its own.

none_passed : (x e rate : ℕ) → x + (e - e) * rate ≡ x
none_passed x e rate = let z : e - e ≡ 0 = omega arith in ap (λ (k : ℕ). x + k * rate) z ∙ (let n : x + 0 * rate ≡ x = omega arith in n)

module _ (drift life : ℕ) where
  slack_is : (by : ℕ) → slack (own_pace drift life) (1000000 * by) ≡ by * drift
  slack_is by =
      let a : 1000000 * by * drift ≡ by * drift * 1000000 = mul_assoc 1000000 by drift ∙ mul_comm 1000000 (by * drift) in
      ap (λ (n : ℕ). n / 1000000) a ∙ mul-div_cancel (by * drift) (omega arith)

  between : (own b s : ℕ) → b ≤ own + s → own ≤ b + s → min (max own (b - s)) (b + s) ≡ own
  between own b s low high = omega arith

  steps_are : (by rate : ℕ) → 1000000 ≤ rate + drift → rate ≤ 1000000 + drift → steps (own_pace drift life) (1000000 * by) (by * rate) ≡ by * rate
  steps_are by rate slow fast =
      let is = slack_is by in
      let low : by * 1000000 ≤ by * (rate + drift) = mul-le-mul_left by slow in
      let low_is : by * (rate + drift) ≡ by * rate + by * drift = mul-add by rate drift in
      let high : by * rate ≤ by * (1000000 + drift) = mul-le-mul_left by fast in
      let high_is : by * (1000000 + drift) ≡ by * 1000000 + by * drift = mul-add by 1000000 drift in
      ap (λ (s : ℕ). min (max (by * rate) (1000000 * by - s)) (1000000 * by + s)) is
      ∙ between (by * rate) (1000000 * by) (by * drift) (omega arith) (omega arith)

  exact_on : (elapsed by : ℕ) (o : Option NodeClock) → ((c : NodeClock) → o ≡ Some c → IsSane elapsed drift c)
      → exact_of elapsed o + steps (own_pace drift life) (1000000 * by) (by * rate_of o) ≡ exact_of (elapsed + by) o
  exact_on elapsed by None sane =
      let s = steps_are by 1000000 (omega arith) (omega arith) in omega arith
  exact_on elapsed by (Some c) sane =
      let h = sane c refl in
      let since = h.since in
      let s = steps_are by c.rate h.slow h.fast in
      let more : elapsed + by - c.since ≡ elapsed - c.since + by = omega arith in
      let all : (elapsed - c.since + by) * c.rate ≡ (elapsed - c.since) * c.rate + by * c.rate = add-mul (elapsed - c.since) by c.rate in
      let later : (elapsed + by - c.since) * c.rate ≡ (elapsed - c.since) * c.rate + by * c.rate = ap (λ (k : ℕ). k * c.rate) more ∙ all in
      omega arith

module _ (moment nodes : ℕ) (o : OwnClocks) (h : AreGoing moment nodes o) where
  abbrev p : Pace
  p = own_pace o.drift o.life

  own_passes : (by : ℕ) → passes (time_of moment (Some o)) (1000000 * by) (steps_of (Some o) by) ≡ time_of (moment + 1000000 * by) (later_by by (Some o))
  own_passes by = λ i. record { pace = p; now = moment + 1000000 * by; clocks = λ node. on node i }
    where
      on : (node : ℕ) → clock_at p (exact_of o.elapsed (slice_get o.nodes node) + steps p (1000000 * by) (by * rate_of (slice_get o.nodes node)))
          ≡ clock_at p (exact_of (o.elapsed + by) (slice_get o.nodes node))
      on node = ap (λ (k : ℕ). clock_at p k) (exact_on o.drift o.life o.elapsed by (slice_get o.nodes node) (λ c at. h.sane node c at))

  pub own_later : (by : ℕ) → AreGoing (moment + 1000000 * by) nodes (record o { elapsed = o.elapsed + by })
  own_later by = record {
    elapsed = (let e = h.elapsed in omega arith);
    drift = h.drift;
    many = h.many;
    sane = λ node c at. let k = h.sane node c at in record { since = (let s = k.since in omega arith); slow = k.slow; fast = k.fast; exact = k.exact };
  }

  -- one clock is another one
  module _ (node : ℕ) (there : node < nodes) (c : NodeClock) where
    here : slice_get (slice_set o.nodes node c) node ≡ Some c
    here = get_set o.nodes node c (let m = h.many in omega arith)

    pub set_going : length (slice_set o.nodes node c) ≡ length o.nodes → IsSane o.elapsed o.drift c
        → AreGoing moment nodes (record o { nodes = slice_set o.nodes node c })
    set_going many sane = record {
      elapsed = h.elapsed;
      drift = h.drift;
      many = many ∙ h.many;
      sane = λ j d at. go j d at (decide_number j node);
    }
      where
        go : (j : ℕ) (d : NodeClock) → slice_get (slice_set o.nodes node c) j ≡ Some d → ((j ≡ node) ⊎ (j ≡ node → ⊥)) → IsSane o.elapsed o.drift d
        go j d at (inl is) =
            let e : Some c ≡ Some d = sym here ∙ ap (slice_get (slice_set o.nodes node c)) (sym is) ∙ at in
            let same : c ≡ d = cc in subst (IsSane o.elapsed o.drift) same sane
        go j d at (inr ne) = h.sane j d (sym (get_set_other o.nodes node j c ne) ∙ at)

    -- what each clock is then
    exact_then : (f : ℕ → ℕ) → exact_of o.elapsed (Some c) ≡ f node → ((j : ℕ) → (j ≡ node → ⊥) → exact_of o.elapsed (slice_get o.nodes j) ≡ f j)
        → (j : ℕ) → exact_of o.elapsed (slice_get (slice_set o.nodes node c) j) ≡ f j
    exact_then f mine others j = go (decide_number j node)
      where
        go : ((j ≡ node) ⊎ (j ≡ node → ⊥)) → exact_of o.elapsed (slice_get (slice_set o.nodes node c) j) ≡ f j
        go (inl is) = ap (λ k. exact_of o.elapsed (slice_get (slice_set o.nodes node c) k)) is ∙ ap (exact_of o.elapsed) here ∙ mine ∙ ap f (sym is)
        go (inr ne) = ap (exact_of o.elapsed) (get_set_other o.nodes node j c ne) ∙ others j ne

  pub paced_time : (node rate : ℕ) → node < nodes → time_of moment (paced node rate (Some o)) ≡ time_of moment (Some o)
  paced_time node rate there = λ i. record { pace = p; now = moment; clocks = λ j. clock_at p (same j i) }
    where
      c : NodeClock
      c = record { exact = exact_of o.elapsed (slice_get o.nodes node); since = o.elapsed; rate = rate }

      same : (j : ℕ) → exact_of o.elapsed (slice_get (slice_set o.nodes node (record { exact = exact_of o.elapsed (slice_get o.nodes node); since = o.elapsed; rate = rate })) j)
          ≡ exact_of o.elapsed (slice_get o.nodes j)
      same = exact_then node there (record { exact = exact_of o.elapsed (slice_get o.nodes node); since = o.elapsed; rate = rate })
          (λ k. exact_of o.elapsed (slice_get o.nodes k)) (none_passed (exact_of o.elapsed (slice_get o.nodes node)) o.elapsed rate) (λ k ne. refl)

  pub restarted_time : (node : ℕ) → node < nodes → time_of moment (restarted_own node (Some o)) ≡ with_clock (time_of moment (Some o)) node 0
  restarted_time node there = λ i. record { pace = p; now = moment; clocks = λ j. (ap (λ (k : ℕ). clock_at p k) (after j) ∙ split (nat_eq j node) j) i }
    where
      rate : ℕ
      rate = rate_of (slice_get o.nodes node)

      exact : Bool → ℕ → ℕ
      exact b j = if b then 0 else exact_of o.elapsed (slice_get o.nodes j)

      self : (k : ℕ) → nat_eq k k ≡ true
      self k = grind (arith, nat_tests)

      away : (j k : ℕ) → (j ≡ k → ⊥) → nat_eq j k ≡ false
      away j k ne = go (nat_eq j k) refl
        where
          go : (b : Bool) → nat_eq j k ≡ b → b ≡ false
          go true e = absurd (ne (grind (arith, nat_tests)))
          go false e = refl

      after : (j : ℕ) → exact_of o.elapsed (slice_get (slice_set o.nodes node (record { exact = 0; since = o.elapsed; rate = rate_of (slice_get o.nodes node) })) j)
          ≡ exact (nat_eq j node) j
      after = exact_then node there (record { exact = 0; since = o.elapsed; rate = rate_of (slice_get o.nodes node) }) (λ k. exact (nat_eq k node) k)
          (none_passed 0 o.elapsed (rate_of (slice_get o.nodes node)) ∙ sym (ap (λ b. exact b node) (self node)))
          (λ k ne. sym (ap (λ b. exact b k) (away k node ne)))

      split : (b : Bool) (j : ℕ) → clock_at p (exact b j) ≡ (if b then clock_at p 0 else clock_at p (exact_of o.elapsed (slice_get o.nodes j)))
      split true j = refl
      split false j = refl

-- Either way.

pub time_passes : (moment nodes : ℕ) (own : Option OwnClocks) → MayGo moment nodes own → (by : ℕ)
    → time_of (moment + parts_of own * by) (later_by by own) ≡ passes (time_of moment own) (parts_of own * by) (steps_of own by)
time_passes moment nodes None h by =
    let one : 1 * by ≡ by = omega arith in
    ap (λ (k : ℕ). time_of (moment + k) None) one ∙ sym (one_passes moment by (steps_of None by)) ∙ ap (λ (k : ℕ). passes (time_of moment None) k (steps_of None by)) (sym one)
time_passes moment nodes (Some o) h by = sym (own_passes moment nodes o h by)

pub may_later : (moment nodes : ℕ) (own : Option OwnClocks) → MayGo moment nodes own → (by : ℕ) → MayGo (moment + parts_of own * by) nodes (later_by by own)
may_later moment nodes None h by = tt
may_later moment nodes (Some o) h by = own_later moment nodes o h by

-- Clocks that begin.

pub sane_push : (elapsed drift : ℕ) (clocks : List NodeClock) (c : NodeClock) → AreSane elapsed drift clocks → IsSane elapsed drift c
    → AreSane elapsed drift (clocks ++ c ∷ [])
sane_push elapsed drift clocks c sane its j d at = go (decide_number j (length clocks))
  where
    go : ((j ≡ length clocks) ⊎ (j ≡ length clocks → ⊥)) → IsSane elapsed drift d
    go (inl is) =
        let e : Some c ≡ Some d = sym (get_push clocks c) ∙ ap (slice_get (clocks ++ c ∷ [])) (sym is) ∙ at in
        let same : c ≡ d = cc in subst (IsSane elapsed drift) same its
    go (inr ne) = sane j d (sym (get_push_other clocks c j ne) ∙ at)

pub begins : (drift life nodes : ℕ) (starts : List ℕ) (clocks : List NodeClock) → clocks ≡ map starting starts → drift < 1000000 → length starts ≡ nodes
    → AreSane 0 drift clocks → AreGoing 0 nodes (record { elapsed = 0; drift = drift; life = life; nodes = clocks })
begins drift life nodes starts clocks are small many sane = record {
  elapsed = refl;
  drift = small;
  many = ap (λ (l : List NodeClock). length l) are ∙ length-map starts starting ∙ many;
  sane = sane;
}

taken : (starts : List ℕ) (i : ℕ) → i < length starts → take (suc i) starts ≡ take i starts ++ slice_index_or starts i 0 ∷ []
taken [] i h = absurd (omega arith)
taken (s ∷ ss) zero h = refl
taken (s ∷ ss) (suc i) h = ap (λ l. s ∷ l) (taken ss i (omega arith))

pub starting_more : (starts : List ℕ) (i : ℕ) → i < length starts
    → map starting (take (i + 1) starts) ≡ map starting (take i starts) ++ starting (slice_index_or starts i 0) ∷ []
starting_more starts i h =
    let on : i + 1 ≡ suc i = omega arith in
    ap (λ n. map starting (take n starts)) on ∙ ap (map starting) (taken starts i h) ∙ map-append starting (take i starts) (slice_index_or starts i 0 ∷ [])
