-- What an address is sent is bounded, since all of it goes through the address's bucket.
use Rattle.std.proofs.Common.{◌≡◌, ℕ, ◌+◌, ◌*◌, ◌/◌, ◌%◌, ◌^◌, ◌<◌, ◌≤◌, Bool, true, false, List, [], ◌∷◌, if◌then◌else◌, nat_eq, length, refl, ap, sym, subst, ◌∙◌, arith}
use Rattle.std.proofs.lemmas.Bool.{eqb-true, eqb-false}
use Rattle.std.proofs.lemmas.List.{get_or-set_same, get_or-set_other, length-set, length-replicate, get_or-replicate}
use Rattle.bac_guard.specs.declared.bucket.Bucket.{Bucket}
use Rattle.bac_guard.specs.Buckets.{Event, after, came_over, elapsed, fresh, full, sent_in, sent_over}
use Rattle.bac_guard.specs.Budgets.{Table, Traffic, IsHostBounded, bucket_at, bucket_of, events_of, new_table, place_of, sent_to, table_after}
use Rattle.bac_guard.proofs.Bounds.{fresh_bounded}

pub place_within : (key host : ℕ) → place_of key host < 1024
place_within key host = go (key * (2 * host + 1))
  where
    go : (product : ℕ) → product % 2 ^ 64 / 2 ^ 54 < 1024
    go product = omega arith

no_more : (x : Bool) (n : ℕ) → (if x then n else 0) ≤ n
no_more true n = omega arith
no_more false n = omega arith

-- ---- the bucket after one event

same_place : (t : Table) (x : Traffic) (place : ℕ) → length t.buckets ≡ 1024 → place_of t.key x.host ≡ place
    → bucket_at (table_after x t) place ≡ after t.rate x.event (bucket_at t place)
same_place t x place long e =
    let within = place_within t.key x.host in
    subst (λ (p : ℕ). bucket_at (table_after x t) p ≡ after t.rate x.event (bucket_at t p)) e
    (get_or-set_same t.buckets (place_of t.key x.host) (after t.rate x.event (bucket_of t x.host)) (fresh 0 0) (omega (arith, within, long)))

other_place : (t : Table) (x : Traffic) (place : ℕ) → (place_of t.key x.host ≡ place → ⊥) → bucket_at (table_after x t) place ≡ bucket_at t place
other_place t x place ne =
    get_or-set_other t.buckets (place_of t.key x.host) place (after t.rate x.event (bucket_of t x.host)) (fresh 0 0) (λ e. ne (sym e))

long_after : (t : Table) (x : Traffic) → length t.buckets ≡ 1024 → length (table_after x t).buckets ≡ 1024
long_after t x long = length-set t.buckets (place_of t.key x.host) (after t.rate x.event (bucket_of t x.host)) ∙ long

-- ---- all traffic

module _ (host : ℕ) where
  apart : (t : Table) (x : Traffic) → nat_eq (place_of t.key x.host) (place_of t.key host) ≡ false → nat_eq x.host host ≡ false
  apart t x e = go (nat_eq x.host host) refl
    where
      go : (b : Bool) → nat_eq x.host host ≡ b → b ≡ false
      go true f =
          absurd
          (eqb-false (place_of t.key x.host) (place_of t.key host) e (ap (λ (h : ℕ). place_of t.key h) (eqb-true x.host host f)))
      go false f = refl

  none_sent : (b : Bool) (n : ℕ) → b ≡ false → (if b then n else 0) ≡ 0
  none_sent true n e = absurd cc
  none_sent false n e = refl

  one_more : (x : Traffic) (t : Table) (rest : List Event) → length t.buckets ≡ 1024 → (more : ℕ)
      → more ≤ sent_over t.rate rest (bucket_at (table_after x t) (place_of t.key host)) → (b : Bool)
      → nat_eq (place_of t.key x.host) (place_of t.key host) ≡ b
      → (if nat_eq x.host host then sent_in t.rate x.event (bucket_of t x.host) else 0) + more
      ≤ sent_over t.rate (if b then x.event ∷ rest else rest) (bucket_of t host)
  one_more x t rest long more again true e =
      let same = eqb-true (place_of t.key x.host) (place_of t.key host) e in
      let others = subst (λ (b : Bucket). more ≤ sent_over t.rate rest b) (same_place t x (place_of t.key host) long same) again in
      let one = subst
      (λ (p : ℕ). (if nat_eq x.host host then sent_in t.rate x.event (bucket_of t x.host) else 0) ≤ sent_in t.rate x.event (bucket_at t p)) same
      (no_more (nat_eq x.host host) (sent_in t.rate x.event (bucket_of t x.host))) in
      omega (arith, others, one)
  one_more x t rest long more again false e =
      let others = subst (λ (b : Bucket). more ≤ sent_over t.rate rest b)
      (other_place t x (place_of t.key host) (eqb-false (place_of t.key x.host) (place_of t.key host) e)) again in
      let none = none_sent (nat_eq x.host host) (sent_in t.rate x.event (bucket_of t x.host)) (apart t x e) in
      omega (arith, others, none)

  pub through : (xs : List Traffic) (t : Table) → length t.buckets ≡ 1024
      → sent_to host xs t ≤ sent_over t.rate (events_of t.key host xs) (bucket_of t host)
  through [] t long = omega arith
  through (x ∷ xs) t long =
      one_more x t (events_of t.key host xs) long (sent_to host xs (table_after x t)) (through xs (table_after x t) (long_after t x long))
      (nat_eq (place_of t.key x.host) (place_of t.key host)) refl

pub host_bounded : (key rate began host : ℕ) (xs : List Traffic) → IsHostBounded key rate began host xs
host_bounded key rate began host xs =
    let first = through host xs (new_table key rate began) (length-replicate 1024 (fresh rate began)) in
    let is = get_or-replicate 1024 (place_of key host) (fresh rate began) (fresh 0 0) (place_within key host) in
    let second = subst (λ (b : Bucket). sent_to host xs (new_table key rate began) ≤ sent_over rate (events_of key host xs) b) is first in
    let third = fresh_bounded rate began (events_of key host xs) in
    joined (full rate) (sent_to host xs (new_table key rate began)) (sent_over rate (events_of key host xs) (fresh rate began))
    (3000 * came_over (events_of key host xs)) (rate * elapsed began (events_of key host xs)) second third
  where
    joined : (most to over came time : ℕ) → to ≤ over → 1000 * over ≤ most + came + time → 1000 * to ≤ most + came + time
    joined most to over came time h k = omega (arith, h, k)
