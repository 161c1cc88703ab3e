-- What is sent through a bucket is bounded.
use Rattle.std.proofs.Common.{◌≡◌, ℕ, ◌+◌, ◌-◌, ◌*◌, ◌≤◌, Bool, true, false, List, [], ◌∷◌, if◌then◌else◌, min, max, refl, ap, sym, subst, ◌∙◌, arith}
use Rattle.std.proofs.Math.Nat.{mul-add}
use Rattle.std.proofs.lemmas.Bool.{leb-true}
use Rattle.bac_guard.specs.declared.bucket.Bucket.{Bucket}
use Rattle.bac_guard.specs.Buckets.{MOST, full, fresh, filled, fits, spent, Event, after, moment_of, came_in, sent_in, came_over, sent_over, latest, elapsed, IsBounded}

-- ---- one event

filled_left : (rate now : ℕ) (b : Bucket) → (filled rate now b).left ≤ b.left + rate * (now - b.until)
filled_left rate now b = go (full rate) (rate * (now - b.until))
  where
    go : (most more : ℕ) → max b.left (min most (b.left + more)) ≤ b.left + more
    go most more = omega arith

spent_left : (octets : ℕ) (b : Bucket) → 1000 * (if fits octets b then octets else 0) + (spent octets b).left ≤ b.left
spent_left octets b = go (fits octets b) refl
  where
    go : (x : Bool) → fits octets b ≡ x
        → 1000 * (if x then octets else 0) + (if x then record b { left = b.left - 1000 * octets } else b).left ≤ b.left
    go true e = let within = leb-true (1000 * octets) b.left e in omega (arith, within)
    go false e = omega arith

one_event : (rate : ℕ) (e : Event) (b : Bucket)
    → 1000 * sent_in rate e b + (after rate e b).left ≤ b.left + 3000 * came_in e + rate * (moment_of e - b.until)
one_event rate (Event.Came now octets) b = go (filled rate now b).left (rate * (now - b.until)) (filled_left rate now b)
  where
    go : (left more : ℕ) → left ≤ b.left + more → 1000 * 0 + min MOST (left + 3000 * octets) ≤ b.left + 3000 * octets + more
    go left more h = omega (arith, h)
one_event rate (Event.Goes now octets) b =
    go (1000 * sent_in rate (Event.Goes now octets) b) (spent octets (filled rate now b)).left (rate * (now - b.until)) (spent_left octets (filled rate now b))
    (filled_left rate now b)
  where
    go : (sent left more : ℕ) → sent + left ≤ (filled rate now b).left → (filled rate now b).left ≤ b.left + more → sent + left ≤ b.left + 3000 * 0 + more
    go sent left more h k = omega (arith, h, k)

spent_until : (octets : ℕ) (b : Bucket) → (spent octets b).until ≡ b.until
spent_until octets b = go (fits octets b)
  where
    go : (x : Bool) → (if x then record b { left = b.left - 1000 * octets } else b).until ≡ b.until
    go true = refl
    go false = refl

until_after : (rate : ℕ) (e : Event) (b : Bucket) → (after rate e b).until ≡ max b.until (moment_of e)
until_after rate (Event.Came now octets) b = refl
until_after rate (Event.Goes now octets) b = spent_until octets (filled rate now b)

-- ---- all events

latest_from : (from : ℕ) (es : List Event) → from ≤ latest from es
latest_from from [] = omega arith
latest_from from (e ∷ es) = let more = latest_from (max from (moment_of e)) es in omega (arith, more)

-- the time up to a moment, and from there on
passes : (rate from now end : ℕ) → max from now ≤ end → rate * (now - from) + rate * (end - max from now) ≡ rate * (end - from)
passes rate from now end h =
    let e : now - from + (end - max from now) ≡ end - from = omega (arith, h) in
    sym (mul-add rate (now - from) (end - max from now)) ∙ ap (λ k. rate * k) e

joined : (sent more left came others first rest all b : ℕ) → 1000 * sent + left ≤ b + 3000 * came + first → 1000 * more ≤ left + 3000 * others + rest
    → first + rest ≡ all → 1000 * (sent + more) ≤ b + 3000 * (came + others) + all
joined sent more left came others first rest all b h k e = omega (arith, h, k, e)

pub bounded : (rate : ℕ) (es : List Event) (b : Bucket) → 1000 * sent_over rate es b ≤ b.left + 3000 * came_over es + rate * elapsed b.until es
bounded rate [] b = omega arith
bounded rate (e ∷ es) b =
    joined (sent_in rate e b) (sent_over rate es (after rate e b)) (after rate e b).left (came_in e) (came_over es) (rate * (moment_of e - b.until))
    (rate * elapsed (max b.until (moment_of e)) es) (rate * elapsed b.until (e ∷ es)) b.left (one_event rate e b)
    (subst
    (λ from. 1000 * sent_over rate es (after rate e b) ≤ (after rate e b).left + 3000 * came_over es + rate * elapsed from es)
    (until_after rate e b) (bounded rate es (after rate e b)))
    (passes rate b.until (moment_of e) (latest (max b.until (moment_of e)) es) (latest_from (max b.until (moment_of e)) es))

pub fresh_bounded : (rate began : ℕ) (es : List Event) → IsBounded rate began es
fresh_bounded rate began es = bounded rate es (fresh rate began)
