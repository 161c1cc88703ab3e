-- How much may be sent to the addresses of one bucket. What is left is counted in thousandths of an octet, so that a rate in octets a second fills it exactly by
-- the millisecond.
use Rattle.std.specs.Prelude.{ℕ, ◌+◌, ◌-◌, ◌*◌, ◌^◌, ◌≤◌, min, max, nat_le, Bool, List, [], ◌∷◌, if◌then◌else◌}
use Rattle.bac_guard.specs.declared.bucket.Bucket.{Bucket}

-- the greatest number, at which what is left stays
abbrev pub MOST : ℕ
MOST = 2 ^ 64 - 1

-- what a full bucket has: 256 KiB, or what the rate gives in two seconds, if that is more. A transfer that stopped goes on after two seconds.
abbrev pub full : (rate : ℕ) → ℕ
full rate = max 262144000 (min (rate * 2000) MOST)

-- a new bucket is full
abbrev pub fresh : (rate began : ℕ) → Bucket
fresh rate began = record { left = full rate; until = began }

-- filled until a moment, by so many octets a second, and not beyond full; one that has more keeps it. A moment that is past already changes nothing.
abbrev pub filled : (rate now : ℕ) → Bucket → Bucket
filled rate now b = record { left = max b.left (min (full rate) (b.left + rate * (now - b.until))); until = max b.until now }

-- so many octets came: three times as many may be sent
abbrev pub credited : (octets : ℕ) → Bucket → Bucket
credited octets b = record b { left = min MOST (b.left + 3000 * octets) }

-- so many octets may be sent
abbrev pub fits : (octets : ℕ) → Bucket → Bool
fits octets b = nat_le (1000 * octets) b.left

-- they are sent where they fit
abbrev pub spent : (octets : ℕ) → Bucket → Bucket
spent octets b = if fits octets b then record b { left = b.left - 1000 * octets } else b

-- ---- what happens

-- so many octets came from an address of the bucket, or are to go to one
pub data Event : Type 0 where
  Came : (now octets : ℕ) → Event
  Goes : (now octets : ℕ) → Event

abbrev pub after : (rate : ℕ) → Event → Bucket → Bucket
after rate (Event.Came now octets) b = credited octets (filled rate now b)
after rate (Event.Goes now octets) b = spent octets (filled rate now b)

abbrev pub moment_of : Event → ℕ
moment_of (Event.Came now octets) = now
moment_of (Event.Goes now octets) = now

-- how many octets came in it
abbrev pub came_in : Event → ℕ
came_in (Event.Came now octets) = octets
came_in (Event.Goes now octets) = 0

-- how many were sent in it
abbrev pub sent_in : (rate : ℕ) → Event → Bucket → ℕ
sent_in rate (Event.Came now octets) b = 0
sent_in rate (Event.Goes now octets) b = if fits octets (filled rate now b) then octets else 0

-- ---- over any list of events

abbrev pub came_over : List Event → ℕ
came_over [] = 0
came_over (e ∷ es) = came_in e + came_over es

abbrev pub sent_over : (rate : ℕ) → List Event → Bucket → ℕ
sent_over rate [] b = 0
sent_over rate (e ∷ es) b = sent_in rate e b + sent_over rate es (after rate e b)

-- the latest moment of the events, and of one before them
abbrev pub latest : (from : ℕ) → List Event → ℕ
latest from [] = from
latest from (e ∷ es) = latest (max from (moment_of e)) es

-- the milliseconds from a moment to the latest one
abbrev pub elapsed : (from : ℕ) → List Event → ℕ
elapsed from es = latest from es - from

-- no more is sent than a full bucket has, three times what came, and what the rate gives in the time that went by
abbrev pub IsBounded : (rate began : ℕ) → List Event → Type 0
IsBounded rate began es =
    1000 * sent_over rate es (fresh rate began) ≤ full rate + 3000 * came_over es + rate * elapsed began es
