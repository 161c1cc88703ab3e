-- How much each address is sent: a table of buckets. Which bucket an address has depends on a key that others do not know; addresses that have the same one
-- share it.
use Rattle.std.specs.Prelude.{ℕ, ◌+◌, ◌*◌, ◌/◌, ◌%◌, ◌^◌, ◌≤◌, nat_eq, Bool, List, [], ◌∷◌, replicate, slice_index_or, slice_set, if◌then◌else◌}
use Rattle.bac_guard.specs.declared.bucket.Bucket.{Bucket}
use Rattle.bac_guard.specs.Buckets.{Event, after, came_over, elapsed, filled, fits, fresh, full, sent_in}

-- how many buckets there are
abbrev pub PLACES : ℕ
PLACES = 1024

-- the key, how many octets a second fill each bucket, and the buckets
pub record Table : Type 0 where
  pub key : ℕ
  pub rate : ℕ
  pub buckets : List Bucket

-- which bucket an address has: the upper ten bits of a product of 64 bits
abbrev pub place_of : (key host : ℕ) → ℕ
place_of key host = key * (2 * host + 1) % 2 ^ 64 / 2 ^ 54

-- all are full
abbrev pub new_table : (key rate began : ℕ) → Table
new_table key rate began = record { key = key; rate = rate; buckets = replicate PLACES (fresh rate began) }

abbrev pub bucket_at : Table → (place : ℕ) → Bucket
bucket_at t place = slice_index_or t.buckets place (fresh 0 0)

-- the bucket of an address
abbrev pub bucket_of : Table → (host : ℕ) → Bucket
bucket_of t host = bucket_at t (place_of t.key host)

-- so many octets fit that are to go to an address
abbrev pub fits_at : Table → (host now octets : ℕ) → Bool
fits_at t host now octets = fits octets (filled t.rate now (bucket_of t host))

-- what happens at the bucket of an address
pub record Traffic : Type 0 where
  pub host : ℕ
  pub event : Event

abbrev pub traffic : (host : ℕ) → Event → Traffic
traffic host event = record { host = host; event = event }

-- nothing happens at any other bucket
abbrev pub table_after : Traffic → Table → Table
table_after x t = record t { buckets = slice_set t.buckets (place_of t.key x.host) (after t.rate x.event (bucket_of t x.host)) }

-- ---- over any traffic

-- what happens at one bucket
abbrev pub events_at : (key place : ℕ) → List Traffic → List Event
events_at key place [] = []
events_at key place (x ∷ xs) =
    if nat_eq (place_of key x.host) place then x.event ∷ events_at key place xs else events_at key place xs

-- what happens at the bucket that an address has
abbrev pub events_of : (key host : ℕ) → List Traffic → List Event
events_of key host xs = events_at key (place_of key host) xs

-- how many octets an address is sent
abbrev pub sent_to : (host : ℕ) → List Traffic → Table → ℕ
sent_to host [] t = 0
sent_to host (x ∷ xs) t =
    (if nat_eq x.host host then sent_in t.rate x.event (bucket_of t x.host) else 0) + sent_to host xs (table_after x t)

-- an address is sent no more than a full bucket has, three times what came from those that share its bucket, and what the rate gives in the time that went by
abbrev pub IsHostBounded : (key rate began host : ℕ) → List Traffic → Type 0
IsHostBounded key rate began host xs =
    1000 * sent_to host xs (new_table key rate began)
    ≤ full rate + 3000 * came_over (events_of key host xs) + rate * elapsed began (events_of key host xs)
