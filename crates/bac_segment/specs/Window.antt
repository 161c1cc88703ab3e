-- The two sides of a segmented transfer, and their steps (clauses 5.2 and 5.4). A step that sets a window takes W, the greatest
-- window size of the node itself. Pieces have whole numbers here, segments have sequence numbers of the wire.
use Rattle.std.specs.Prelude.{◌≡◌, ℕ, ◌+◌, ◌-◌, ◌%◌, ◌||◌, min, Bool, true, false, List, []}
use Rattle.std.specs.Prelude.{◌∷◌, ◌++◌, length, take, drop, Option, Some, None, if◌then◌else◌, nat_eq, nat_lt, nat_le}
use Rattle.bac_segment.specs.Limits.{N_RETRY, DATA}
use Rattle.bac_segment.specs.Numbers.{ahead}
use Rattle.bac_segment.specs.Pieces.{join}

-- The sender.

pub record Outgoing : Type 0 where
  pub pieces : List (List ℕ)
  pub first : ℕ  -- the first unacknowledged piece
  pub window : ℕ
  pub retries : ℕ  -- how often the window may be sent again

-- a sender that has sent nothing yet: the first window has one piece
abbrev pub outgoing : List (List ℕ) → Outgoing
outgoing pieces = record { pieces = pieces; first = 0; window = 1; retries = N_RETRY }

-- how many pieces are in the window
abbrev pub in_window : Outgoing → ℕ
in_window out = min out.window (length out.pieces - out.first)

-- the pieces of the window, in order; the first of them has the number out.first
abbrev pub window_pieces : Outgoing → List (List ℕ)
window_pieces out = take out.window (drop out.first out.pieces)

-- whether every piece was acknowledged
abbrev pub is_finished : Outgoing → Bool
is_finished out = nat_le (length out.pieces) out.first

-- after a SegmentACK with this sequence number and actual window size; None if it acknowledges no piece of the window
-- (own rule of this profile: negative ones acknowledge too, and one that acknowledges nothing new is ignored)
abbrev pub acknowledged : ℕ → Outgoing → ℕ → ℕ → Option Outgoing
acknowledged W out number window =
    if nat_lt (ahead number out.first) (in_window out)
    then Some (record out { first = out.first + ahead number out.first + 1; window = min window W; retries = N_RETRY })
    else None

-- after a timeout, if a retry is left
abbrev pub again : Outgoing → Option Outgoing
again out = if nat_eq out.retries 0 then None else Some (record out { retries = out.retries - 1 })

-- the transfer restarts
abbrev pub restart : Outgoing → Outgoing
restart out = outgoing out.pieces

-- the transfer continues from its current state
abbrev pub resume : Outgoing → Outgoing
resume out = record out { retries = N_RETRY }

-- The receiver.

pub record Incoming : Type 0 where
  pub parts : List (List ℕ)  -- what was taken, in order
  pub unacknowledged : ℕ  -- segments that were taken since the last SegmentACK
  pub window : ℕ  -- the actual window

-- a receiver that has taken nothing yet, of a transfer whose segments propose this window size
abbrev pub incoming : ℕ → ℕ → Incoming
incoming W proposed = record { parts = []; unacknowledged = 0; window = min proposed W }

-- the effect of a segment: it is taken (with or without a SegmentACK), it is taken and was the last, it is not
-- the expected one and gets a negative SegmentACK, or the transfer has become too long and nothing changes
pub data Taking : Type 0 where
  Taken : (ack : Bool) (next : Incoming) → Taking
  Whole : (parts : List (List ℕ)) → Taking
  Nak : (next : Incoming) → Taking
  TooLong : Taking

-- whether the sequence number is that of the next piece
abbrev pub is_expected : Incoming → ℕ → Bool
is_expected inc number = nat_eq number (length inc.parts % 256)

-- whether the octets, or the segments, which may be empty, would exceed their limit
abbrev pub is_too_long : Incoming → List ℕ → Bool
is_too_long inc octets = nat_lt DATA (length (join inc.parts) + length octets) || nat_lt DATA (length inc.parts + 1)

-- whether the next piece is acknowledged: it is piece 0, or completes a window since the last SegmentACK of either kind
abbrev pub is_acknowledged : Incoming → Bool
is_acknowledged inc = nat_eq (length inc.parts) 0 || nat_le inc.window (inc.unacknowledged + 1)

-- taking the expected segment
abbrev pub takes_expected : Incoming → Bool → List ℕ → Taking
takes_expected inc false octets = Whole (inc.parts ++ octets ∷ [])
takes_expected inc true octets =
    if is_acknowledged inc
    then Taken true (record inc { parts = inc.parts ++ octets ∷ []; unacknowledged = 0 })
    else Taken false (record inc { parts = inc.parts ++ octets ∷ []; unacknowledged = inc.unacknowledged + 1 })

-- handling a segment: its sequence number, whether more follow, its octets
-- (own rule of this profile: a repeated segment gets a negative SegmentACK like any other unexpected one)
abbrev pub takes : Incoming → ℕ → Bool → List ℕ → Taking
takes inc number more octets =
    if is_expected inc number
    then (if is_too_long inc octets then TooLong else takes_expected inc more octets)
    else Nak (record inc { unacknowledged = 0 })

-- the last segment is removed again; this many were taken since the last SegmentACK before it
abbrev pub taken_back : ℕ → Incoming → Incoming
taken_back unacknowledged inc = record inc { parts = take (length inc.parts - 1) inc.parts; unacknowledged = unacknowledged }

-- the parts that the receiver then holds
abbrev pub parts_after : Incoming → Taking → List (List ℕ)
parts_after inc (Taking.Taken ack next) = next.parts
parts_after inc (Taking.Whole parts) = parts
parts_after inc (Taking.Nak next) = next.parts
parts_after inc Taking.TooLong = inc.parts

-- these parts are a prefix of the pieces
abbrev pub AreFirst : List (List ℕ) → List (List ℕ) → Type 0
AreFirst pieces parts = parts ≡ take (length parts) pieces
