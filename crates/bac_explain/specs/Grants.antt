-- Which segments may be sent (clause 5.3): before the first SegmentACK only segment 0, then as many as the actual window after the last one taken.
use Rattle.std.specs.Prelude.{ℕ, nat_le, nat_lt, Bool, false, not, ◌==◌, ◌&&◌, if◌then◌else◌, Option, Some, None}
use Rattle.bac_explain.specs.declared.grant.Grant.{Grant}
use Rattle.bac_explain.specs.declared.grant.Grant.TheVariants.{First, Unknown, Window}
use Rattle.bac_explain.specs.declared.grant.Granted.{Granted}
use Rattle.bac_explain.specs.declared.numbers.TheConstants.{MOST_SENDS}
use Rattle.bac_explain.specs.declared.part.Taken.{Taken}
use Rattle.bac_explain.specs.Numbers.{ahead, following, is_ahead, is_behind, one_more}

-- if the first APDU that is seen is a later segment, the window before it is unknown
abbrev pub at_first : Option ℕ → Grant
at_first None = First
at_first (Some number) = if number == 0 then First else Unknown

-- after the window
abbrev pub is_past : Granted → ℕ → Bool
is_past g number = is_ahead g.number number && nat_lt g.window (ahead g.number number)

abbrev pub is_beyond_number : Grant → ℕ → Bool
is_beyond_number First number = not (number == 0)
is_beyond_number Unknown number = false
is_beyond_number (Window g) number = is_past g number

-- a segment with this number is beyond the window; never true for an unsegmented APDU
abbrev pub is_beyond : Grant → Option ℕ → Bool
is_beyond grant None = false
is_beyond grant (Some number) = is_beyond_number grant number

-- the first segment of the window was sent this often since
abbrev pub is_sent_out : Granted → ℕ → Bool
is_sent_out g number = following g.number number && nat_le MOST_SENDS g.sends

abbrev pub is_spent_number : Grant → ℕ → Bool
is_spent_number First number = false
is_spent_number Unknown number = false
is_spent_number (Window g) number = is_sent_out g number

abbrev pub is_spent : Grant → Option ℕ → Bool
is_spent grant None = false
is_spent grant (Some number) = is_spent_number grant number

-- ---- SegmentACKs

abbrev pub granted_by : Taken → Granted
granted_by taken = record { number = taken.number; window = taken.window; sends = 0 }

-- a SegmentACK that acknowledges less was sent before
abbrev pub moved_on : Taken → Granted → Granted
moved_on taken g = if is_behind g.number taken.number then g else granted_by taken

abbrev pub moved : Taken → Grant → Grant
moved taken First = Window (granted_by taken)
moved taken Unknown = Window (granted_by taken)
moved taken (Window g) = Window (moved_on taken g)

-- ---- segments

abbrev pub sent_on : ℕ → Granted → Granted
sent_on number g = if following g.number number then record g { sends = one_more g.sends } else g

abbrev pub sent_number : ℕ → Grant → Grant
sent_number number First = First
sent_number number Unknown = Unknown
sent_number number (Window g) = Window (sent_on number g)

abbrev pub sent : Option ℕ → Grant → Grant
sent None grant = grant
sent (Some number) grant = sent_number number grant

-- the first segment is repeated: an old copy, or its sender restarts, so that the window is unknown until the next SegmentACK
abbrev pub begun_again : Grant → Grant
begun_again First = First
begun_again Unknown = Unknown
begun_again (Window g) = Unknown

-- the request is repeated, so its server may restart the segments of its reply
abbrev pub asked_again : Grant → Grant
asked_again First = First
asked_again Unknown = Unknown
asked_again (Window g) = Window (record g { sends = 0 })
