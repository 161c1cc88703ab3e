-- When a tick finds something to do for an entry: when its timer is due, and when it is not live any more.
use Rattle.std.specs.Prelude.{ℕ, ◌+◌, ◌<◌, ◌≤◌, ◌⊎◌, ◌&&◌, if◌then◌else◌, min}
use Rattle.bac_protocol.specs.declared.times.TheConstants.{T_SEG, T_WAIT_FOR_SEG, KEEP}
use Rattle.bac_protocol.specs.Server.{ServerTransaction, State, Transfer, is_live}

-- the last moment that a clock of 64 bits can tell
abbrev pub LAST_MOMENT : ℕ
LAST_MOMENT = 18446744073709551615

-- the first moment at which the timer of a state is due (clause 5.4.5), or the last one of all
abbrev pub state_due : State → ℕ
state_due (State.SegmentedRequest inc since) = min (since + T_WAIT_FOR_SEG) LAST_MOMENT
state_due (State.Done kept) = LAST_MOMENT
state_due (State.SegmentedResponse out Transfer.Running since) = min (since + T_SEG) LAST_MOMENT
state_due (State.SegmentedResponse out Transfer.Stopped since) = LAST_MOMENT
state_due (State.SegmentedResponse out Transfer.Finished since) = LAST_MOMENT
state_due State.Dropped = LAST_MOMENT

-- the same of an entry, looked at from a moment on; one that is not live then, or not when its timer is due, is never due
abbrev pub due_of : (from : ℕ) → ServerTransaction → ℕ
due_of from e = if is_live from e && is_live (state_due e.state) e then state_due e.state else LAST_MOMENT

-- the first moment at which an entry is not live any more, or the last one of all
abbrev pub life_end : ServerTransaction → ℕ
life_end e = min (e.begin + KEEP + 1) LAST_MOMENT

-- the timer of a state, if it has one, is not due before that moment
abbrev pub IsStateQuiet : (due : ℕ) → State → Type 0
IsStateQuiet due (State.SegmentedRequest inc since) = due ≤ since + T_WAIT_FOR_SEG
IsStateQuiet due (State.Done kept) = Unit {0}
IsStateQuiet due (State.SegmentedResponse out Transfer.Running since) = due ≤ since + T_SEG
IsStateQuiet due (State.SegmentedResponse out Transfer.Stopped since) = Unit {0}
IsStateQuiet due (State.SegmentedResponse out Transfer.Finished since) = Unit {0}
IsStateQuiet due State.Dropped = Unit {0}

-- in a tick from the one moment on and before the other the machine finds nothing to do: the entry is not live any more, or will not be when its timer is due, or its
-- timer is not due
abbrev pub IsQuiet : (from due : ℕ) → ServerTransaction → Type 0
IsQuiet from due e = (e.begin + KEEP < from) ⊎ ((e.begin + KEEP < state_due e.state) ⊎ IsStateQuiet due e.state)
