-- Where the laws end: computed runs in which an ask is not answered although nothing is lost from some moment on, its ticket is open and in time, and
-- its server could answer.
use Rattle.std.specs.Prelude.{◌≡◌, ℕ, true, false, List, [], ◌∷◌, ◌++◌, length}
use Rattle.bac_protocol.specs.Service.{Reply, Octets}
use Rattle.bac_protocol.specs.Service.Ending.{Answered, Aborted, TimedOut}
use Rattle.bac_protocol.specs.Log.{Fact}
use Rattle.bac_protocol.specs.Log.Fact.{Ended}
use Rattle.bac_protocol.specs.World.{Event}
use Rattle.bac_protocol.specs.World.Event.{Deliver, Tick}
use Rattle.bac_protocol.specs.Examples.{elapse, key, tick, ask_append, append, position}
use Rattle.bac_liveness.specs.Examples.{world, ask_two, long, was_asked, was_performed}

abbrev pub log_after : Reply → List Event → List Fact
log_after p events = (world p events).net.log

-- how many copies were sent
abbrev pub sent_after : Reply → List Event → ℕ
sent_after p events = length (world p events).net.posts

abbrev pub two : Octets
two = 0 ∷ 1 ∷ []

-- The retries of a window are used up. The request of two segments was performed; its last SegmentACK, its answer and three repeats of the last segment
-- were lost. Nothing is sent at the next timer, which ends the ticket: a request in segments that waits for a SegmentACK has no repeats of its own.
abbrev pub window_used_up : List Event
window_used_up =
    ask_two ∷ Deliver 0 true ∷ Deliver 1 true ∷ Deliver 2 true ∷ elapse 2000 ∷ tick ∷ elapse 2000 ∷ tick ∷ elapse 2000 ∷ tick ∷ []

pub record WindowUsedUp : Type 0 where
  pub before : log_after position window_used_up ≡ was_performed two position ∷ was_asked two ∷ []
  pub after : log_after position (window_used_up ++ elapse 2000 ∷ tick ∷ []) ≡ Ended 0 TimedOut ∷ was_performed two position ∷ was_asked two ∷ []
  pub silent : sent_after position (window_used_up ++ elapse 2000 ∷ tick ∷ []) ≡ sent_after position window_used_up

-- The retries of a reply are used up while its client collects it: segment 0 of the reply was taken, its SegmentACK and three repeats of the segment were
-- lost. The server's timer stops the transfer and the client's ends the ticket, since its request went in segments: nothing more is sent.
abbrev pub reply_used_up : List Event
reply_used_up = ask_two ∷ Deliver 0 true ∷ Deliver 1 true ∷ Deliver 2 true ∷ Deliver 4 true ∷ elapse 2000 ∷ tick ∷ elapse 2000 ∷ tick
    ∷ elapse 2000 ∷ tick ∷ []

pub record ReplyUsedUp : Type 0 where
  pub before : log_after long reply_used_up ≡ was_performed two long ∷ was_asked two ∷ []
  pub after : log_after long (reply_used_up ++ elapse 2000 ∷ tick ∷ []) ≡ Ended 0 TimedOut ∷ was_performed two long ∷ was_asked two ∷ []
  pub silent : sent_after long (reply_used_up ++ elapse 2000 ∷ tick ∷ []) ≡ sent_after long reply_used_up

-- A reassembly is too old: segment 0 was taken, its SegmentACK was lost, and the client's tick is late, at 8,000. The segment that it sends again finds
-- that T_WAIT_FOR_SEG has passed, and the server aborts.
pub record TooOld : Type 0 where
  pub ends : log_after position (ask_two ∷ Deliver 0 true ∷ elapse 8000 ∷ Tick (key ∷ []) [] ∷ Deliver 2 true ∷ Deliver 3 true ∷ [])
      ≡ Ended 0 (Aborted 0) ∷ was_asked two ∷ []

-- PATIENCE is sharp: the answer to the fourth sending arrives at 12,000. After a tick of that moment it is too late; a millisecond before it is not.
abbrev pub fourth_sending : List Event
fourth_sending = ask_append ∷ elapse 3000 ∷ tick ∷ elapse 3000 ∷ tick ∷ elapse 3000 ∷ tick ∷ Deliver 3 true ∷ []

pub record OutOfPatience : Type 0 where
  pub in_time : log_after position (fourth_sending ++ elapse 2999 ∷ tick ∷ Deliver 4 true ∷ [])
      ≡ Ended 0 (Answered position) ∷ was_performed append position ∷ was_asked append ∷ []
  pub late : log_after position (fourth_sending ++ elapse 3000 ∷ tick ∷ Deliver 4 true ∷ [])
      ≡ Ended 0 TimedOut ∷ was_performed append position ∷ was_asked append ∷ []

-- A repeat is wasted. The reply's segments at 1,500, 3,500, 5,500 and 7,500 are lost, and two repeats of the request. The client's last repeat, at 9,000,
-- arrives while the transfer still runs, and does nothing; at 9,500 the transfer stops, and at 12,000 the client ends the ask.
abbrev pub before_last_repeat : List Event
before_last_repeat = ask_append ∷ elapse 1500 ∷ Deliver 0 true ∷ elapse 1500 ∷ tick ∷ elapse 500 ∷ tick ∷ elapse 2000 ∷ tick ∷ elapse 500 ∷ tick
    ∷ elapse 1500 ∷ tick ∷ []

abbrev pub last_repeat : List Event
last_repeat = elapse 1500 ∷ tick ∷ Deliver 7 true ∷ elapse 500 ∷ tick ∷ elapse 2500 ∷ tick ∷ []

pub record RepeatWasted : Type 0 where
  pub before : log_after long before_last_repeat ≡ was_performed append long ∷ was_asked append ∷ []
  pub sent : sent_after long before_last_repeat ≡ 7
  pub after : log_after long (before_last_repeat ++ last_repeat) ≡ Ended 0 TimedOut ∷ was_performed append long ∷ was_asked append ∷ []
  pub silent : sent_after long (before_last_repeat ++ last_repeat) ≡ 8

-- An old Abort overtakes the answer: the first copy found no free slot; a repeat was performed; the Abort arrives before the answer does.
pub record OldAbort : Type 0 where
  pub ends : log_after position (ask_append ∷ Deliver 0 false ∷ elapse 3000 ∷ tick ∷ Deliver 2 true ∷ Deliver 1 true ∷ Deliver 3 true ∷ [])
      ≡ Ended 0 (Aborted 0) ∷ was_performed append position ∷ was_asked append ∷ []
