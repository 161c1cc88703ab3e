-- How long a turn waits for a datagram.
use Rattle.std.specs.Prelude.{◌≡◌, ℕ, ◌-◌, ◌^◌, min, Option, Some, None, IfSome, MatchOption}
use Rattle.bac_requester.specs.Timers.{LAST_MOMENT}
use Rattle.bac_node.specs.Waiting.{MovesAt, RestsUntil}
use Rattle.bac_world.specs.Node.{Node}
use Rattle.bac_driver.specs.declared.wait_limit.WaitLimit.{WaitLimit}

-- the first moment at which a tick of the node does anything, if there is one
pub record IsDue (n : Node) (due : Option ℕ) : Type 0 where
  pub rests : MatchOption due (RestsUntil LAST_MOMENT n) (λ moment. RestsUntil moment n)
  pub moves : IfSome due (λ moment. MovesAt moment n)

-- at most so many milliseconds, and not past that moment
abbrev pub wait_until : (most now : ℕ) → Option ℕ → ℕ
wait_until most now None = most
wait_until most now (Some moment) = min (moment - now) most

-- as long as the limit says, and no longer than until something is due
pub record IsWait (p : WaitLimit) (now : ℕ) (n : Node) (wait : ℕ) : Type 0 where
  pub due : Option ℕ
  pub is_due : IsDue n due
  pub is : wait ≡ wait_until (wait_until p.wait now p.until) now due

-- ---- what turns may wait

-- 100 ms
abbrev pub BRIEF : WaitLimit
BRIEF = record { wait = 100; until = None }

-- not at all
abbrev pub AT_ONCE : WaitLimit
AT_ONCE = record { wait = 0; until = None }

-- without end
abbrev pub MOST : ℕ
MOST = 2 ^ 64 - 1

abbrev pub UNTIL_DUE : WaitLimit
UNTIL_DUE = record { wait = MOST; until = None }
