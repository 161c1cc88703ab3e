-- How long a node is waited for, as people write it: `500ms`, `2s`, `1m`, `2` or `0.5`.
use Rattle.std.specs.Prelude.{◌⊎◌, ◌<◌, ◌≤◌, ℕ, List}
use Rattle.bac_environment.specs.Times.{IsNoTime, IsTime}
use Rattle.bac_asking.specs.Seconds.{AreSeconds}

-- a text is so many milliseconds: a number with its unit, or alone one of seconds; any other text is one of seconds with a point
pub record IsWait (text : List ℕ) (milliseconds : ℕ) : Type 0 where
  pub by : IsTime 1000 text milliseconds ⊎ (IsNoTime 1000 text × AreSeconds text milliseconds)

abbrev pub IsNoWait : (text : List ℕ) → Type 0
IsNoWait text = (milliseconds : ℕ) → IsWait text milliseconds → ⊥

-- such a text is that time, from one millisecond to a minute
pub record IsTimeout (text : List ℕ) (milliseconds : ℕ) : Type 0 where
  pub is : IsWait text milliseconds
  pub some : 0 < milliseconds
  pub within : milliseconds ≤ 60000

abbrev pub IsNoTimeout : (text : List ℕ) → Type 0
IsNoTimeout text = (milliseconds : ℕ) → IsTimeout text milliseconds → ⊥
