-- Times as people write them.
use Rattle.std.specs.Prelude.{◌≡◌, ℕ, ◌^◌, ◌*◌, ◌<◌, List, [], ◌++◌, codes}
use Rattle.bac_environment.specs.Addresses.{IsNumber}

-- what stands behind the number of a time; a number alone is one of a unit that is given
pub data TimeUnit : Type 0 where
  Own : TimeUnit
  Milliseconds : TimeUnit
  Seconds : TimeUnit
  Minutes : TimeUnit

abbrev pub unit_text : TimeUnit → List ℕ
unit_text Own = []
unit_text Milliseconds = codes "ms"
unit_text Seconds = codes "s"
unit_text Minutes = codes "m"

-- how many milliseconds it has
abbrev pub unit_length : (own : ℕ) → TimeUnit → ℕ
unit_length own Own = own
unit_length own Milliseconds = 1
unit_length own Seconds = 1000
unit_length own Minutes = 60000

-- a text as `300ms`, `2s`, `1m` or `5` is that time, fewer than 2^64 milliseconds
pub record IsTime (own : ℕ) (text : List ℕ) (milliseconds : ℕ) : Type 0 where
  pub front : List ℕ
  pub unit : TimeUnit
  pub text_is : text ≡ front ++ unit_text unit
  pub count : ℕ
  pub number : IsNumber 64 front count
  pub is : milliseconds ≡ count * unit_length own unit
  pub fits : milliseconds < 2 ^ 64

abbrev pub IsNoTime : (own : ℕ) → (text : List ℕ) → Type 0
IsNoTime own text = (milliseconds : ℕ) → IsTime own text milliseconds → ⊥

-- a text is cut before its unit: no other front of it is a number with a unit behind it
pub record IsCutAtUnit (own : ℕ) (text front : List ℕ) (each : ℕ) : Type 0 where
  pub unit : TimeUnit
  pub text_is : text ≡ front ++ unit_text unit
  pub each_is : each ≡ unit_length own unit
  pub only : (other : List ℕ) (u : TimeUnit) (count : ℕ) → text ≡ other ++ unit_text u → IsNumber 64 other count → (other ≡ front) × (unit_length own u ≡ each)
