-- How long a node is waited for, read of a text.
use Rattle.std.proofs.Common.{◌≡◌, ℕ, ◌<◌, ◌≤◌, List, Option, Some, None, ◌⊎◌, inl, inr, subst}
use Rattle.std.specs.Prelude.{MatchOption}
use Rattle.bac_environment.proofs.TimeUnits.{same_time}
use Rattle.bac_environment.specs.Times.{IsNoTime, IsTime}
use Rattle.bac_asking.proofs.Decimals.{one_time}
use Rattle.bac_asking.specs.Seconds.{AreNoSeconds, AreSeconds}
use Rattle.bac_asking.specs.Timeouts.{IsNoTimeout, IsNoWait, IsTimeout, IsWait}

pub with_unit : (text : List ℕ) (milliseconds : ℕ) → IsTime 1000 text milliseconds → IsWait text milliseconds
with_unit text milliseconds is = record { by = inl is }

pub without_unit : (text : List ℕ) (r : Option ℕ) → IsNoTime 1000 text → MatchOption r (AreNoSeconds text) (AreSeconds text)
    → MatchOption r (IsNoWait text) (IsWait text)
without_unit text None none told = λ milliseconds wait. no_wait milliseconds wait.by
  where
    no_wait : (m : ℕ) → IsTime 1000 text m ⊎ (IsNoTime 1000 text × AreSeconds text m) → ⊥
    no_wait m (inl time) = none m time
    no_wait m (inr seconds) = told m seconds.1
without_unit text (Some milliseconds) none told = record { by = inr (none, told) }

one_by : (text : List ℕ) (a b : ℕ) → IsTime 1000 text a ⊎ (IsNoTime 1000 text × AreSeconds text a)
    → IsTime 1000 text b ⊎ (IsNoTime 1000 text × AreSeconds text b) → a ≡ b
one_by text a b (inl one) (inl other) = same_time 1000 text a b one other
one_by text a b (inl one) (inr other) = absurd (other.0 a one)
one_by text a b (inr one) (inl other) = absurd (one.0 b other)
one_by text a b (inr one) (inr other) = one_time text a b one.1.are other.1.are

-- a text is one time
one_wait : (text : List ℕ) (a b : ℕ) → IsWait text a → IsWait text b → a ≡ b
one_wait text a b one other = one_by text a b one.by other.by

pub timeout_told : (text : List ℕ) (given : ℕ) → IsWait text given → 0 < given → given ≤ 60000 → IsTimeout text given
timeout_told text given is some within = record { is = is; some = some; within = within }

pub timeout_refused : (text : List ℕ) (given : ℕ) → IsWait text given → (0 < given → given ≤ 60000 → ⊥) → IsNoTimeout text
timeout_refused text given is refused = λ m other.
    let same : m ≡ given = one_wait text m given other.is is in
    refused (subst (λ (n : ℕ). 0 < n) same other.some) (subst (λ (n : ℕ). n ≤ 60000) same other.within)

pub no_timeout : (text : List ℕ) → IsNoWait text → IsNoTimeout text
no_timeout text none = λ m other. none m other.is
