-- What `serve --keep` prints, and what a power cut leaves afterwards.
use Rattle.std.specs.Prelude.{◌≡◌, ◌⊎◌, ℕ, Bool, true, List, Option}
use Rattle.std.specs.Io.KnownBytes.{Appends}
use Rattle.bac_store.specs.Stores.{Store}
use Rattle.bac_text.specs.declared.status.Status.{Status}
use Rattle.bac_driver.specs.Observed.{Observed, observed}
use Rattle.bac_driver.specs.Rounds.{BreaksOff, IsKept, ServesRounds}
use Rattle.bac_driver.specs.Runs.{Timed}
use Rattle.bac_driver.specs.Seen.{Watcher}
use Rattle.bac_driver.specs.declared.wait_limit.WaitLimit.{WaitLimit}
use Rattle.bac_server.specs.declared.log_settings.LogSettings.{LogSettings}
use Rattle.bac_server.specs.Logs.{Log, Logs, NONE_AWAY}
use Rattle.bac_commands.specs.Reports.{served_line}
use Rattle.bac_commands.specs.Statuses.{ByStatus}

-- a node took so many rounds, or as many as it had time for, and how many requests it performed was printed
pub record KeptText {S : Type 0} (Sees : Watcher S) (p : WaitLimit) (rounds : ℕ) (before after : Observed S) (old new : Option (List ℕ)) : Type 0 where
  pub effects : ℕ
  pub serves : ServesRounds Sees p rounds effects before after
  pub printed : Appends old new (served_line effects)

-- nothing of that is left out but what was seen
abbrev pub Unseen : Watcher (Unit {0})
Unseen s old new = Unit {0}

abbrev pub unwatched : Timed → Observed (Unit {0})
unwatched t = observed t tt

pub record RoundsText (p : WaitLimit) (rounds : ℕ) (before after : Timed) (old new : Option (List ℕ)) : Type 0 where
  pub effects : ℕ
  pub serves : ServesRounds Unseen p rounds effects (unwatched before) (unwatched after)
  pub printed : Appends old new (served_line effects)

abbrev pub ReportsKept : {S : Type 0} → Status → Watcher S → WaitLimit → (rounds : ℕ) → (before after : Observed S) → (old new : Option (List ℕ)) → Type 0
ReportsKept s Sees p rounds before after old new = ByStatus s (KeptText Sees p rounds before after old new) ⊥ ⊥

-- an honest keeper keeps the store that the node has
pub record AllIsKept {K : Type 0} (IsHonest IsOpen : K → Type 0) (kept noted : K → Store) (keeper : K) (s : Store) : Type 0 where
  pub is_kept : IsHonest keeper → IsKept IsOpen kept noted keeper s

-- all rounds were taken, or as many as there was time for, and that is so afterwards
pub record AllRoundsAreKept {S K : Type 0} (Sees : Watcher S) (p : WaitLimit) (rounds : ℕ) (IsHonest IsOpen : K → Type 0) (kept noted : K → Store) (keeper : K)
    (before after : Observed S) : Type 0 where
  pub effects : ℕ
  pub serves : ServesRounds Sees p rounds effects before after
  pub all : AllIsKept IsHonest IsOpen kept noted keeper after.timed.bound_node.node.store

-- that is so, or a round stopped
abbrev pub EndsKept : {S K : Type 0} → Watcher S → WaitLimit → (rounds : ℕ) → (IsHonest IsOpen : K → Type 0) → (kept noted : K → Store)
    → (may_find : K → Store → Type 0) → (keeper : K) → (before after : Observed S) → Type 0
EndsKept Sees p rounds IsHonest IsOpen kept noted may_find keeper before after =
    AllRoundsAreKept Sees p rounds IsHonest IsOpen kept noted keeper before after ⊎ BreaksOff Sees p rounds IsHonest may_find keeper before after

-- that is so where all went well
abbrev pub IsKeptByStatus : {K : Type 0} → Status → (IsHonest IsOpen : K → Type 0) → (kept noted : K → Store) → K → Store → Type 0
IsKeptByStatus s IsHonest IsOpen kept noted keeper store = ByStatus s (AllIsKept IsHonest IsOpen kept noted keeper store) ⊥ ⊥

-- a log that is whole so far
abbrev pub whole_log : LogSettings → (text : Option (List ℕ)) → Log
whole_log settings text = record { settings = settings; whole = true; tally = NONE_AWAY; text = text }

-- the same, with a log that is so afterwards
pub record LogsKept {K : Type 0} (s : Status) (p : WaitLimit) (rounds : ℕ) (IsHonest IsOpen : K → Type 0) (kept noted : K → Store)
    (may_find : K → Store → Type 0) (keeper : K) (before after : Timed) (first last : Log) (old new : Option (List ℕ)) : Type 0 where
  pub printed : ReportsKept s Logs p rounds (observed before first) (observed after last) old new
  pub all : IsKeptByStatus s IsHonest IsOpen kept noted keeper after.bound_node.node.store
  pub ends : EndsKept Unseen p rounds IsHonest IsOpen kept noted may_find keeper (unwatched before) (unwatched after)

-- whatever its settings are then, and how many were turned away, which no one reads
pub record IsLogged {K : Type 0} (s : Status) (whole : Bool) (settings : LogSettings) (p : WaitLimit) (rounds : ℕ) (IsHonest IsOpen : K → Type 0)
    (kept noted : K → Store) (may_find : K → Store → Type 0) (keeper : K) (before after : Timed) (from to old new : Option (List ℕ)) : Type 0 where
  pub last : Log
  pub whole_is : last.whole ≡ whole
  pub text : last.text ≡ to
  pub served : LogsKept s p rounds IsHonest IsOpen kept noted may_find keeper before after (whole_log settings from) last old new
