-- The log of a server.
use Rattle.std.specs.Prelude.{◌≡◌, ℕ, Bool, true, List, Option, Some, None, if◌then◌else◌}
use Rattle.bac_text.specs.Texts.{AppendsText}
use Rattle.bac_text.specs.declared.status.Status.{Status}
use Rattle.bac_driver.specs.Runs.{Timed}
use Rattle.bac_driver.specs.Seen.{Seen}
use Rattle.bac_driver.specs.declared.wait_limit.WaitLimit.{WaitLimit}
use Rattle.bac_server.specs.Lines.{AreLogLines, counts_away, is_said, is_turned_away}
use Rattle.bac_commands.specs.Reports.{ServingIsWatched}
use Rattle.bac_server.specs.declared.log.Tally.{Tally}
use Rattle.bac_server.specs.declared.log_settings.LogSettings.{LogSettings}

-- no request was turned away so far
abbrev pub NONE_AWAY : Tally
NONE_AWAY = record { away = 0; said = None }

-- how many were turned away since the last line of them, with what a turn did
abbrev pub counted : LogSettings → Seen → Tally → ℕ
counted settings s t = counts_away (is_turned_away settings s.turn s.node.servers) t.away

-- so many, and once that is said, if it is
abbrev pub told_at : (at away : ℕ) → Tally → Tally
told_at at away t = if is_said at away t.said then record { away = 0; said = Some at } else record { away = away; said = t.said }

-- how it is written, whether each line was, how many were turned away, and what the output has
pub record Log : Type 0 where
  pub settings : LogSettings
  pub whole : Bool
  pub tally : Tally
  pub text : Option (List ℕ)

-- what the output has, and how many were turned away
pub record Written : Type 0 where
  pub tally : Tally
  pub text : Option (List ℕ)

abbrev pub written_in : Log → Written
written_in l = record { tally = l.tally; text = l.text }

-- the lines of a turn were written
pub record Prints (settings : LogSettings) (s : Seen) (old new : Written) : Type 0 where
  pub tally : new.tally ≡ told_at s.turn.at (counted settings s old.tally) old.tally
  pub tells : AppendsText old.text new.text (AreLogLines settings s (counted settings s old.tally) old.tally.said)

-- while the log is whole
pub record IsWritten (s : Seen) (old new : Log) : Type 0 where
  pub before : old.whole ≡ true
  pub prints : Prints old.settings s (written_in old) (written_in new)

pub record Logs (s : Seen) (old new : Log) : Type 0 where
  pub same : new.settings ≡ old.settings
  pub written : new.whole ≡ true → IsWritten s old new

-- a node served, and the lines of each turn were written: from a text to another one
pub record ServingIsLogged (s : Status) (settings : LogSettings) (p : WaitLimit) (turns : ℕ) (before after : Timed) (from to : Option (List ℕ)) : Type 0 where
  pub last : Written
  pub text : last.text ≡ to
  pub watched : ServingIsWatched s (Prints settings) p turns before after (record { tally = NONE_AWAY; text = from }) last
