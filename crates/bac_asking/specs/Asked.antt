-- What a client asks: the one question of some words, or those of lines.
use Rattle.std.specs.Prelude.{ℕ, Bool, true, false, List, map, Option, Some}
use Rattle.std.specs.Io.KnownBytes.{Keeps}
use Rattle.bac_npdu.specs.Peers.{PeerView}
use Rattle.bac_driver.specs.Nodes.{Octets}
use Rattle.bac_text.specs.declared.status.Status.{Status}
use Rattle.bac_driver.specs.Runs.{Timed}
use Rattle.bac_driver.specs.Views.{question_view}
use Rattle.bac_commands.specs.Statuses.{ByStatus}
use Rattle.bac_environment.specs.QuestionLines.{have_names, line_view}
use Rattle.bac_asking.specs.AskedLines.{AreRead}
use Rattle.bac_environment.specs.Files.{OfFile}
use Rattle.bac_asking.specs.InFlight.{AsksLines}
use Rattle.bac_asking.specs.AskedOne.{AsksOnce}
use Rattle.bac_asking.specs.Online.{ByClient, IsOneHost}
use Rattle.bac_environment.specs.Sockets.{Clocks, Links}
use Rattle.bac_asking.specs.Rounds.{Doing}
use Rattle.bac_text.specs.declared.status.Status.TheVariants as status
use Rattle.bac_asking.specs.declared.asking.Asking.{Asking}
use Rattle.bac_asking.specs.declared.asking_lines.Unasked.{Unasked}
use Rattle.bac_asking.specs.declared.asking_lines.Unasked.TheVariants as unasked
use Rattle.bac_environment.specs.declared.question_lines.LineQuestion.{LineQuestion}
use Rattle.bac_asking.specs.declared.rounds.Asked.{Asked}
use Rattle.bac_asking.specs.declared.rounds.Asked.TheVariants as asked

-- it was asked once
abbrev pub AsksAll : Links → Asking → Asked → Doing
AsksAll IsOn asking (asked.One q) = AsksOnce IsOn asking (question_view q)
AsksAll IsOn asking (asked.Lines lines) = AsksLines IsOn asking lines.items

-- that was done; whether all succeeded is printed by the status
abbrev pub ReportsDoing : Status → Doing → (before after : Timed) → (old new : Option (List ℕ)) → Type 0
ReportsDoing s Does before after old new = ByStatus s (Does true before after old new) (Does false before after old new) ⊥

abbrev pub ReportsClient : Links → Clocks → Status → Asking → Asked → (old new : Option (List ℕ)) → Type 0
ReportsClient IsOn IsClock s asking asked old new =
    ByStatus s (ByClient IsOn IsClock asking (AsksAll IsOn asking asked) true old new) (ByClient IsOn IsClock asking (AsksAll IsOn asking asked) false old new) ⊥

-- these lines are asked from that address of this machine, and told by their names where one has a name
abbrev pub for_lines : (host : Octets) → List LineQuestion → Asking → Asking
for_lines host lines asking = record asking { host = host; has_names = have_names lines }

abbrev pub AsksFromHost : Links → Clocks → Asking → List LineQuestion → (all : Bool) → (old new : Option (List ℕ)) → Type 0
AsksFromHost IsOn IsClock asking lines all old new = ByClient IsOn IsClock asking (AsksLines IsOn asking lines) all old new

-- the lines that were read were asked, from one address of this machine
pub record AsksRead (IsOn : Links) (IsClock : Clocks) (asking : Asking) (default : Option PeerView) (all : Bool) (old new : Option (List ℕ))
    (content : Option (List ℕ)) : Type 0 where
  pub lines : List LineQuestion
  pub read : AreRead default (Some (map line_view lines)) content
  pub host : Octets
  pub named : IsOneHost host
  pub asks : AsksFromHost IsOn IsClock (for_lines host lines asking) lines all old new

-- the status that says why nothing is asked
abbrev pub status_of : Unasked → Status
status_of (unasked.Unread s) = s
status_of unasked.BadLine = status.CommandLine

-- where a line is bad, the file cannot be read, or two lines are to be asked from different addresses, nothing was asked or printed
abbrev pub AreAskedFrom : (IsFile : (path : List ℕ) → (content : Option (List ℕ)) → Type 0) → Links → Clocks → Status → Asking
    → (default : Option PeerView) → (path : List ℕ) → (old new : Option (List ℕ)) → Type 0
AreAskedFrom IsFile IsOn IsClock s asking default path old new =
    ByStatus s (OfFile IsFile path (AsksRead IsOn IsClock asking default true old new))
    (OfFile IsFile path (AsksRead IsOn IsClock asking default false old new))
    (Keeps old new)
