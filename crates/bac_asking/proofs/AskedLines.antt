-- Lines that are asked one after the other.
use Rattle.std.proofs.Common.{◌≡◌, ℕ, ◌&&◌, Bool, true, false, List, [], ◌∷◌, Option, Some, map, refl, sym, ap, subst, ◌∙◌}
use Rattle.std.specs.Io.KnownBytes.{Keeps}
use Rattle.bac_npdu.specs.Peers.{PeerView}
use Rattle.bac_text.specs.Statuses.{IsStop}
use Rattle.bac_text.specs.declared.status.Status.{Status}
use Rattle.bac_text.specs.declared.status.Status.TheVariants as status
use Rattle.bac_commands.specs.Statuses.{ByStatus}
use Rattle.bac_driver.specs.Runs.{Timed}
use Rattle.bac_asking.specs.Asked.{AreAskedFrom, AsksFromHost, for_lines}
use Rattle.bac_environment.specs.QuestionLines.{line_view}
use Rattle.bac_asking.specs.AskedLines.{AreRead, AsksEach, AsksLine}
use Rattle.bac_asking.specs.Online.{IsOneHost}
use Rattle.bac_environment.specs.Files.{OfFile}
use Rattle.bac_environment.specs.Sockets.{Clocks, Links}
use Rattle.bac_asking.specs.declared.asking.Asking.{Asking}
use Rattle.bac_environment.specs.declared.question_lines.LineQuestion.{LineQuestion}
use Rattle.bac_asking.proofs.AskedOf.{Files}
use Rattle.bac_asking.proofs.InRounds.{and_true, both_and}
use Rattle.bac_environment.proofs.Statuses.{lifted}

-- what is asked from here on completes what all ask
pub one_more_asked : (IsOn : Links) (asking : Asking) (lines others : List LineQuestion) (line : LineQuestion) (so_far succeeded now rest : Bool) (before middle after : Timed)
    (old between new : Option (List ℕ)) (Whole : Bool → Timed → Option (List ℕ) → Type 0) → lines ≡ line ∷ others → now ≡ so_far && succeeded
    → AsksLine IsOn asking line succeeded before middle old between
    → ((all : Bool) (last : Timed) (end : Option (List ℕ)) → AsksEach IsOn asking lines all before last old end → Whole (so_far && all) last end)
    → AsksEach IsOn asking others rest middle after between new → Whole (now && rest) after new
one_more_asked IsOn asking lines others line so_far succeeded now rest before middle after old between new Whole is both asks whole more =
    subst (λ (b : Bool). Whole b after new) (both_and so_far succeeded rest ∙ ap (λ (b : Bool). b && rest) (sym both))
    (whole (succeeded && rest) after new
    (subst (λ (l : List LineQuestion). AsksEach IsOn asking l (succeeded && rest) before after old new) (sym is)
    (record { succeeded = succeeded; rest = rest; middle = middle; between = between; first = asks; others = more; is = refl })))

-- the lines that were read of a file were asked
pub asked_from : (IsFile : Files) (IsOn : Links) (IsClock : Clocks) (s : Status) (asking sent : Asking) (default : Option PeerView) (path : List ℕ)
    (lines asked : List LineQuestion) (old new : Option (List ℕ)) → OfFile IsFile path (AreRead default (Some (map line_view lines))) → asked ≡ lines
    → sent ≡ for_lines sent.host lines asking → IsOneHost sent.host
    → ByStatus s (AsksFromHost IsOn IsClock sent asked true old new) (AsksFromHost IsOn IsClock sent asked false old new) ⊥
    → AreAskedFrom IsFile IsOn IsClock s asking default path old new
asked_from IsFile IsOn IsClock s asking sent default path lines asked old new file same from named reports =
    lifted s (λ a. record { content = file.content; at = file.at; says = record { lines = lines; read = file.says; host = sent.host; named = named; asks = put a } })
    (λ a. record { content = file.content; at = file.at; says = record { lines = lines; read = file.says; host = sent.host; named = named; asks = put a } })
    (λ (no : ⊥). absurd no) reports where
      put : {all : Bool} → AsksFromHost IsOn IsClock sent asked all old new → AsksFromHost IsOn IsClock (for_lines sent.host lines asking) lines all old new
      put {all} a =
          subst (λ (l : List LineQuestion). AsksFromHost IsOn IsClock (for_lines sent.host lines asking) l all old new) same
          (subst (λ (s : Asking). AsksFromHost IsOn IsClock s asked all old new) from a)

-- nothing was asked or printed
pub none_asked : (IsFile : Files) (IsOn : Links) (IsClock : Clocks) (s : Status) (asking : Asking) (default : Option PeerView) (path : List ℕ)
    (old new : Option (List ℕ)) → IsStop s → Keeps old new → AreAskedFrom IsFile IsOn IsClock s asking default path old new
none_asked IsFile IsOn IsClock status.Done asking default path old new stop keeps = absurd stop
none_asked IsFile IsOn IsClock status.Faulty asking default path old new stop keeps = absurd stop
none_asked IsFile IsOn IsClock status.CommandLine asking default path old new stop keeps = keeps
none_asked IsFile IsOn IsClock status.Output asking default path old new stop keeps = tt
none_asked IsFile IsOn IsClock status.Memory asking default path old new stop keeps = tt

-- where no line is left, all were asked
pub all_asked : (IsOn : Links) (asking : Asking) (lines : List LineQuestion) (so_far : Bool) (last : Timed) (end : Option (List ℕ))
    (Whole : Bool → Timed → Option (List ℕ) → Type 0) → lines ≡ []
    → ((all : Bool) (t : Timed) (o : Option (List ℕ)) → AsksEach IsOn asking lines all last t end o → Whole (so_far && all) t o) → Whole so_far last end
all_asked IsOn asking lines so_far last end Whole none whole =
    subst (λ (b : Bool). Whole b last end) (and_true so_far)
    (whole true last end (subst (λ (l : List LineQuestion). AsksEach IsOn asking l true last last end end) (sym none) (refl, (refl, refl))))
