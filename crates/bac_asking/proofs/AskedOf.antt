-- What was asked with the octets of a file in the place of the last word.
use Rattle.std.proofs.Common.{◌≡◌, ℕ, Bool, List, [], ◌∷◌, ◌++◌, Option, Some, None, sym, ap, subst, ◌∙◌}
use Rattle.std.specs.Io.KnownBytes.{Keeps}
use Rattle.bac_npdu.specs.Peers.{PeerView}
use Rattle.bac_text.specs.Statuses.{IsStop}
use Rattle.bac_text.specs.declared.status.Status.{Status}
use Rattle.bac_text.specs.declared.status.Status.TheVariants as status
use Rattle.bac_environment.specs.Files.{OfFile}
use Rattle.bac_asking.specs.FileWords.{AreDigitsOf, IsBefore, file_of, with_octets}
use Rattle.bac_asking.specs.AskedOne.{Asks, IsAsked, IsAskedFrom, IsAskedOf}
use Rattle.bac_environment.specs.Sockets.{Clocks, Links}
use Rattle.bac_asking.specs.declared.asking.Asking.{Asking}
use Rattle.bac_environment.proofs.Statuses.{lifted}

abbrev pub Files : Type 1
Files = (path : List ℕ) → (content : Option (List ℕ)) → Type 0

pub of_no_file : (IsFile : Files) (IsOn : Links) (IsClock : Clocks) (s : Status) (asking : Asking) (peer : PeerView) (words : List (List ℕ)) (old new : Option (List ℕ))
    → file_of words ≡ None → IsAsked IsOn IsClock s asking peer words old new → IsAskedFrom IsFile IsOn IsClock s asking peer words old new
of_no_file IsFile IsOn IsClock s asking peer words old new none asked =
    subst (λ (f : Option (List ℕ)). IsAskedOf IsFile f IsOn IsClock s asking peer words old new) (sym none) asked

stopped : (IsFile : Files) (path : List ℕ) (IsOn : Links) (IsClock : Clocks) (s : Status) (asking : Asking) (peer : PeerView) (words : List (List ℕ))
    (old new : Option (List ℕ)) → IsStop s → Keeps old new → IsAskedOf IsFile (Some path) IsOn IsClock s asking peer words old new
stopped IsFile path IsOn IsClock status.Done asking peer words old new stop keeps = absurd stop
stopped IsFile path IsOn IsClock status.Faulty asking peer words old new stop keeps = absurd stop
stopped IsFile path IsOn IsClock status.CommandLine asking peer words old new stop keeps = keeps
stopped IsFile path IsOn IsClock status.Output asking peer words old new stop keeps = tt
stopped IsFile path IsOn IsClock status.Memory asking peer words old new stop keeps = tt

pub of_file_stopped : (IsFile : Files) (IsOn : Links) (IsClock : Clocks) (s : Status) (asking : Asking) (peer : PeerView) (words front : List (List ℕ)) (path : List ℕ)
    (old new : Option (List ℕ)) → IsBefore front path words → IsStop s → Keeps old new → IsAskedFrom IsFile IsOn IsClock s asking peer words old new
of_file_stopped IsFile IsOn IsClock s asking peer words front path old new before stop keeps =
    subst (λ (f : Option (List ℕ)). IsAskedOf IsFile f IsOn IsClock s asking peer words old new) (sym before.names)
    (stopped IsFile path IsOn IsClock s asking peer words old new stop keeps)

pub of_file : (IsFile : Files) (IsOn : Links) (IsClock : Clocks) (s : Status) (asking : Asking) (peer : PeerView) (words front meant : List (List ℕ)) (path digits : List ℕ)
    (old new : Option (List ℕ)) → IsBefore front path words → OfFile IsFile path (λ content. AreDigitsOf content digits)
    → meant ≡ front ++ digits ∷ [] → IsAsked IsOn IsClock s asking peer meant old new → IsAskedFrom IsFile IsOn IsClock s asking peer words old new
of_file IsFile IsOn IsClock s asking peer words front meant path digits old new before file is asked =
    subst (λ (f : Option (List ℕ)). IsAskedOf IsFile f IsOn IsClock s asking peer words old new) (sym before.names)
    (lifted s
    (λ asks. record { content = file.content; at = file.at; says = record { octets = file.says.octets; known = file.says.known; asks = put asks } })
    (λ asks. record { content = file.content; at = file.at; says = record { octets = file.says.octets; known = file.says.known; asks = put asks } })
    (λ refused. refused.keeps) asked) where
      same : meant ≡ with_octets file.says.octets words
      same = is ∙ ap (λ (d : List ℕ). front ++ d ∷ []) file.says.is ∙ sym (before.meant file.says.octets)

      put : {succeeded : Bool} → Asks IsOn IsClock asking peer succeeded meant old new
          → Asks IsOn IsClock asking peer succeeded (with_octets file.says.octets words) old new
      put {succeeded} asks = subst (λ (w : List (List ℕ)). Asks IsOn IsClock asking peer succeeded w old new) same asks
