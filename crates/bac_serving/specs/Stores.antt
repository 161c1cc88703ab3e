-- What `answer` and `serve` print, and their statuses, with the house store or one that a file means.
use Rattle.std.specs.Prelude.{⊤, ℕ, List, Option, Some, None, Ok}
use Rattle.std.specs.Io.KnownBytes.{Keeps}
use Rattle.bac_store.specs.House.{house}
use Rattle.bac_store.specs.Stores.{Store}
use Rattle.bac_objects.specs.Documents.{IsRead}
use Rattle.bac_text.specs.declared.status.Status.{Status}
use Rattle.bac_text.specs.declared.status.Status.TheVariants as status
use Rattle.bac_commands.specs.AnswerTexts.{IsAnswered, IsAnsweredBy}
use Rattle.bac_commands.specs.Statuses.{ByStatus}
use Rattle.bac_environment.specs.Files.{OfFile}
use Rattle.bac_environment.specs.Sockets.{Clocks, Links}
use Rattle.bac_serving.specs.Online.{IsServedBy, Serves}
use Rattle.bac_serving.specs.declared.serving.Serving.{Serving}

-- where the octets of a file are known, they mean the store
abbrev pub MeansStore : (content : Option (List ℕ)) → Store → Type 0
MeansStore None s = ⊤
MeansStore (Some text) s = IsRead text (Ok s)

-- a store that a file at the path means, of which this is so
pub record OfStore (IsAt : (path : List ℕ) → (content : Option (List ℕ)) → Type 0) (path : List ℕ) (Says : Store → Type 0) : Type 0 where
  pub store : Store
  pub means : OfFile IsAt path (λ content. MeansStore content store)
  pub says : Says store

-- with a file the command line is also refused where it cannot be read or means no store; then nothing is printed
abbrev pub IsAnsweredFrom : (IsAt : (path : List ℕ) → (content : Option (List ℕ)) → Type 0) → (objects : Option (List ℕ)) → (text : List ℕ) → Status
    → (old new : Option (List ℕ)) → Type 0
IsAnsweredFrom IsAt None text s old new = IsAnswered text old new s
IsAnsweredFrom IsAt (Some path) text s old new =
    ByStatus s (OfStore IsAt path (λ store. IsAnsweredBy store text old new status.Done)) ⊥ (Keeps old new)

abbrev pub IsServedFrom : (IsAt : (path : List ℕ) → (content : Option (List ℕ)) → Type 0) → (objects : Option (List ℕ)) → Links → Clocks → Status → Serving
    → (old new : Option (List ℕ)) → Type 0
IsServedFrom IsAt None IsOn IsClock s serving old new = IsServedBy house IsOn IsClock s serving old new
IsServedFrom IsAt (Some path) IsOn IsClock s serving old new =
    ByStatus s (OfStore IsAt path (λ store. Serves store IsOn IsClock serving old new)) ⊥ (Keeps old new)
