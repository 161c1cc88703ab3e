-- What `serve --follow` and `serve --until-eof` print, and their statuses: a node served in stretches, between which it may change its own store.
use Rattle.std.specs.Prelude.{ℕ, List, Option}
use Rattle.std.specs.Io.KnownBytes.{Appends, Keeps}
use Rattle.bac_store.specs.Stores.{Store}
use Rattle.bac_text.specs.declared.status.Status.{Status}
use Rattle.bac_driver.specs.Runs.{Timed}
use Rattle.bac_driver.specs.Serving.{Serves}
use Rattle.bac_commands.specs.Reports.{served_line}
use Rattle.bac_commands.specs.Statuses.{ByStatus}
use Rattle.bac_environment.specs.Sockets.{Clocks, Links}
use Rattle.bac_serving.specs.Keeping.{OfDocument}
use Rattle.bac_serving.specs.Online.{IsServer}
use Rattle.bac_serving.specs.Stretches.{TakesStretches, stop_of}
use Rattle.bac_serving.specs.declared.serving.Serving.{Serving}

-- a node with the store of a document served in stretches, and how many requests it performed was printed
pub record ServesLooking (IsOn : Links) (IsClock : Clocks) (serving : Serving) (old new : Option (List ℕ)) (document : Store) : Type 0 where
  pub start : ℕ
  pub before : Timed
  pub after : Timed
  pub server : IsServer IsOn IsClock serving document start before
  pub effects : ℕ
  pub takes : TakesStretches Serves (stop_of serving start) effects before after
  pub printed : Appends old new (served_line effects)

-- where the command line is refused, nothing was printed
abbrev pub IsServedLooking : (IsFile : (path : List ℕ) → (content : Option (List ℕ)) → Type 0) → (objects : Option (List ℕ)) → Links → Clocks → Status → Serving
    → (old new : Option (List ℕ)) → Type 0
IsServedLooking IsFile objects IsOn IsClock s serving old new =
    ByStatus s (OfDocument IsFile objects (ServesLooking IsOn IsClock serving old new)) ⊥ (Keeps old new)
