-- What `simulate` prints of the script in a file, and its status.
use Rattle.std.specs.Prelude.{ℕ, Bool, List, Option, None, Some}
use Rattle.bac_reading.specs.Files.{IsPrintedFile}
use Rattle.bac_simulate.specs.Drawn.{ShowsAs}
use Rattle.bac_simulate.specs.Runs.{SimulatesAs}
use Rattle.bac_simulate.specs.declared.view.View.{View}
use Rattle.bac_text.specs.declared.status.Status.{Status}

-- the events of the script happened, all of them or up to the first that could not; each was printed, or the run was shown so
abbrev pub IsRun : Option View → (notes : Bool) → (content old new : Option (List ℕ)) → Status → Type 0
IsRun None notes content old new s = SimulatesAs notes content old new s
IsRun (Some view) notes content old new s = ShowsAs view notes content old new s

abbrev pub IsRunFile : (IsAt : (path : List ℕ) → (content : Option (List ℕ)) → Type 0) → Option View → (notes : Bool) → (path : List ℕ) → Status
    → (old new : Option (List ℕ)) → Type 0
IsRunFile IsAt view notes path s old new = IsPrintedFile IsAt path s (λ content. IsRun view notes content old new s)
