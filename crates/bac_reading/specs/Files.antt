-- What a command prints of a file.
use Rattle.std.specs.Prelude.{ℕ, List, Option, ⊤}
use Rattle.bac_text.specs.declared.status.Status.{Status}
use Rattle.bac_commands.specs.Statuses.{ByStatus}
use Rattle.bac_environment.specs.Files.{OfFile}

-- of a file at the path, this is so where the command ended with 0 or 1
abbrev pub IsPrintedFile : (IsAt : (path : List ℕ) → (content : Option (List ℕ)) → Type 0) → (path : List ℕ) → Status → (Says : Option (List ℕ) → Type 0) → Type 0
IsPrintedFile IsAt path s Says = ByStatus s (OfFile IsAt path Says) (OfFile IsAt path Says) ⊤
