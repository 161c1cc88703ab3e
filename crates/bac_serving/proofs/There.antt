-- A file that was opened is there.
use Rattle.std.specs.Prelude.{ℕ, List}
use Rattle.bac_serving.specs.Keeping.{IsThere}

pub there_at : {File : Type 0} (IsFile : (path : List ℕ) → File → Type 0) (path : List ℕ) (file : File) → IsFile path file → IsThere IsFile path
there_at IsFile path file opened = record { file = file; opened = opened }
