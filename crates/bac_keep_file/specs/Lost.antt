-- When a database file has lost its log.
use Rattle.std.specs.Prelude.{◌≡◌, ◌<◌, ◌≤◌, ℕ, List, length}
use Rattle.sqlite_wal.specs.Format.{be32}

-- the header of a database file says that its log has one: the user version is 1
abbrev pub IsMarked : List ℕ → Type 0
IsMarked db = (100 ≤ length db) × (be32 db 60 ≡ 1)

-- the log of a marked file is missing, empty, or shorter than an empty log
abbrev pub HasLostLog : (log db : List ℕ) → Type 0
HasLostLog log db = IsMarked db × (length log < 41)
