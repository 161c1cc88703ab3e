-- How complaints of a command are shown.
use Rattle.std.specs.Prelude.{ℕ, Bool, ◌&&◌, ◌||◌, if◌then◌else◌, List, codes, bytes_eq, Option, Some, None}
use Rattle.bac_shown.specs.declared.form.Form.{Form}
use Rattle.bac_shown.specs.declared.form.Form.TheVariants.{Text, Json}

-- a command that reads or writes whole files
abbrev pub is_of_files : (command : List ℕ) → Bool
is_of_files command =
    bytes_eq command (codes "get") || (bytes_eq command (codes "put") || (bytes_eq command (codes "backup") || bytes_eq command (codes "restore")))

-- on a terminal, by control characters of its own
abbrev pub draws_progress : (command : List ℕ) → Bool
draws_progress command = is_of_files command || bytes_eq command (codes "ask")

-- as they come where progress is drawn between them; those of a server in the form of its log
abbrev pub complaints_of : (command : List ℕ) → (is_terminal is_json : Bool) → Option Form
complaints_of command is_terminal is_json =
    if is_terminal && draws_progress command then None else
    (if bytes_eq command (codes "serve") && is_json then Some Json else Some Text)
