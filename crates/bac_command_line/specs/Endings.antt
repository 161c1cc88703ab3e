-- What the status of a command line says.
use Rattle.std.specs.Prelude.{◌≡◌, ℕ, List, Option, Bool, true}
use Rattle.bac_text.specs.Statuses.{exit_status}
use Rattle.bac_text.specs.declared.status.Status.{Status}
use Rattle.bac_text.specs.declared.status.Status.TheVariants.{Output}
use Rattle.bac_command_line.specs.Tasks.{IsAtEnd}

-- a task was done, which printed something behind what there was as it began: the status is its own, or the last octets could not be written. The task writes to
-- a writer of any type, of which nothing is known but what was written; so `printed` is that, and nothing follows of what standard output got
pub record EndsAs (Does : Status → (old new : Option (List ℕ)) → Type 0) (begun : Option (List ℕ)) (end : Status) : Type 0 where
  pub own : Status
  pub printed : Option (List ℕ)
  pub does : Does own begun printed
  pub at_end : IsAtEnd own end

-- the exit status of the program: where standard output could not be written because its reader has ended, that of a program that SIGPIPE ended
abbrev pub number_at_end : Status → (has_reader_ended : Bool) → ℕ
number_at_end Output true = 141
number_at_end status has_reader_ended = exit_status status

-- an exit status of the program, where the reader of its standard output has ended or not: 141 only where it has, and 3 only where it has not
pub record IsExit (has_reader_ended : Bool) (number : ℕ) : Type 0 where
  pub status : Status
  pub is : number ≡ number_at_end status has_reader_ended
