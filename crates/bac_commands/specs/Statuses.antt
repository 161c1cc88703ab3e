-- What the status of a command says.
use Rattle.std.specs.Prelude.{⊤}
use Rattle.bac_text.specs.declared.status.Status.{Status}
use Rattle.bac_text.specs.declared.status.Status.TheVariants as status

-- what is so where all went well, where what was asked for has a fault, and where the words of the command line are refused; of a failed output, of a link or
-- a clock that failed and of memory that was refused it says nothing more
abbrev pub ByStatus : Status → (done faulty refused : Type 0) → Type 0
ByStatus status.Done done faulty refused = done
ByStatus status.Faulty done faulty refused = faulty
ByStatus status.CommandLine done faulty refused = refused
ByStatus status.Output done faulty refused = ⊤
ByStatus status.Memory done faulty refused = ⊤
