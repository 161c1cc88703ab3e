-- The exit statuses of the program.
use Rattle.std.specs.Prelude.{◌≡◌, ◌<◌, ℕ, ⊤}
use Rattle.bac_text.specs.declared.status.Status.{Status}
use Rattle.bac_text.specs.declared.status.Status.TheVariants.{Done, Faulty, CommandLine, Output, Memory}

abbrev pub exit_status : Status → ℕ
exit_status Done = 0
exit_status Faulty = 1
exit_status CommandLine = 2
exit_status Output = 3
exit_status Memory = 4

-- the output or the memory failed
abbrev pub IsFailure : Status → Type 0
IsFailure Done = ⊥
IsFailure Faulty = ⊥
IsFailure CommandLine = ⊥
IsFailure Output = Unit {0}
IsFailure Memory = Unit {0}

-- the command stopped before its end
abbrev pub IsStop : Status → Type 0
IsStop Done = ⊥
IsStop Faulty = ⊥
IsStop CommandLine = Unit {0}
IsStop Output = Unit {0}
IsStop Memory = Unit {0}

-- a command that ends with 0 or 1 keeps this promise; the other statuses promise nothing
abbrev pub IfEnded : Status → (Promise : Type 0) → Type 0
IfEnded Done Promise = Promise
IfEnded Faulty Promise = Promise
IfEnded CommandLine Promise = ⊤
IfEnded Output Promise = ⊤
IfEnded Memory Promise = ⊤

-- what the status says of a capture with so many bad lines
abbrev pub IsTallied : (bad : ℕ) → Status → Type 0
IsTallied bad Done = bad ≡ 0
IsTallied bad Faulty = 0 < bad
IsTallied bad CommandLine = ⊥
IsTallied bad Output = ⊥
IsTallied bad Memory = ⊥
