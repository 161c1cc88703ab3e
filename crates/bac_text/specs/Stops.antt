-- The status of a pass over an input that stopped before its end.
use Rattle.std.specs.Prelude.{◌≡◌, ◌≢◌, Result, Ok, Err}
use Rattle.std.specs.IoError.{error_kind}
use Rattle.std.specs.declared.io.Error.{Error}
use Rattle.std.specs.declared.io.ErrorKind.TheVariants.{OutOfMemory}
use Rattle.bac_text.specs.declared.error.CheckError.{CheckError}
use Rattle.bac_text.specs.declared.error.CheckError.TheVariants as why
use Rattle.bac_text.specs.declared.status.Status.{Status}
use Rattle.bac_text.specs.declared.status.Status.TheVariants.{CommandLine, Output, Memory}

-- a failed allocation has its own status
abbrev pub IsFailedBy : Error → Status → Status → Type 0
IsFailedBy error other status = (error_kind error ≡ OutOfMemory → status ≡ Memory) × (error_kind error ≢ OutOfMemory → status ≡ other)

abbrev pub IsStopBy : CheckError → Status → Type 0
IsStopBy (why.Input error) = IsFailedBy error CommandLine
IsStopBy (why.Output error) = IsFailedBy error Output
IsStopBy why.Memory = λ status. status ≡ Memory

-- if the output can't be flushed then, this is reported, but not instead of a failed output
abbrev pub IsStopFor : {T : Type 0} → Result T Error → CheckError → Status → Type 0
IsStopFor (Ok flushed) error = IsStopBy error
IsStopFor (Err failed) (why.Input error) = IsFailedBy failed Output
IsStopFor (Err failed) (why.Output error) = IsFailedBy error Output
IsStopFor (Err failed) why.Memory = IsFailedBy failed Output
