-- What standard output has.
use Rattle.std.specs.Prelude.{ℕ, Bool, true, false, List, [], Option, Some, None, Result, Ok, Err}
use Rattle.std.specs.IoError.{error_kind}
use Rattle.std.specs.declared.io.Error.{Error}
use Rattle.std.specs.declared.io.ErrorKind.{ErrorKind}
use Rattle.std.specs.declared.io.ErrorKind.TheVariants.{BrokenPipe}
use Rattle.std.specs.declared.io.traits.Write.{Ghosts}
use Rattle.bac_shown.specs.declared.form.Form.{Form}
use Rattle.bac_command_line.specs.declared.output.Output.{Output}
use Rattle.bac_command_line.specs.declared.output.Output.TheVariants.{Text, Octets}
use Rattle.bac_command_line.specs.declared.piped.Piped.{Piped}

-- text as it was written, before it is shown
abbrev pub contents_in : {W : Type 0} (known : W → Option (List ℕ)) (g : Ghosts W) → Output W g → Option (List ℕ)
contents_in known g (Text shown) = Some shown.written.octets
contents_in known g (Octets out) = known out

abbrev pub output_contents : {W : Type 0} {g : Ghosts W} (known : W → Option (List ℕ)) → Output W g → Option (List ℕ)
output_contents {W} {g} known = contents_in known g

-- what an output in a form has as it begins, over a writer that has this: nothing, or where it passes octets on, what that has
abbrev pub begun_in : Option Form → (known : Option (List ℕ)) → Option (List ℕ)
begun_in None known = known
begun_in (Some form) known = Some []

abbrev pub piped_contents : {W : Type 0} (known : W → Option (List ℕ)) → Piped W → Option (List ℕ)
piped_contents known piped = known piped.below

-- nobody reads what is written any more: a write or a flush failed so
abbrev pub has_reader_ended : {W : Type 0} → Piped W → Bool
has_reader_ended piped = piped.has_reader_ended

abbrev pub is_broken_pipe : ErrorKind → Bool
is_broken_pipe BrokenPipe = true
is_broken_pipe kind = false

-- that call failed so
abbrev pub failed_unread : {A : Type 0} → Result A Error → Bool
failed_unread (Ok x) = false
failed_unread (Err e) = is_broken_pipe (error_kind e)
