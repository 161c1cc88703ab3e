-- The octets of a file that an ask was answered with, alone.
use Rattle.std.specs.Prelude.{◌≡◌, ℕ, Bool, true, false, List, Option, Some, None}
use Rattle.std.specs.Io.KnownBytes.{Appends, Keeps}
use Rattle.bac_service.specs.Replies as plain
use Rattle.bac_service_text.specs.Answers.{octets_of_reply}

abbrev pub octets_of : Option plain.Reply → Option (List ℕ)
octets_of None = None
octets_of (Some reply) = octets_of_reply reply

-- they alone were written, where there are any, and then the ask succeeded
abbrev pub AreWritten : Option (List ℕ) → (succeeded : Bool) → (old new : Option (List ℕ)) → Type 0
AreWritten None succeeded old new = (succeeded ≡ false) × Keeps old new
AreWritten (Some octets) succeeded old new = (succeeded ≡ true) × Appends old new octets
