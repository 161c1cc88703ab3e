-- The rules that a server is given: strict ones, and those of fresh reads.
use Rattle.std.specs.Prelude.{Bool, true, false, None}
use Rattle.bac_transaction.specs.declared.rules.ReadRule.TheVariants as reads
use Rattle.bac_transaction.specs.declared.rules.Rules.{Rules}

-- each reply is kept, for as long as its entry lives, and any address may use all slots
abbrev pub STRICTLY : Rules
STRICTLY = record { reads = reads.Kept; remember = None; memory = None; share = false }

-- reads are performed anew, and slots are shared among addresses
abbrev pub ANEW : Rules
ANEW = record { reads = reads.Fresh; remember = None; memory = None; share = true }

-- by whether clients may use invoke IDs again
abbrev pub rules_of : (reuse : Bool) → Rules
rules_of true = ANEW
rules_of false = STRICTLY
