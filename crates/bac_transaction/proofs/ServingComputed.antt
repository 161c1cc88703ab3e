-- The examples of a server's end by its rules, computed.
use Rattle.std.proofs.Common.{refl}
use Rattle.bac_transaction.specs.ServingExamples.{RemembersSoLong}

pub remembers_so_long : RemembersSoLong
remembers_so_long = record { kept = refl; forgotten = refl }
