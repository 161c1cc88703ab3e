-- The examples of a server's end that shares its slots, computed.
use Rattle.std.proofs.Common.{refl}
use Rattle.bac_transaction.specs.SharingExamples.{OfFour, OfSixteen}

pub of_sixteen : OfSixteen
of_sixteen = record { fifteenth = refl; last = refl; other = refl; full = refl; second = refl; again = refl; strict = refl }

pub of_four : OfFour
of_four = record { third = refl; last = refl; other = refl; full = refl; one_of_one = refl }
