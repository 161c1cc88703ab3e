-- The examples of invoke IDs that are used again, computed.
use Rattle.std.proofs.Common.{refl}
use Rattle.bac_transaction.specs.ReuseExamples.{UsedAgain, WithoutRoom, InSegments}

pub used_again : UsedAgain
used_again = record { equal = refl; another = refl; back = refl; read = refl }

pub without_room : WithoutRoom
without_room = record { read = refl; write = refl; read_early = refl; write_early = refl }

pub in_segments : InSegments
in_segments = record { under_way = refl; repeated = refl; over = refl }
