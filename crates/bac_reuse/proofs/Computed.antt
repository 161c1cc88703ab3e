-- The examples are computed.
use Rattle.std.proofs.Common.{refl}
use Rattle.bac_reuse.specs.Examples.{WritesAreOnce, ReadsAreFresh, OneInvokeId, PiecesAreOnce, ReadsEnd, ReadsThatWrite}
use Rattle.bac_reuse.specs.StretchExamples.{ReadsTurn}

pub writes_are_once : WritesAreOnce
writes_are_once = refl

pub reads_are_fresh : ReadsAreFresh
reads_are_fresh = refl

pub one_invoke_id : OneInvokeId
one_invoke_id = refl

pub pieces_are_once : PiecesAreOnce
pieces_are_once = record { first = refl; another = refl; repeated = refl }

pub reads_end : ReadsEnd
reads_end = record { goes_on = refl; another = refl; ends = refl; aborted = refl; remembered = refl }

pub reads_that_write : ReadsThatWrite
reads_that_write = refl

pub reads_turn : ReadsTurn
reads_turn = refl
