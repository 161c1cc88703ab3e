-- Runs at a server of fresh reads that are computed.
use Rattle.std.proofs.Common.{refl}
use Rattle.bac_liveness.specs.FreshExamples.{AnswerUnheard, ReadTwice}

pub read_twice : ReadTwice
read_twice = record { fresh = refl; strict = refl }

pub answer_unheard : AnswerUnheard
answer_unheard = record { fresh = refl; strict = refl }
