-- The examples are computed.
use Rattle.std.proofs.Common.{true, false, refl}
use Rattle.bac_plant.specs.WritesExamples.{ActsFirstAlone, ActsThreeTimes, WritesTwice}

pub acts_three_times : ActsThreeTimes
acts_three_times = refl

pub acts_first_alone : ActsFirstAlone
acts_first_alone = refl

pub writes_twice_reusing : WritesTwice true
writes_twice_reusing = refl

pub writes_twice : WritesTwice false
writes_twice = refl
