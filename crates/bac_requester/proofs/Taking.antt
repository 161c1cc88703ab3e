-- What the answer to a segment says of what the segment does.
use Rattle.std.proofs.Common.{◌≡◌, Err, refl}
use Rattle.bac_segment.specs.Answers.{answer_of}
use Rattle.bac_segment.specs.Window.{Taking}
use Rattle.bac_segment.specs.declared.incoming.SegmentFault.{SegmentFault}

pub refused_is_too_long : (t : Taking) (e : SegmentFault) → Err e ≡ answer_of t → t ≡ Taking.TooLong
refused_is_too_long (Taking.Taken ack next) e is = absurd cc
refused_is_too_long (Taking.Whole parts) e is = absurd cc
refused_is_too_long (Taking.Nak next) e is = absurd cc
refused_is_too_long Taking.TooLong e is = refl
