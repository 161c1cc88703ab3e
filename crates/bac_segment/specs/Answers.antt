-- The results of the calls of both sides, and the states after them.
use Rattle.std.specs.Prelude.{◌≡◌, true, false, Option, Some, None, Result, Ok, Err}
use Rattle.bac_segment.specs.Window.{Outgoing, is_finished, Incoming, Taking}
use Rattle.bac_segment.specs.declared.outgoing.Progress.{Progress}
use Rattle.bac_segment.specs.declared.outgoing.Progress.TheVariants.{Moved, Finished, Ignored}
use Rattle.bac_segment.specs.declared.outgoing.Timeout.{Timeout}
use Rattle.bac_segment.specs.declared.outgoing.Timeout.TheVariants.{Again, GivenUp}
use Rattle.bac_segment.specs.declared.incoming.Step.{Step}
use Rattle.bac_segment.specs.declared.incoming.Step.TheVariants as step
use Rattle.bac_segment.specs.declared.incoming.SegmentFault.{SegmentFault}
use Rattle.bac_segment.specs.declared.incoming.SegmentFault.TheVariants as fault

-- The result of a SegmentACK. The first argument is the sender after it, if it acknowledges something.
abbrev pub Moves : Option Outgoing → Outgoing → Progress → Outgoing → Type 0
Moves next old Moved new = (next ≡ Some new) × (is_finished new ≡ false)
Moves next old Finished new = (next ≡ Some new) × (is_finished new ≡ true)
Moves next old Ignored new = (next ≡ None) × (new ≡ old)

-- The result of a timeout. The first argument is the sender after it, if a retry is left.
abbrev pub TimesOut : Option Outgoing → Outgoing → Timeout → Outgoing → Type 0
TimesOut next old Again new = next ≡ Some new
TimesOut next old GivenUp new = (next ≡ None) × (new ≡ old)

-- the result of a segment if no allocation fails
abbrev pub answer_of : Taking → Result Step SegmentFault
answer_of (Taking.Taken ack next) = Ok (step.Taken ack)
answer_of (Taking.Whole parts) = Ok step.Whole
answer_of (Taking.Nak next) = Ok step.Nak
answer_of Taking.TooLong = Err fault.TooLong

-- whether the segment's octets are kept, which is the only thing that allocates
abbrev pub IsKept : Taking → Type 0
IsKept (Taking.Taken ack next) = Unit {0}
IsKept (Taking.Whole parts) = Unit {0}
IsKept (Taking.Nak next) = ⊥
IsKept Taking.TooLong = ⊥

-- The result of a segment. The first argument is its effect by the definition.
abbrev pub Takes : Taking → Incoming → Result Step SegmentFault → Incoming → Type 0
Takes does old (Ok (step.Taken ack)) new = does ≡ Taking.Taken ack new
Takes does old (Ok step.Whole) new = (does ≡ Taking.Whole new.parts) × (new ≡ record old { parts = new.parts; unacknowledged = 0 })
Takes does old (Ok step.Nak) new = does ≡ Taking.Nak new
Takes does old (Err fault.TooLong) new = (does ≡ Taking.TooLong) × (new ≡ old)
Takes does old (Err fault.NoMemory) new = IsKept does × (new ≡ old)
