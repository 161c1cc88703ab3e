-- The plain values of counts and of a check.
use Rattle.bac_capture.specs.declared.check.Check.{Check}
use Rattle.bac_capture.specs.declared.tally.FrameTally.{FrameTally}
use Rattle.bac_capture.specs.Checked.{Checking}
use Rattle.bac_capture.specs.Counts.{Counts}

abbrev pub counts_of : FrameTally → Counts
counts_of t = record { frames = t.frames; good = t.good; bad = t.bad; other = t.other; others = t.others }

abbrev pub check_view : Check → Checking
check_view c = record { in_words = c.in_words; counts = counts_of c.tally }
