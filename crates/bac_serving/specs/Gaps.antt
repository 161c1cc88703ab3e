-- What is missing of a text that is written line by line.
use Rattle.std.specs.Prelude.{ℕ, ◌+◌, min, nat_lt, Bool, true, false, ◌&&◌, ◌||◌}
use Rattle.bac_driver.specs.Waits.{MOST}
use Rattle.bac_serving.specs.declared.gap.Gap.{Gap}
use Rattle.bac_serving.specs.declared.gap.Line.{Line}
use Rattle.bac_serving.specs.declared.gap.Line.TheVariants as line

-- how many octets are written at once at the most
abbrev pub PIECE : ℕ
PIECE = 4096

abbrev pub is_dropped : Line → Bool
is_dropped line.Next = false
is_dropped line.Written = false
is_dropped line.Dropped = true

abbrev pub is_written : Line → Bool
is_written line.Next = false
is_written line.Written = true
is_written line.Dropped = false

abbrev pub is_next : Line → Bool
is_next line.Next = true
is_next line.Written = false
is_next line.Dropped = false

-- the next piece belongs to a line of which something was dropped
abbrev pub is_open : Gap → Bool
is_open g = is_dropped g.line

-- lines were dropped that are not told, and the next one has not begun
abbrev pub is_untold : Gap → Bool
is_untold g = nat_lt 0 g.lines && is_next g.line

-- behind a piece that was written, with which its line may end
abbrev pub after_written : (is_end : Bool) → Gap → Gap
after_written true g = record g { line = line.Next }
after_written false g = record g { line = line.Written }

-- behind a piece that was dropped: the line counts once, where it ends; where its beginning was written, it is cut
abbrev pub after_dropped : (is_end : Bool) → Gap → Gap
after_dropped true g = record { line = line.Next; is_cut = g.is_cut || is_written g.line; lines = min (g.lines + 1) MOST }
after_dropped false g = record { line = line.Dropped; is_cut = g.is_cut || is_written g.line; lines = g.lines }

-- once what was dropped is told
abbrev pub after_told : Gap → Gap
after_told g = record g { is_cut = false; lines = 0 }
