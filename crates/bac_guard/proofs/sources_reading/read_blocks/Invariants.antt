-- The blocks so far are the first parts of the text, and what is left is text.
use denote.Shadow.{shadow}
use denote.Text.{Utf8}
use Rattle.bac_guard.specs.Texts.{parts_of}
use Rattle.bac_guard.specs.Views.{blocks_of}
use Rattle.bac_guard.proofs.Parts.{IsReadTo}
use Rattle.bac_guard.proofs.sources_reading.read_blocks.Given as goal

abbrev pub invariant-loop-before : goal.invariant-loop-before
invariant-loop-before l = IsReadTo l.text (parts_of l.rest) (blocks_of l.sources) l.before × shadow (Utf8 l.rest)
