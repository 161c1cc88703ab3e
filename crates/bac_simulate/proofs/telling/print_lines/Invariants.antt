-- A run of the lines from here on completes a run of all.
use Rattle.std.proofs.Common.{ℕ, ◌+◌, Bool, List, Option, map, drop}
use Rattle.bac_network.specs.Histories.{WorldView}
use Rattle.bac_text.specs.Texts.{AppendsText}
use Rattle.bac_simulate.specs.Runs.{Runs}
use Rattle.bac_simulate.specs.Views.{line_view}
use Rattle.bac_simulate.specs.Told.{told_in}
use Rattle.bac_simulate.proofs.telling.print_lines.Given as goal

abbrev pub invariant-loop-place : goal.invariant-loop-place
invariant-loop-place g l = (all : Bool) (new : WorldView) (end : Option (List ℕ))
    → AppendsText (g.W.Write.contents l.out) end (Runs (told_in l.style) (l.before + 1 + l.place) (drop l.place (map line_view l.lines)) all l.world new)
    → AppendsText (g.W.Write.contents l.fn.out) end (Runs (told_in l.style) (l.before + 1) (map line_view l.lines) all l.fn.world new)
