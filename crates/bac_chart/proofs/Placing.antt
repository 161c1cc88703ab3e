-- The mark at a place.
use Rattle.std.proofs.Common.{◌≡◌, ℕ, ◌+◌, List, map, take, drop, Some, sym, ap, ◌∙◌, slice_get}
use Rattle.std.proofs.lemmas.List.{take-map, drop-map}
use Rattle.std.proofs.lemmas.Option.{slice_get-map}
use Rattle.std.specs.Option.{option_map}
use Rattle.bac_chart.specs.declared.mark.Mark.{Mark}
use Rattle.bac_chart.specs.declared.drawing.ChartFormat.{ChartFormat}
use Rattle.bac_chart.specs.Drawings.{mark_text, optional_text}
use Rattle.bac_chart.specs.Lines.{line_of}
use Rattle.bac_chart.specs.Marks as plain
use Rattle.bac_chart.specs.Views.{mark_view}

pub at_place : (f : ChartFormat) (nodes : ℕ) (marks after : List Mark) (place : ℕ) (m : Mark) → slice_get marks place ≡ Some m → after ≡ drop (place + 1) marks
    → mark_text f nodes (map mark_view marks) place (slice_get (map mark_view marks) place)
    ≡ optional_text f nodes (line_of (map mark_view (take place marks)) (mark_view m) (map mark_view after))
at_place f nodes marks after place m at is =
    ap (mark_text f nodes (map mark_view marks) place) (slice_get-map mark_view marks place ∙ ap (option_map mark_view) at)
    ∙ (ap (λ (b : List plain.Mark). optional_text f nodes (line_of b (mark_view m) (drop (place + 1) (map mark_view marks)))) (take-map mark_view place marks)
    ∙ ap (λ (a : List plain.Mark). optional_text f nodes (line_of (map mark_view (take place marks)) (mark_view m) a))
    (drop-map mark_view (place + 1) marks ∙ ap (map mark_view) (sym is)))
