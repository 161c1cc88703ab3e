use Rattle.std.proofs.Common.{◌≡◌, ◌+◌, List, [], ℕ, IfOk, Option, refl, sym, ap, subst, ◌∙◌, map, slice_get}
use Rattle.std.proofs.lemmas.List.{take_rest}
use Rattle.std.proofs.lemmas.Option.{slice_get_read}
use Rattle.std.specs.Option.{option_map}
use Rattle.bac_chart.specs.Drawings.{line_text, mark_text, optional_text}
use Rattle.bac_chart.specs.Views.{line_view, mark_view}
use Rattle.bac_chart.specs.Lines as lines
use Rattle.bac_chart.specs.declared.line.Line.{Line}
use Rattle.bac_chart.proofs.Placing.{at_place}
use Rattle.bac_chart.proofs.drawing.mark_text.Goals as goal

pub returns-in-Some : goal.returns-in-Some
returns-in-Some c =
    let f = c.args.form in
    let nodes = c.args.nodes in
    let marks = c.args.marks.now in
    let place = c.args.place in
    let at = slice_get_read marks _ place c.index-marks-place.result refl c.requires c.index-marks-place.is in
    let is : mark_text f nodes (map mark_view marks) place (slice_get (map mark_view marks) place) ≡ line_text f nodes (line_view c.in-Some.line)
    = at_place f nodes marks _ place c.index-marks-place.result at (take_rest marks (place + 1))
    ∙ (ap (λ (o : Option lines.Line). optional_text f nodes o) (sym c.in_ok-line.ensures)
    ∙ ap (λ (o : Option Line). optional_text f nodes (option_map line_view o)) c.in-Some.is) in
    subst (λ (text : List ℕ). IfOk c.line_text.result (λ t. t.items ≡ text)) (sym is) c.line_text.ensures

pub returns-in-None : goal.returns-in-None
returns-in-None c =
    let f = c.args.form in
    let nodes = c.args.nodes in
    let marks = c.args.marks.now in
    let place = c.args.place in
    let at = slice_get_read marks _ place c.index-marks-place.result refl c.requires c.index-marks-place.is in
    let is : mark_text f nodes (map mark_view marks) place (slice_get (map mark_view marks) place) ≡ []
    = at_place f nodes marks _ place c.index-marks-place.result at (take_rest marks (place + 1))
    ∙ (ap (λ (o : Option lines.Line). optional_text f nodes o) (sym c.in_ok-line.ensures)
    ∙ ap (λ (o : Option Line). optional_text f nodes (option_map line_view o)) c.in-None.is) in
    c.new.ensures.items ∙ sym is
