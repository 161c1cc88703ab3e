-- The page that was read is empty, and then a blank one, or whole.
use Rattle.std.proofs.Common.{◌≡◌, Some, length, refl, sym, ap, ◌∙◌, arith}
use Rattle.std.proofs.lemmas.Option.{slice_get-get_or}
use Rattle.std.specs.Vec.{with_item}
use Rattle.bac_journal.proofs.Grown.{nothing_left}
use Rattle.bac_journal.proofs.Pages.{page_made, page_whole, place_here}
use Rattle.bac_journal.proofs.asks.reserve_page.Goals as goal

pub returns-in_ok-row-clause-ok : goal.returns-in_ok-row-clause-ok
returns-in_ok-row-clause-ok c = λ ok.
    let there = slice_get-get_or c.args.row.now.pages.items c.args.server c.index.result.now c.requires.there ∙ ap Some (sym c.index.ensures) in
    let many = c.index.result.now.ok.0 in
    let empty = nothing_left c.index.result.now.items (grind (arith, many, c.is_empty.ensures, c.if-is_empty.true)) in
    place_here c.args.row.now
    (record { pages = with_item c.args.row.now.pages c.args.server c.in_ok-row.field-0; numbers = c.args.row.now.numbers }) c.args.server c.index.result.now c.in_ok-row.field-0 there refl empty c.in_ok-row.ensures

pub returns-in_ok-row-clause-same : goal.returns-in_ok-row-clause-same
returns-in_ok-row-clause-same c =
    let there = slice_get-get_or c.args.row.now.pages.items c.args.server c.index.result.now c.requires.there ∙ ap Some (sym c.index.ensures) in
    let many = c.index.result.now.ok.0 in
    let empty = nothing_left c.index.result.now.items (grind (arith, many, c.is_empty.ensures, c.if-is_empty.true)) in
    page_made c.args.row.now _ c.args.server c.index.result.now c.in_ok-row.field-0 there refl empty c.in_ok-row.ensures refl

pub returns-else-is_empty-clause-ok : goal.returns-else-is_empty-clause-ok
returns-else-is_empty-clause-ok c = λ ok.
    let there = slice_get-get_or c.args.row.now.pages.items c.args.server c.index.result.now c.requires.there ∙ ap Some (sym c.index.ensures) in
    let many = c.index.result.now.ok.0 in
    page_whole c.args.row.now c.args.server c.requires.places.0 c.index.result.now c.requires.places.1 there (λ none.
    let short : length c.index.result.now.items ≡ 0 = ap (λ l. length l) none in
    grind (arith, many, short, c.is_empty.ensures, c.if-is_empty.false))
