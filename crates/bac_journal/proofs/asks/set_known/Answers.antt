-- One row has another cell.
use Rattle.std.proofs.Common.{◌≡◌, ◌∙◌, Some, ap, refl, slice_get, slice_set, slice_index_or, subst, sym}
use Rattle.std.proofs.lemmas.List.{length-set}
use Rattle.std.proofs.lemmas.Option.{slice_get-get_or, slice_get_within}
use Rattle.bac_journal.specs.declared.asks.Row.{Row}
use Rattle.bac_journal.specs.Views.{key_view}
use Rattle.bac_journal.proofs.Lists.{get_set, get_set_other}
use Rattle.bac_journal.proofs.Pages.{cell_set, on_page}
use Rattle.bac_journal.proofs.asks.set_known.Goals as goal

pub returns : goal.returns
returns c =
    let page = on_page c.args.rows.now (key_view c.args.key.now) c.requires.0 c.requires.1 in
    let within = slice_get_within c.args.rows.now c.args.key.now.client page.row page.at in
    let row : Row = slice_index_or c.args.rows.now c.args.key.now.client c.index-rows-key.result in
    let was : slice_get c.args.rows.now c.args.key.now.client ≡ Some row = slice_get-get_or c.args.rows.now c.args.key.now.client c.index-rows-key.result within in
    let same : page.row ≡ row = let e : Some page.row ≡ Some row = sym page.at ∙ was in cc in
    let there : slice_get row.pages.items c.args.key.now.server ≡ Some page.page =
    subst (λ (r : Row). slice_get r.pages.items c.args.key.now.server ≡ Some page.page) same page.there in
    let read : slice_get row.pages.items c.args.key.now.server ≡ Some c.index_mut-page.result.now =
    slice_get-get_or row.pages.items c.args.key.now.server c.index_mut-page.result.now (slice_get_within row.pages.items c.args.key.now.server page.page there)
    ∙ ap Some (sym c.index_mut-page.ensures.value) in
    let page_is : c.index_mut-page.result.now ≡ page.page = let e : Some c.index_mut-page.result.now ≡ Some page.page = sym read ∙ there in cc in
    record {
      before = row;
      after = _;
      was = was;
      here = get_set c.args.rows.now c.args.key.now.client _ within;
      goes = cell_set row _ c.args.key.now.server page.page _ there refl c.args.key.now.invoke_id c.args.cell page.within
          (λ i. slice_set (page_is i).items (c.from.ensures i) c.args.cell) refl;
      others = λ j ne. get_set_other c.args.rows.now c.args.key.now.client j _ ne;
      many = length-set c.args.rows.now c.args.key.now.client _;
    }
