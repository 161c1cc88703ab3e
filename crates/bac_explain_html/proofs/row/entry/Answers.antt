-- A row, and one with its picture.
use Rattle.std.proofs.Common.{◌∙◌, refl}
use Rattle.bac_explain.specs.Closings.{told_view}
use Rattle.bac_explain_html.proofs.Told.{added, entry_told}
use Rattle.bac_explain_html.proofs.row.entry.Goals as goal

pub returns : goal.returns
returns c =
    entry_told (told_view c.args.key c.args.transaction.now) _ _ _ _ _ _ _ c.entry_front.ensures c.in_ok-cells.ensures c.in_ok-words.ensures c.in_ok-end.ensures c.deref.ensures.value
    c.in_ok-picture.ensures
    (added _ _ _ _ _ c.in_ok-extend_from_slice-6.ensures.items
    (added _ _ _ _ _ c.in_ok-extend_from_slice-5.ensures.items
    (added _ _ _ _ _ c.in_ok-extend_from_slice-4.ensures.items
    (added _ _ _ _ _ c.in_ok-extend_from_slice-3.ensures.items
    (added _ _ _ _ _ c.in_ok-extend_from_slice-2.ensures.items
    (added _ _ _ _ _ c.in_ok-extend_from_slice.ensures.items
    (c.in_ok-text.ensures.items ∙ c.as_bytes.ensures.value) c.as_bytes-2.ensures.value) c.deref-2.ensures.value) c.deref-3.ensures.value) refl) c.deref-4.ensures.value) refl)
