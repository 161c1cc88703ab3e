-- The six counts and the slowest answer, one after the other.
use Rattle.std.proofs.Common.{string_bytes}
use Rattle.bac_explain_html.proofs.Told.{if_ok, seven_told}
use Rattle.bac_explain_html.proofs.page.device_cells.Goals as goal

pub returns : goal.returns
returns c = if_ok c.format.result _ _
    (λ t is. seven_told (string_bytes t) _ _ _ _ _ _ _ _ _ _ _ _ _ _ is c.in_ok-all.ensures c.in_ok-answered.ensures c.in_ok-errors.ensures c.in_ok-rejected.ensures
    c.in_ok-aborted.ensures c.in_ok-unanswered.ensures c.in_ok-slowest.ensures) c.format.ensures.ok
