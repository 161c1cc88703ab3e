-- The line of a frame, with its moment and what it was.
use Rattle.std.proofs.Common.{string_bytes}
use Rattle.bac_explain_html.proofs.Told.{arrow_told, if_ok}
use Rattle.bac_explain_html.proofs.picture.arrow.Goals as goal

pub returns : goal.returns
returns c = if_ok c.format.result _ _
    (λ t is. arrow_told c.args.asked c.args.step (string_bytes t) _ _ _ _ c.arrow_front-front.ensures c.in_ok-words.ensures c.in_ok-mark.ensures
    c.saturating_sub-after.ensures is) c.format.ensures.ok
