-- The slowest answer and four counts, one after the other.
use Rattle.std.proofs.Common.{string_bytes}
use Rattle.bac_explain_html.proofs.Told.{five_told, if_ok}
use Rattle.bac_explain_html.proofs.page.others.Goals as goal

pub returns : goal.returns
returns c = if_ok c.format.result _ _
    (λ t is. five_told (string_bytes t) _ _ _ _ _ _ _ _ _ _ is c.in_ok-slowest.ensures c.in_ok-findings.ensures c.in_ok-frames.ensures c.in_ok-unread.ensures
    c.in_ok-shown.ensures) c.format.ensures.ok
