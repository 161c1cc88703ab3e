use Rattle.std.proofs.Common.{rules, refl}
use Rattle.bac_npdu.specs.Views.{npdu_view}
use Rattle.bac_text.proofs.layers.check_datagram.Goals as goal

pub returns-in-Err : goal.returns-in-Err
returns-in-Err c = (
  c.in_ok-npdu.npdu.contents.now,
  (
    record { npdu = npdu_view c.in_ok-npdu.npdu; frame = c.in_ok-npdu.ensures.found; no_message = search rules; is = refl },
    (search rules, c.in-Err.ensures.refused),
  ),
)
