use Rattle.bac_npdu.specs.Npdu.{SpellsNpdu}
use Rattle.bac_npdu.specs.Views.{npdu_view}
use Rattle.bac_text.specs.Decoded.{AreNpduLines}
use Rattle.bac_text.proofs.Printed.{a_layer}
use Rattle.bac_text.proofs.decode.print_npdu_lines.Goals as goal

pub returns-in-Ok : goal.returns-in-Ok
returns-in-Ok g c =
    a_layer _ SpellsNpdu (AreNpduLines c.args.in_words) _ (npdu_view c.in-Ok.npdu) _ _ c.in-Ok.ensures.found c.print_npdu_layer.ensures
