use Rattle.bac_apdu.specs.Spelling.{SpellsApdu}
use Rattle.bac_apdu.specs.Views.{apdu_view}
use Rattle.bac_text.specs.Decoded.{AreApduLinesAs}
use Rattle.bac_text.proofs.Printed.{a_layer, no_layer}
use Rattle.bac_text.proofs.decode.print_apdu_layer.Goals as goal

pub returns-in-Ok : goal.returns-in-Ok
returns-in-Ok g c = a_layer _ SpellsApdu (AreApduLinesAs c.args.in_words) _ (apdu_view c.in-Ok.apdu) _ _ c.in-Ok.ensures.found c.print_apdu_lines.ensures

pub returns-in-Err : goal.returns-in-Err
returns-in-Err g c = no_layer SpellsApdu (AreApduLinesAs c.args.in_words) _ _ c.in-Err.ensures.refused
