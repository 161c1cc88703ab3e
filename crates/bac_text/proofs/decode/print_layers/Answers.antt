use Rattle.std.proofs.Common.{length}
use Rattle.bac_npdu.specs.Npdu.{SpellsBvll}
use Rattle.bac_text.specs.Decoded.{AreBvllLines}
use Rattle.bac_service_text.proofs.Appending.{and_then}
use Rattle.bac_text.proofs.Printed.{a_layer}
use Rattle.bac_text.proofs.decode.print_layers.Goals as goal

pub returns : goal.returns
returns g c =
    a_layer _ SpellsBvll (AreBvllLines c.args.in_words (length c.args.datagram.now)) _ c.in-Ok.npdu.now _ _ c.in-Ok.ensures.found
    (and_then _ _ _ _ _ _ c.in_ok-print_bvll.ensures c.print_npdu_lines.ensures)
