-- What was printed of the octets that were read was printed of the input.
use Rattle.std.proofs.Common.{ℕ, List}
use Rattle.bac_reading.specs.Copied.{AreDecodedIn, IfKnown}
use Rattle.bac_reading.proofs.CheckedFiles.{at_any, copied_told}
use Rattle.bac_reading.proofs.copied.decode_octets.Goals as goal

pub returns-in-Ok : goal.returns-in-Ok
returns-in-Ok g c =
    let Says : List ℕ → Type 0
    = λ (text : List ℕ). AreDecodedIn c.args.copied text (g.O.Write.contents c.args.out.now) (g.O.Write.contents c.decode_text.new.out) c.decode_text.result in
    at_any c.decode_text.result (IfKnown (g.R.Read.remaining c.args.input) Says)
    (copied_told (g.R.Read.remaining c.args.input) c.in-Ok.text.items c.deref.result.now Says c.in-Ok.ensures.octets c.deref.ensures.value c.decode_text.ensures)
