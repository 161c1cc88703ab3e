-- What was printed of the reader was printed of the file.
use Rattle.std.proofs.Common.{List, ℕ, Option}
use Rattle.bac_reading.specs.Decodings.{AreRead}
use Rattle.bac_reading.proofs.CheckedFiles.{printed_file}
use Rattle.bac_reading.proofs.decoding.decode_lines.Goals as goal

pub returns-in-Ok : goal.returns-in-Ok
returns-in-Ok g c =
    printed_file _ c.args.path.now _
    (λ (content : Option (List ℕ)). AreRead c.args.form content (g.O.Write.contents c.args.out.now) (g.O.Write.contents c.decode_input.new.out)
    c.decode_input.result)
    c.decode_input.result c.in-Ok.ensures.at c.decode_input.ensures
