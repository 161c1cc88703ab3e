-- What was printed of the file that was opened was printed of the file at the path.
use Rattle.std.proofs.Common.{ℕ, List, Option, refl}
use Rattle.bac_reading.specs.Copied.{AreDecodedIn, IfKnown}
use Rattle.bac_reading.proofs.CheckedFiles.{ended_file}
use Rattle.bac_reading.proofs.copied.decode_file.Goals as goal

pub returns : goal.returns
returns g c =
    ended_file _ c.args.path.now (g.F.File.Read.remaining c.in-Ok.file)
    (λ (content : Option (List ℕ)). IfKnown content
    (λ (text : List ℕ). AreDecodedIn c.args.copied text (g.O.Write.contents c.args.out.now) (g.O.Write.contents c.decode_octets.new.out) c.decode_octets.result))
    c.decode_octets.result (record { file = c.in-Ok.file; opened = c.in-Ok.ensures.opened; is = refl }) c.decode_octets.ensures
