-- What was printed of the input after a look at its next octets was printed of the input.
use Rattle.std.proofs.Common.{ℕ, List, Option, None, Some}
use Rattle.bac_reading.specs.Copied.{AreDecodedOf}
use Rattle.bac_reading.specs.Decodings.{AreLayered, copied_as}
use Rattle.bac_reading.proofs.CheckedFiles.{at_any, decoded_as, layered_of_nothing, told_before}
use Rattle.bac_reading.proofs.decoding.decode_input.Goals as goal

pub returns-then-eq : goal.returns-then-eq
returns-then-eq g c = record {
  form = None;
  are = told_before _ _
      (λ (content : Option (List ℕ)). AreLayered c.args.layers content (g.O.Write.contents c.args.out.now) (g.O.Write.contents c.decode_digits.new.out)
      c.decode_digits.result) c.form_of-form.ensures (layered_of_nothing c.args.layers _ _ c.decode_digits.result) c.decode_digits.ensures;
}

pub returns : goal.returns
returns g c = record {
  form = Some c.form_of-form.result;
  are = told_before _ _
      (λ (content : Option (List ℕ)). AreDecodedOf (copied_as c.form_of-form.result c.args.layers) content (g.O.Write.contents c.args.out.now)
      (g.O.Write.contents c.decode_octets.new.out) c.decode_octets.result) c.form_of-form.ensures (at_any c.decode_octets.result (Unit {0}) tt)
      (decoded_as c.copied.result (copied_as c.form_of-form.result c.args.layers) _ _ _ _ c.copied.ensures c.decode_octets.ensures);
}
