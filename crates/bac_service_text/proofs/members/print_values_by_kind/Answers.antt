use Rattle.std.proofs.Common.{List, ℕ, subst, sym}
use Rattle.bac_value_text.specs.DataTexts.{IsDataText}
use Rattle.bac_service_text.proofs.Appending.{and_then, text_of}
use Rattle.bac_service_text.proofs.members.print_values_by_kind.Goals as goal

pub returns : goal.returns
returns g c =
    let text : IsDataText c.args.values.octets.now c.as_slice.result.now =
    subst (λ (t : List ℕ). IsDataText c.args.values.octets.now t) (sym c.as_slice.ensures.value) c.in-Ok.ensures in
    and_then _ _ _ _ _ _ c.in_ok-write_all.ensures.bytes (text_of _ _ _ _ _ text c.write_all-2.ensures.bytes)
