use Rattle.std.proofs.Common.{◌≡◌, take}
use Rattle.bac_value_text.specs.Texts.{escaped}
use Rattle.bac_value_text.proofs.body_printing.escaped_text.Given as goal

abbrev pub invariant-loop-octet : goal.invariant-loop-octet
invariant-loop-octet l = l.text.items ≡ escaped (take l.octet-index l.octets)
