use Rattle.std.proofs.Common.{◌≡◌, take}
use Rattle.bac_value_text.specs.Texts.{all_bits}
use Rattle.bac_value_text.proofs.body_printing.all_bits.Given as goal

abbrev pub invariant-loop-octet : goal.invariant-loop-octet
invariant-loop-octet l = l.text.items ≡ all_bits (take l.octet-index l.octets)
