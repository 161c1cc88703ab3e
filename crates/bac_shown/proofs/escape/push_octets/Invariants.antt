use Rattle.std.proofs.Common.{◌≡◌, ◌++◌, take, flat_map}
use Rattle.bac_shown.specs.Escapes.{octet_text}
use Rattle.bac_shown.proofs.escape.push_octets.Given as goal

abbrev pub invariant-loop-octet : goal.invariant-loop-octet
invariant-loop-octet l = l.text.items ≡ l.initial.text.items ++ flat_map (octet_text l.form) (take l.octet-index l.octets)
