use Rattle.std.proofs.Common.{◌≡◌, take}
use Rattle.bac_point_text.specs.Alone.{line_text}
use Rattle.bac_point_text.proofs.alone.line_text.Given as goal

abbrev pub invariant-loop-octet : goal.invariant-loop-octet
invariant-loop-octet l = l.text.items ≡ line_text (take l.octet-index l.octets)
