-- What stands for the octets so far, and then for the others.
use Rattle.std.proofs.Common.{◌≡◌, ◌++◌, drop}
use Rattle.bac_explain_html.specs.Escapes.{escaped}
use Rattle.bac_explain_html.proofs.escape.escaped.Given as goal

abbrev pub invariant-loop-octet : goal.invariant-loop-octet
invariant-loop-octet l = l.shown.items ++ escaped (drop l.octet-index l.text) ≡ escaped l.text
