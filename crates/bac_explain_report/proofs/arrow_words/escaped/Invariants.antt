-- What stands for the octets so far, and then for the others.
use Rattle.std.proofs.Common.{◌≡◌, ◌++◌, drop}
use Rattle.bac_explain_report.specs.ArrowWords.{escaped}
use Rattle.bac_explain_report.proofs.arrow_words.escaped.Given as goal

abbrev pub invariant-loop-octet : goal.invariant-loop-octet
invariant-loop-octet l = l.shown.items ++ escaped (drop l.octet-index l.text) ≡ escaped l.text
