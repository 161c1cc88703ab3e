use Rattle.std.proofs.Common.{List, ℕ, ◌++◌, length, map}
use Rattle.bac_value_text.specs.DataTexts.{AreElementTexts}
use Rattle.bac_value_text.proofs.data_printing.element_texts.Given as goal

-- together with the texts of the remaining elements, these are the texts of all
abbrev pub invariant-loop-element : goal.invariant-loop-element
invariant-loop-element l = (more : List (List ℕ)) → AreElementTexts more l.rest.octets.now
    → AreElementTexts (map (λ t. t.items) l.texts.items ++ more) l.fn.values.octets.now

abbrev pub decreases-loop-element : goal.decreases-loop-element
decreases-loop-element l = length l.rest.octets.now
