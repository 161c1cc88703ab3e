use Rattle.std.proofs.Common.{List, ℕ, ◌++◌, length, map}
use Rattle.bac_point_text.specs.ListAlone.{AreAlone}
use Rattle.bac_point_text.specs.Views.{maybe_names}
use Rattle.bac_point_text.proofs.list_alone.texts_alone.Given as goal

-- together with the texts of the remaining elements, these are the texts of all
abbrev pub invariant-loop-element : goal.invariant-loop-element
invariant-loop-element l = (more : List (List ℕ)) → AreAlone (maybe_names l.names) more l.rest.octets.now
    → AreAlone (maybe_names l.names) (map (λ t. t.items) l.texts.items ++ more) l.fn.values.octets.now

abbrev pub decreases-loop-element : goal.decreases-loop-element
decreases-loop-element l = length l.rest.octets.now
