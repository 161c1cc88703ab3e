-- The properties so far, each within the states.
use Rattle.std.proofs.Common.{◌≡◌, map}
use Rattle.bac_store.specs.Views.{property_view}
use Rattle.bac_objects.specs.States.{with_states}
use Rattle.bac_objects.proofs.states.each_with_states.Given as goal

abbrev pub invariant-loop-property : goal.invariant-loop-property
invariant-loop-property l = map property_view l.limited.items ≡ map (with_states l.fn.states) (map property_view l.yielded)
