use Rattle.std.proofs.Common.{◌≡◌, map}
use Rattle.bac_store.specs.Views.{entry_view, object_view}
use Rattle.bac_store.proofs.making.entries_made.Given as goal

abbrev pub invariant-loop-object : goal.invariant-loop-object
invariant-loop-object l = map entry_view l.entries.items ≡ map object_view l.yielded
