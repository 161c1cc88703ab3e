use Rattle.std.proofs.Common.{◌≡◌, map, take}
use Rattle.bac_store.specs.Views.{entry_view}
use Rattle.bac_store.proofs.copying.copied.Given as goal

abbrev pub invariant-loop-entry : goal.invariant-loop-entry
invariant-loop-entry l = map entry_view l.copies.items ≡ map entry_view (take l.entry-index l.objects)
