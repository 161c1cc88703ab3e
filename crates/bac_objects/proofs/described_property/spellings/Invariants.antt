-- The values so far; the remaining ones are read after them.
use Rattle.std.proofs.Common.{◌≡◌, [], drop, map}
use Rattle.bac_store.specs.Views.{data_view}
use Rattle.toml.specs.View.{array_view, items_view}
use Rattle.bac_objects.specs.Described.{spellings_on}
use Rattle.bac_point_text.specs.Views.{maybe_names}
use Rattle.bac_objects.proofs.described_property.spellings.Given as goal

abbrev pub invariant-loop-value : goal.invariant-loop-value
invariant-loop-value l =
    spellings_on (maybe_names l.fn.names) l.fn.form [] (array_view l.list)
    ≡ spellings_on (maybe_names l.fn.names) l.fn.form (map data_view l.listed.items) (items_view (drop l.value-index l.list.items))
