-- The plain value of the state of charts of pairs.
use Rattle.std.specs.Prelude.{map}
use Rattle.bac_npdu.specs.Views.{peer_view}
use Rattle.bac_explain_report.specs.Pairs as plain
use Rattle.bac_explain_report.specs.SketchViews.{sketch_view}
use Rattle.bac_explain_report.specs.declared.pair.Pair.{Pair}
use Rattle.bac_explain_report.specs.declared.pair_sketch.PairSketch.{PairSketch}
use Rattle.bac_explain_report.specs.declared.pair_sketch.Row.{Row}

abbrev pub pair_view : Pair → plain.Pair
pair_view p = record { client = peer_view p.client; server = peer_view p.server }

abbrev pub row_view : Row → plain.Row
row_view r = record { place = r.place; text = r.text.items }

abbrev pub pairs_view : PairSketch → plain.Pairs
pairs_view k = record { sketch = sketch_view k.sketch; pairs = map pair_view k.pairs.items; rows = map row_view k.rows.items }
