-- The plain value of the state of a chart.
use Rattle.std.specs.Prelude.{map}
use Rattle.bac_npdu.specs.Views.{peer_view}
use Rattle.bac_explain_report.specs.CopyViews.{drawn_view}
use Rattle.bac_explain_report.specs.Sketches as plain
use Rattle.bac_explain_report.specs.declared.sketch.Sketch.{Sketch}

abbrev pub sketch_view : Sketch → plain.Sketch
sketch_view k = record {
  form = k.form;
  values = k.values;
  start = k.start;
  peers = map peer_view k.peers.items;
  drawn = map drawn_view k.drawn.items;
  frames = k.frames;
  is_whole = k.is_whole;
}
