use Rattle.bac_capture.specs.BlockViews.{frame_view}
use Rattle.bac_json_report.proofs.Checked.{frame_seen}
use Rattle.bac_json_report.proofs.check.FileCheckFileReport.visit_frame.Goals as goal

pub returns : goal.returns
returns g c = frame_seen _ c.args.ports.also (frame_view c.args.frame) c.judge.result _ _ _ _ c.judge.ensures c.see.ensures
