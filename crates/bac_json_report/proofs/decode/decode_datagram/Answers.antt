use Rattle.bac_json_report.proofs.Printed.{flushed}
use Rattle.bac_json_report.proofs.decode.decode_datagram.Goals as goal

pub returns : goal.returns
returns g c = rw c.shown_status.ensures (flushed _ _ _ _ _ c.in_ok-fine.ensures c.in_ok-flush.ensures.bytes)
