-- The counts at the end.
use Rattle.std.specs.Prelude.{List, codes, map}
use Rattle.bac_explain_report.specs.Devices.{DeviceView}
use Rattle.bac_explain_report.specs.declared.tally.Tally.{Tally}
use Rattle.bac_json.specs.Forms.{optional_number}
use Rattle.bac_text.specs.Peers.{peer_text}
use Rattle.serde_json.specs.Data.{Data, array, member, no_members, number, object, string, unsigned}
use Rattle.serde_json.specs.View.{items_of}

-- the counts of a server
abbrev pub device_form : DeviceView → Data
device_form d =
    object (member (codes "aborted") (number (unsigned d.totals.aborted)) (member (codes "answered") (number (unsigned d.totals.answered))
    (member (codes "errors") (number (unsigned d.totals.errors)) (member (codes "rejected") (number (unsigned d.totals.rejected))
    (member (codes "server") (string (peer_text d.server)) (member (codes "slowest") (optional_number d.totals.slowest)
    (member (codes "transactions") (number (unsigned d.totals.transactions)) (member (codes "unanswered") (number (unsigned d.totals.unanswered))
    no_members))))))))

abbrev pub devices_form : List DeviceView → Data
devices_form devices = array (items_of (map device_form devices))

abbrev pub summary_form : Tally → List DeviceView → Data
summary_form t devices =
    object (member (codes "aborted") (number (unsigned t.totals.aborted)) (member (codes "answered") (number (unsigned t.totals.answered))
    (member (codes "devices") (devices_form devices) (member (codes "errors") (number (unsigned t.totals.errors))
    (member (codes "findings") (number (unsigned t.findings)) (member (codes "frames") (number (unsigned t.frames))
    (member (codes "kind") (string (codes "summary")) (member (codes "rejected") (number (unsigned t.totals.rejected))
    (member (codes "shown") (number (unsigned t.shown)) (member (codes "slowest") (optional_number t.totals.slowest)
    (member (codes "transactions") (number (unsigned t.totals.transactions)) (member (codes "unanswered") (number (unsigned t.totals.unanswered))
    (member (codes "unread") (number (unsigned t.unread)) no_members)))))))))))))
