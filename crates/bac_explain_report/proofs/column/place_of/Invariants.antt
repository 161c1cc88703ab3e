-- None of the peers before this one is it.
use Rattle.std.proofs.Common.{◌≡◌, ◌+◌, drop, map}
use Rattle.bac_npdu.specs.Views.{peer_view}
use Rattle.bac_explain_report.specs.Columns.{place_of}
use Rattle.bac_explain_report.proofs.column.place_of.Given as goal

abbrev pub invariant-loop-place : goal.invariant-loop-place
invariant-loop-place l =
    place_of (peer_view l.peer) (map peer_view l.peers) ≡ l.place + place_of (peer_view l.peer) (map peer_view (drop l.place l.peers))
