-- An invoke ID was found from the first one on, or from 0 on.
use Rattle.bac_npdu.specs.Views.{peer_view}
use Rattle.bac_transaction.specs.Ends.{is_id_held}
use Rattle.bac_transaction.specs.Views.{slots_view}
use Rattle.bac_requester.proofs.Accepting.{found_first, found_around}
use Rattle.bac_requester.proofs.asking.free_id.Goals as goal

pub returns-in-Some : goal.returns-in-Some
returns-in-Some g c =
    found_first (is_id_held c.args.now (slots_view (g.S.SlotTable.slots c.args.table.now)) (peer_view c.args.peer.now)) c.args.first_id
    c.least_id_from.result c.in-Some.invoke_id c.least_id_from.ensures c.in-Some.is

pub returns-in-None : goal.returns-in-None
returns-in-None g c =
    found_around (is_id_held c.args.now (slots_view (g.S.SlotTable.slots c.args.table.now)) (peer_view c.args.peer.now)) c.args.first_id
    c.least_id_from.result c.least_id_from-in-None.result c.least_id_from.ensures c.in-None.is c.least_id_from-in-None.ensures
