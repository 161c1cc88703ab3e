-- The entry of the key says it.
use Rattle.std.proofs.Common.{Some, sym, ap, ◌∙◌}
use Rattle.std.specs.Option.{option_map}
use Rattle.bac_slots.specs.Slots.{value_at}
use Rattle.bac_protocol.specs.Server.{ServerTransaction}
use Rattle.bac_transaction.specs.Ends.{ServerEnd}
use Rattle.bac_transaction.specs.Keys.{same_key}
use Rattle.bac_transaction.specs.Views.{peer_key_view}
use Rattle.bac_transaction.proofs.Keyed.{value_viewed}
use Rattle.bac_responder.proofs.responder.Responder.begin_of.Goals as goal

pub returns-in-Some : goal.returns-in-Some
returns-in-Some g c =
    let slots = g.S.SlotTable.slots c.self.inside.aged.table in
    ap Some c.begin.ensures
    ∙ sym (ap (option_map (λ (e : ServerTransaction). e.begin)) (sym (value_viewed ServerTransaction c.args.key.now slots) ∙ c.in-Some.ensures))
    ∙ ap (λ (v : ServerEnd). option_map (λ (e : ServerTransaction). e.begin) (value_at same_key (peer_key_view c.args.key.now) v.slots)) c.self.view_is

pub returns-in-None : goal.returns-in-None
returns-in-None g c =
    let slots = g.S.SlotTable.slots c.self.inside.aged.table in
    sym (ap (option_map (λ (e : ServerTransaction). e.begin)) (sym (value_viewed ServerTransaction c.args.key.now slots) ∙ c.in-None.ensures))
    ∙ ap (λ (v : ServerEnd). option_map (λ (e : ServerTransaction). e.begin) (value_at same_key (peer_key_view c.args.key.now) v.slots)) c.self.view_is
