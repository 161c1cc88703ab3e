-- What the entry of its key keeps more or less, all keep.
use Rattle.std.proofs.Common.{◌∙◌, ◌≤◌, ℕ, List, ap, sym, subst}
use Rattle.std.specs.Prelude.{IfSome}
use Rattle.std.specs.Option.{option_map}
use Rattle.bac_apdu.specs.Views.{apdu_view}
use Rattle.bac_npdu.specs.Views.{peer_view}
use Rattle.bac_slots.specs.declared.slot.Slot.{Slot}
use Rattle.bac_slots.specs.Slots.{value_at}
use Rattle.bac_protocol.specs.Server.{ServerTransaction}
use Rattle.bac_transaction.specs.Keys as keys
use Rattle.bac_transaction.specs.Views.{code_same_key, rules_view, settings_view, slots_view}
use Rattle.bac_transaction.specs.declared.peer_key.PeerKey.{PeerKey}
use Rattle.bac_responder.specs.Kept.{holds_another, kept_octets, most_of_one, octets_of}
use Rattle.bac_responder.proofs.KeptWithin.{on_moved, on_needs, on_within}
use Rattle.bac_responder.proofs.Sweeps.{same_end}
use Rattle.bac_responder.proofs.responder.Responder.on.Goals as goal

pub invariant_of-self-2 : goal.invariant_of-self-2
invariant_of-self-2 g c =
    let key : PeerKey = record { peer = c.args.peer.now; invoke_id = c.invoke_id_of.result } in
    let old : List (Slot PeerKey ServerTransaction) = g.S.SlotTable.slots c.seek.new.aged.table in
    let new : List (Slot PeerKey ServerTransaction) = g.S.SlotTable.slots c.on_apdu.new.aged.table in
    let kept = subst (λ (l : List (Slot PeerKey ServerTransaction)). IfSome c.self.inside.kept (λ k. kept_octets (slots_view l) ≤ k))
    (sym c.seek.ensures.slots) c.self.invariant.1 in (
      c.on_apdu.ensures.aged,
      c.moved-self-inside.ensures (kept_octets (slots_view old)) (kept_octets (slots_view new)) (octets_of (value_at code_same_key key old))
          (octets_of (value_at code_same_key key new)) kept c.key_octets-before.ensures c.key_octets.ensures
          (on_moved (rules_view c.args.serving.now.rules) (settings_view c.args.serving.now.settings) c.args.now c.args.store.now key (apdu_view c.args.apdu.now) old new
          (g.S.SlotTable.capacity c.seek.new.aged.table) (g.S.SlotTable.capacity c.on_apdu.new.aged.table) c.self.inside.restart
          c.len-entries.ensures.distinct c.in_ok-served.served c.on_apdu.new.store c.in_ok-served.ensures.hears),
    )

pub returns-clause-within : goal.returns-clause-within
returns-clause-within g c =
    let key : PeerKey = record { peer = c.args.peer.now; invoke_id = c.invoke_id_of.result } in
    let of : ℕ → keys.PeerKey = λ n. record { peer = peer_view c.args.peer.now; invoke_id = n } in
    let same = same_end _ _ _ _ c.self.inside.restart c.seek.ensures.slots c.seek.ensures.same ∙ c.self.view_is ∙ c.has_room-room.ensures.same in
    on_within c.args.serving.now.rules.memory (rules_view c.args.serving.now.rules) c.args.now (peer_view c.args.peer.now) (apdu_view c.args.apdu.now)
    (g.S.SlotTable.slots c.seek.new.aged.table) (g.S.SlotTable.capacity c.seek.new.aged.table) c.self.inside.restart c.len-entries.ensures.distinct
    (settings_view c.args.serving.now.settings) c.args.store.now _ same c.has_room-room.result c.has_room-room.ensures.within _ (ap of c.invoke_id_of.ensures)
    c.in_ok-served.served _ c.on_apdu.new.store c.in_ok-served.ensures.hears c.in_ok-served.ensures.room

pub returns-clause-shared : goal.returns-clause-shared
returns-clause-shared g c =
    let of : ℕ → keys.PeerKey = λ n. record { peer = peer_view c.args.peer.now; invoke_id = n } in
    let same = same_end _ _ _ _ c.self.inside.restart c.seek.ensures.slots c.seek.ensures.same ∙ c.self.view_is ∙ c.has_room-room.ensures.same in
    λ shares another. on_within (option_map most_of_one c.args.serving.now.rules.memory) (rules_view c.args.serving.now.rules) c.args.now (peer_view c.args.peer.now)
    (apdu_view c.args.apdu.now) (g.S.SlotTable.slots c.seek.new.aged.table) (g.S.SlotTable.capacity c.seek.new.aged.table) c.self.inside.restart
    c.len-entries.ensures.distinct (settings_view c.args.serving.now.settings) c.args.store.now _ same c.has_room-room.result
    (λ room. c.has_room-room.ensures.shared room shares
    (ap (λ (k : keys.PeerKey). holds_another c.args.now k c.args.self.now) (ap of c.invoke_id_of.ensures) ∙ another)) _ (ap of c.invoke_id_of.ensures)
    c.in_ok-served.served _ c.on_apdu.new.store c.in_ok-served.ensures.hears c.in_ok-served.ensures.room

pub returns-clause-needless : goal.returns-clause-needless
returns-clause-needless g c =
    let of : ℕ → keys.PeerKey = λ n. record { peer = peer_view c.args.peer.now; invoke_id = n } in
    let same = same_end _ _ _ _ c.self.inside.restart c.seek.ensures.slots c.seek.ensures.same ∙ c.self.view_is ∙ c.has_room-room.ensures.same in
    on_needs c.args.serving.now.rules.memory (rules_view c.args.serving.now.rules) c.args.now (peer_view c.args.peer.now) (apdu_view c.args.apdu.now) _ _ same
    (settings_view c.args.serving.now.settings) c.args.store.now c.has_room-room.result c.has_room-room.ensures.needless c.has_room-room.ensures.bound _ (ap of c.invoke_id_of.ensures)
    c.in_ok-served.served c.in_ok-served.ensures.room
