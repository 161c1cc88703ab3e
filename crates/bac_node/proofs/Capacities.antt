-- Each call of a node leaves its tables as many slots as they had.
use Rattle.std.proofs.Common.{◌≡◌, ℕ, Bool, true, false, Option, Some, None, refl, sym, ap, subst, inl, inr}
use Rattle.bac_apdu.specs.Apdu.{Apdu, Limits}
use Rattle.bac_npdu.specs.Peers.{PeerView}
use Rattle.bac_service.specs.Values.{Request, choice_of}
use Rattle.bac_service.specs.Services.{reads_reply}
use Rattle.bac_protocol.specs.Context.{Settings}
use Rattle.bac_protocol.specs.Service.{Octets}
use Rattle.bac_protocol.specs.Wire.{is_from_client}
use Rattle.bac_slots.specs.Slots.{value_at}
use Rattle.bac_transaction.specs.Keys.{PeerKey, same_key}
use Rattle.bac_transaction.specs.Ends.{Accepted, Client, ClientEnd, TransactionSlot, requester_on_apdu_at, requester_on_apdu_in_slot, key_of}
use Rattle.bac_requester.specs.declared.asking.Asked.{Asked}
use Rattle.bac_world.specs.Node.{Node, Outcome, IsHeardBy, NodeOn}
use Rattle.bac_world.proofs.Asking.{accepted_is}
use Rattle.bac_node.specs.Calls.{IsAsked}
use Rattle.bac_node.specs.Capacities.{CapacitiesStay, HasSameCapacities}
use Rattle.bac_node.specs.Serving.{IsHeardSoBy, NodeServes}
use Rattle.bac_transaction.specs.Sharing.{EndRules}

module _ (c : Settings) (now : ℕ) (a : Apdu) (e : ClientEnd) (key : PeerKey) where
  held_stays : (number : ℕ) (held : TransactionSlot) → (requester_on_apdu_in_slot c reads_reply now a e key number held).end.capacity ≡ e.capacity
  held_stays number (TransactionSlot.Closed first) = refl
  held_stays number (TransactionSlot.Open t) = refl

  hears_stays : (o : Option Client) → (requester_on_apdu_at c reads_reply now a e key o).end.capacity ≡ e.capacity
  hears_stays None = refl
  hears_stays (Some s) = held_stays s.number s.held

heard_stays : (now : ℕ) (peer : PeerView) (a : Apdu) (old new : Node) (o : Outcome) (up : Bool) → IsHeardBy up peer a now old new o
    → HasSameCapacities old new
heard_stays now peer a old new o true turn = subst (HasSameCapacities old) (sym turn.node) (record { clients = refl; servers = refl })
heard_stays now peer a old new o false turn = subst (HasSameCapacities old) (sym turn.node) (record {
  clients = hears_stays old.settings now a old.clients (key_of peer a) (value_at same_key (key_of peer a) old.clients.slots);
  servers = refl;
})

heard_so_stays : (rules : EndRules) (away : Bool) (now : ℕ) (peer : PeerView) (a : Apdu) (old new : Node) (o : Outcome) (up : Bool)
    → IsHeardSoBy rules away up peer a now old new o → HasSameCapacities old new
heard_so_stays rules away now peer a old new o true served = subst (HasSameCapacities old) (sym served.turn.node) (record { clients = refl; servers = refl })
heard_so_stays rules away now peer a old new o false turn = heard_stays now peer a old new o false turn.0

asks_stays : (now : ℕ) (peer : PeerView) (limits : Limits) (r : Request) (old new : Node) (x : Asked) → IsAsked now peer limits r old new x
    → HasSameCapacities old new
asks_stays now peer limits r old new x step =
    let parts = accepted_is old.settings now peer (choice_of r) step.asks.octets old.clients step.accepted limits step.asks.accepted in
    subst (HasSameCapacities old) (sym step.asks.node) (record { clients = ap (λ (y : Accepted). y.end.capacity) parts.is; servers = refl })

pub capacities_stay : CapacitiesStay
capacities_stay = record {
  on = on;
  hear = hear;
  tick = λ now old new o step. subst (HasSameCapacities old) (sym step.node) (record { clients = refl; servers = refl });
  commit_tick = λ now node. record { clients = refl; servers = refl };
  ask = asks_stays;
}
  where
    on : (now : ℕ) (from octets : Octets) (old new : Node) (o : Outcome) → NodeOn now from octets old new o → HasSameCapacities old new
    on now from octets old new o (inl d) = subst (HasSameCapacities old) (sym d.node) (record { clients = refl; servers = refl })
    on now from octets old new o (inr z) = heard_stays now z.peer z.apdu old new o (is_from_client z.apdu) z.heard

    hear : (rules : EndRules) (away : Bool) (now : ℕ) (from octets : Octets) (old new : Node) (o : Outcome) → NodeServes rules away now from octets old new o
        → HasSameCapacities old new
    hear rules away now from octets old new o (inl d) = subst (HasSameCapacities old) (sym d.0.node) (record { clients = refl; servers = refl })
    hear rules away now from octets old new o (inr z) = heard_so_stays rules away now z.peer z.apdu old new o (is_from_client z.apdu) z.heard
