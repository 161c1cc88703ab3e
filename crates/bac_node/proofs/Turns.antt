-- What a node's ends do, the node does.
use Rattle.std.proofs.Common.{◌≡◌, ℕ, Bool, List, [], ◌++◌, map, Option, Some, None, refl, ap, sym, subst, ◌∙◌}
use Rattle.std.specs.Option.{option_map}
use Rattle.bac_apdu.specs.Apdu.{Apdu}
use Rattle.bac_npdu.specs.Peers.{PeerView}
use Rattle.bac_store.specs.Stores.{Store}
use Rattle.bac_transaction.specs.Ends as ends
use Rattle.bac_transaction.specs.Ends.{ServerEnd, ServerTurn, key_of, requester_tick, responder_tick}
use Rattle.bac_transaction.specs.Serving.{responder_by}
use Rattle.bac_transaction.specs.Sharing.{EndRules}
use Rattle.bac_responder.specs.Hearing.{IsHeard}
use Rattle.bac_transaction.specs.Meanings.{EndedView, IsEndedView}
use Rattle.bac_transaction.specs.Sends.{Datagram, IsSent, Pairwise}
use Rattle.bac_transaction.specs.Services as server
use Rattle.bac_transaction.specs.Services.{service_of}
use Rattle.bac_requester.specs.Reactions as requester
use Rattle.bac_requester.specs.Views.{ended_view}
use Rattle.bac_requester.specs.declared.reaction.Reaction.{Reaction}
use Rattle.bac_responder.specs.Turns.{AreActed, IsServed, performed_by}
use Rattle.bac_responder.specs.Views.{acted_view}
use Rattle.bac_responder.specs.declared.served.Act.{Act}
use Rattle.bac_world.specs.Node.{Node, Outcome, IsServerTurn}
use Rattle.bac_world.specs.Services.{ArePerformed, store_after}
use Rattle.bac_world.proofs.Pairs.{pairwise_join}
use Rattle.bac_node.specs.Calls.{IsTickOfBoth}
use Rattle.bac_node.specs.Serving.{IsServedBy}
use Rattle.bac_node.specs.Views.{performed_view}

-- The server's end.

performed_so : (s : Store) (a : Option ends.Act) (x : Option Act) → AreActed s a (acted_view x) → ArePerformed s a (option_map performed_view x)
performed_so s None None h = tt
performed_so s None (Some x) h = absurd h
performed_so s (Some a) None h = absurd h
performed_so s (Some a) (Some x) h = record { key = h.key; what = h.performed }

store_so : (s : Store) (x : Option Act) → server.store_after s (performed_by (acted_view x)) ≡ store_after s (option_map performed_view x)
store_so s None = refl
store_so s (Some x) = refl

pub server_turned_by : (turn : ServerTurn) (now : ℕ) (old : Node) (v : ServerEnd) (t : Store) (sent : List Datagram) (x : Option Act) (o : Outcome)
    → IsServed turn old.store sent (acted_view x) v t
    → o.sends ≡ sent → o.ended ≡ [] → o.performed ≡ option_map performed_view x → o.dropped ≡ None
    → IsServerTurn turn now old (record old { latest = now; servers = v; store = t }) o
server_turned_by turn now old v t sent x o did sends ended performed dropped =
    let store : t ≡ store_after old.store o.performed = did.store ∙ store_so old.store x ∙ ap (store_after old.store) (sym performed) in
    record {
      node = ap (λ e. record old { latest = now; servers = e; store = t }) did.end
          ∙ ap (λ (z : Store). record old { latest = now; servers = turn.end; store = z }) store;
      sends = subst (λ (l : List Datagram). Pairwise IsSent turn.sends l) (sym sends) did.sends;
      ended = ended;
      performed = subst (λ p. ArePerformed old.store turn.act p) (sym performed) (performed_so old.store turn.act x did.act);
      dropped = dropped;
    }

pub server_turned_so : (rules : EndRules) (away : Bool) (now : ℕ) (old at : Node) (v : ServerEnd) (t : Store) (peer : PeerView) (a : Apdu) (sent : List Datagram)
    (x : Option Act) (o : Outcome) → at ≡ old
    → IsHeard rules at.settings now (key_of peer a) a at.servers at.store sent (acted_view x) away v t
    → o.sends ≡ sent → o.ended ≡ [] → o.performed ≡ option_map performed_view x → o.dropped ≡ None
    → IsServedBy rules away peer a now old (record at { latest = now; servers = v; store = t }) o
server_turned_so rules away now old at v t peer a sent x o same did sends ended performed dropped =
    subst (λ (n : Node). IsServedBy rules away peer a now n (record at { latest = now; servers = v; store = t }) o) same (record {
      turn = server_turned_by (responder_by rules at.settings now (service_of at.store) peer a at.servers) now at v t sent x o did.turn sends ended performed dropped;
      told = did.told;
    })

-- A tick.

pub both_joined : (now : ℕ) (n : Node) (x y : Reaction) (more : List Datagram) → requester.IsReaction (requester_tick n.settings now n.clients) x
    → Pairwise IsSent (responder_tick n.settings now n.servers).sends more
    → y.sends.items ≡ x.sends.items ++ more → map ended_view y.ended.items ≡ map ended_view x.ended.items → IsTickOfBoth now n y
both_joined now n x y more told server sends ended =
    record {
      sends = subst (λ (l : List Datagram). Pairwise IsSent ((requester_tick n.settings now n.clients).sends ++ (responder_tick n.settings now n.servers).sends) l)
          (sym sends) (pairwise_join IsSent _ _ _ _ told.sends server);
      ended = subst (λ (l : List EndedView). Pairwise IsEndedView (requester_tick n.settings now n.clients).ended l) (sym ended) told.ended;
    }
