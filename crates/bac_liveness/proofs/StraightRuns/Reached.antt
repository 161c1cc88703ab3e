-- The laws of worlds that a run of a fresh one led to.
use Rattle.std.specs.Option.{option_map}
use Rattle.std.proofs.Common.{◌≡◌, ℕ, false, List, length, Option, Some, None, slice_get, refl, sym, ap, subst, ◌∙◌}
use Rattle.bac_apdu.specs.Apdu.{Limits}
use Rattle.bac_service.specs.Values.{Request, choice_of}
use Rattle.bac_protocol.specs.Service.{Octets}
use Rattle.bac_protocol.specs.Transaction.{Rules}
use Rattle.bac_protocol.specs.Pace.{IsTimely}
use Rattle.bac_protocol.specs.World.{Net}
use Rattle.bac_protocol.specs.Claims as claims
use Rattle.bac_transaction.specs.Ends.{Accepted, is_id_held, waits_to_ask}
use Rattle.bac_transaction.proofs.ClientTables.{is_untaken, no_wait}
use Rattle.bac_world.specs.Node.{Node}
use Rattle.bac_world.specs.Once.{IsOnce}
use Rattle.bac_world.specs.World.{World, Event, WorldRun, IsFresh, IsBounded, IsAsked, link_at, stores_of, told, peer_at}
use Rattle.bac_world.proofs.NodeLaws.{stores_reply}
use Rattle.bac_world.proofs.Steps.{Over}
use Rattle.bac_world.proofs.Asking.{accepted_is}
use Rattle.bac_world.proofs.Headline.{rules_of, rules_bounded, fresh_over, run_over}
use Rattle.bac_liveness.specs.StraightRuns.{AreOf, CopiesAreItsOwn}
use Rattle.bac_liveness.specs.StraightAnswers.{StraightAnswers}
use Rattle.bac_liveness.specs.FreeIds.{HasNoneLive, FreeIdsAreUnused}
use Rattle.bac_liveness.proofs.FreeKeys as keys
use Rattle.bac_liveness.proofs.WorldEndings.{opened_net}
use Rattle.bac_liveness.proofs.StraightRuns.Answering as answering
use Rattle.bac_liveness.proofs.StraightRuns.Answering.{answered}

module _ (W overtake : ℕ) (first old : World) (fresh : IsFresh first) (timely : IsTimely first.time.pace) (bound : IsBounded W overtake first)
    (events : List Event)
    (run : WorldRun overtake first events old) where
  abbrev links : ℕ → Option Octets
  links = link_at first.nodes

  abbrev x : Rules
  x = rules_of overtake first

  bounded : claims.IsBounded W x
  bounded = rules_bounded W overtake first bound

  reached : (n : Net) × Over links fresh.apart W x None old n × IsOnce (stores_of first.nodes) old.log (stores_of old.nodes)
  reached = run_over links fresh.apart W x bounded refl (stores_of first.nodes) events first old
      (opened_net first) (fresh_over None W overtake first fresh timely bound)
      (subst (λ l. IsOnce (stores_of first.nodes) l (stores_of first.nodes)) (sym fresh.log) (λ node. refl)) run

  pub straight_answers : StraightAnswers overtake old
  straight_answers client server limits r ending count new straight b at can =
      let o = reached in
      let reply = stores_reply b.store r in
      answered links fresh.apart W x bounded refl (stores_of first.nodes) old o.0 o.1 o.2 client server limits r ending count new straight b at can
      reply.0 reply.1

  pub copies_own : CopiesAreItsOwn overtake old
  copies_own client server limits r ending count new straight = go (slice_get old.nodes server) refl
    where
      go : (o : Option Node) → slice_get old.nodes server ≡ o
          → AreOf (record { client = client; server = server; invoke_id = straight.asks.accepted.invoke_id }) (length old.copies) new.copies
      go None at =
          let e : None ≡ Some straight.asks.link = sym (ap (λ (o : Option Node). option_map (λ (m : Node). m.link) o) at) ∙ straight.asks.peer in
          absurd cc
      go (Some b) at =
          let o = reached in
          answering.copies_own links fresh.apart W x bounded refl (stores_of first.nodes) old o.0 o.1 o.2 client server limits r ending count new straight
          b at

  -- Free invoke IDs.

  unused : (i j : ℕ) (a b : Node) → slice_get old.nodes i ≡ Some a → slice_get old.nodes j ≡ Some b → (id : ℕ)
      → is_id_held (told old i) a.clients.slots (peer_at b.link) id ≡ false → waits_to_ask (told old i) a.clients ≡ false → HasNoneLive (told old j) b a id
  unused i j a b at there id free awake =
      keys.unused links fresh.apart W x None bounded old reached.0 reached.1 i j a b at there id free awake

  pub free_unused : FreeIdsAreUnused old
  free_unused = record {
    free = λ i j a b at there id free. unused i j a b at there id
        (is_untaken (told old i) a.clients (peer_at b.link) id free) (no_wait (told old i) a.clients (peer_at b.link) id free);
    asked = asked;
  }
    where
      asked : (i j : ℕ) (limits : Limits) (r : Request) (new : World) → (asks : IsAsked old i j limits r new)
          → (b : Node) → slice_get old.nodes j ≡ Some b → HasNoneLive (told old j) b asks.before asks.accepted.invoke_id
      asked i j limits r new asks b there =
          let link : asks.link ≡ b.link =
          let e : Some asks.link ≡ Some b.link = sym asks.peer ∙ ap (λ (o : Option Node). option_map (λ (m : Node). m.link) o) there in cc in
          let parts = accepted_is asks.before.settings (told old i) (peer_at asks.link) (choice_of r) asks.asks.octets asks.before.clients asks.accepted limits
          asks.asks.accepted in
          let id_is : asks.accepted.invoke_id ≡ parts.id = ap (λ (y : Accepted). y.invoke_id) parts.is in
          unused i j asks.before b asks.at there asks.accepted.invoke_id
          ((λ d. is_id_held (told old i) asks.before.clients.slots (peer_at (sym link d)) (id_is d)) ∙ parts.free) parts.awake
