-- When a node rests, so that its link waits; and turns at whose tick nothing is due.
use Rattle.std.proofs.Common.{◌≡◌, ℕ, false, [], ◌++◌, filter, length, map, take, slice_get, Option, Some, None, Ok, refl, sym, ap, subst, ◌∙◌, arith}
use Rattle.std.proofs.Math.Seq.{take-length}
use Rattle.bac_protocol.specs.Service.{Octets}
use Rattle.bac_slots.specs.Slots.{EachSlot, in_order}
use Rattle.bac_requester.specs.Timers.{IsHeldQuiet}
use Rattle.bac_requester.proofs.Waiting.{clients_rest}
use Rattle.bac_transaction.specs.Ends.{ServerEnd, from_each, is_slot_live, requester_tick, responder_tick, server_tick_sends, server_ticked}
use Rattle.bac_transaction.specs.Keys.{peer_key_cmp}
use Rattle.bac_transaction.specs.Meanings.{IsEndedView}
use Rattle.bac_transaction.specs.Sends.{IsSent, Pairwise}
use Rattle.bac_protocol.specs.Context.{Settings}
use Rattle.bac_world.specs.Node.{Node, NodeOn, NodeTick, Outcome}
use Rattle.bac_world.specs.ReusingWorlds.{AreLoggedSo}
use Rattle.bac_world.specs.World.{Hears, World, with_act}
use Rattle.bac_world.proofs.Pairs.{append_none, pairwise_none}
use Rattle.bac_node.specs.Memory.{IsWithin}
use Rattle.bac_node.specs.Serving.{NodeHearsBy}
use Rattle.bac_node.proofs.Rules.{hears_as_in_worlds}
use Rattle.bac_transaction.specs.Views.{rules_view}
use Rattle.bac_node.specs.Waiting.{RestsUntil}
use Rattle.bac_driver.specs.BoundNodes.{BoundNode}
use Rattle.bac_driver.specs.Calls.{received, with_call}
use Rattle.bac_driver.specs.Turns.{Receives, Turn, call_of, with_calls}
use Rattle.bac_driver.specs.Waits.{AT_ONCE, IsDue, IsWait, wait_until}
use Rattle.bac_plant.specs.Network.{HandsOver, IsOfStation}
use Rattle.bac_plant.specs.Network.Source.{Nowhere, Station}
use Rattle.bac_plant.specs.Plants.{IsSetTo, Plant, nodes_of, shows, world_of}
use Rattle.bac_plant.specs.Steps.{HappensAt, HoldsSomeTurn, HoldsTurnAt, IsSomeTurn, TakesTurnAt, with_station}
use Rattle.bac_plant.proofs.Turned.{copied_join, node_at, one_there}

-- a tick leaves a table without entries as it is
server_rests : (c : Settings) (now : ℕ) (e : ServerEnd) → e.slots ≡ [] → (responder_tick c now e).end ≡ e
server_rests c now e none = ap (λ l. record e { slots = filter (is_slot_live now) (map (server_ticked c now) l) }) none ∙ ap (λ l. record e { slots = l }) (sym none)

server_silent : (c : Settings) (now : ℕ) (e : ServerEnd) → e.slots ≡ [] → (responder_tick c now e).sends ≡ []
server_silent c now e none = ap (λ l. from_each (server_tick_sends c now) (in_order peer_key_cmp l)) none

-- a node without entries rests until then, where its transactions do
pub rests_until : (due : ℕ) (n : Node) → n.servers.slots ≡ [] → EachSlot (λ s. IsHeldQuiet due s.value.held) n.clients.slots → RestsUntil due n
rests_until due n none quiet now new o timely before t = record {
  node = t.node ∙ ap (λ y. record n { latest = now; clients = y.end; servers = (responder_tick n.settings now n.servers).end }) clients
      ∙ ap (λ e. record n { latest = now; servers = e }) (server_rests n.settings now n.servers none);
  sends = pairwise_none IsSent o.sends (subst (λ l. Pairwise IsSent l o.sends) none_sent t.sends);
  ended = pairwise_none IsEndedView o.ended (subst (λ y. Pairwise IsEndedView y.ended o.ended) clients t.ended);
}
  where
    clients : requester_tick n.settings now n.clients ≡ record { end = n.clients; sends = []; ended = [] }
    clients = clients_rest n.settings now due before n.clients quiet

    none_sent : (requester_tick n.settings now n.clients).sends ++ (responder_tick n.settings now n.servers).sends ≡ []
    none_sent = ap (λ y. y.sends ++ (responder_tick n.settings now n.servers).sends) clients ∙ server_silent n.settings now n.servers none

-- a link that need not wait does not
waits_not : (now : ℕ) (n : Node) (due : Option ℕ) → IsDue n due → IsWait AT_ONCE now n 0
waits_not now n due is = record { due = due; is_due = is; is = go due }
  where
    go : (due : Option ℕ) → 0 ≡ wait_until 0 now due
    go None = refl
    go (Some moment) = omega arith

-- a tick at which nothing is sent or ended
pub record IsCalm (now : ℕ) (n : Node) : Type 0 where
  pub sends : (requester_tick n.settings now n.clients).sends ++ (responder_tick n.settings now n.servers).sends ≡ []
  pub ended : (requester_tick n.settings now n.clients).ended ≡ []

abbrev pub QUIET : Outcome
QUIET = record { sends = []; performed = None; ended = []; dropped = None }

abbrev pub ticked : ℕ → Node → Node
ticked now n =
    record n {
      latest = now;
      clients = (requester_tick n.settings now n.clients).end;
      servers = (responder_tick n.settings now n.servers).end;
    }

ticks : (now : ℕ) (n : Node) → IsCalm now n → NodeTick now n (ticked now n) QUIET
ticks now n calm = record {
  node = refl;
  sends = subst (λ l. Pairwise IsSent l []) (sym calm.sends) tt;
  ended = subst (λ l. Pairwise IsEndedView l []) (sym calm.ended) tt;
  performed = refl;
  dropped = refl;
}

-- A turn by a datagram, and one by none.

abbrev pub turn_by : ℕ → (from octets : Octets) → Outcome → Turn
turn_by now from octets o = record { at = now; received = Some (from, length octets); heard = Some o; ticked = Some QUIET; lost = 0 }

-- the station once that has come
abbrev came : BoundNode → (from octets : Octets) → BoundNode
came b from octets = record b { calls = with_call b.calls (received 0 octets (Ok (Some (from, length octets)))); buffer = octets }

-- after a turn, and after one whose sends are held
abbrev pub after_turn : ℕ → BoundNode → (from octets : Octets) → Node → Outcome → BoundNode
after_turn now b from octets n o =
    record {
      node = ticked now n;
      failures = b.failures;
      calls = with_calls (with_call b.calls (received 0 octets (Ok (Some (from, length octets))))) (map call_of (o.sends ++ []));
      buffer = octets;
      rules = b.rules;
    }

abbrev pub after_held : ℕ → BoundNode → (from octets : Octets) → Node → BoundNode
after_held now b from octets n = record (came b from octets) { node = ticked now n }

receives_it : (now : ℕ) (b : BoundNode) (due : Option ℕ) → IsDue b.node due → (from octets : Octets)
    → Receives AT_ONCE now b (Some (from, length octets)) (came b from octets)
receives_it now b due is from octets =
    record { within = omega arith; wait = 0; waits = waits_not now b.node due is; told = refl; count = refl; node = refl; rules = refl }

hears_it : (now : ℕ) (b : BoundNode) → IsSetTo false b → (from octets : Octets) (n : Node) (o : Outcome) → NodeOn now from octets b.node n o
    → NodeHearsBy (rules_view b.rules) now from (take (length octets) octets) b.node n o
hears_it now b off from octets n o on =
    (hears_as_in_worlds false (rules_view b.rules) off now from (take (length octets) octets) b.node n o).1
    (subst (λ os. NodeOn now from os b.node n o) (sym (take-length octets)) on)

-- no bound on memory is kept by everything
unbounded : (memory : Option ℕ) (old new : Node) → memory ≡ None → IsWithin memory old new
unbounded memory old new free = subst (λ (m : Option ℕ). IsWithin m old new) (sym free) tt

takes_turn : (now : ℕ) (b : BoundNode) → IsSetTo false b → b.rules.memory ≡ None → (due : Option ℕ) → IsDue b.node due → (from octets : Octets) (n : Node) (o : Outcome)
    → NodeOn now from octets b.node n o → IsCalm now n → IsSomeTurn now b (turn_by now from octets o) (after_turn now b from octets n o)
takes_turn now b off free due is from octets n o on calm = record {
  limit = AT_ONCE;
  began = now;
  is = record {
    middle = came b from octets;
    receives = receives_it now b due is from octets;
    acts = record {
      at = refl;
      middle = n;
      hears = hears_it now b off from octets n o on;
      within = unbounded b.rules.memory b.node n free;
      ticks = ticks now n calm;
      carried = record { order = refl; count = refl; most = omega arith };
      buffer = refl;
      rules = refl;
    };
  };
}

holds_turn : (now : ℕ) (b : BoundNode) → IsSetTo false b → b.rules.memory ≡ None → (due : Option ℕ) → IsDue b.node due → (from octets : Octets) (n : Node) (o : Outcome)
    → NodeOn now from octets b.node n o → IsCalm now n → HoldsSomeTurn now b (turn_by now from octets o) (after_held now b from octets n)
holds_turn now b off free due is from octets n o on calm = record {
  limit = AT_ONCE;
  began = now;
  middle = came b from octets;
  receives = receives_it now b due is from octets;
  takes = record {
    at = refl;
    middle = n;
    hears = hears_it now b off from octets n o on;
    within = unbounded b.rules.memory b.node n free;
    ticks = ticks now n calm;
    lost = refl;
    calls = refl;
    failures = refl;
    buffer = refl;
    rules = refl;
  };
}

abbrev pub turn_by_none : ℕ → Turn
turn_by_none now = record { at = now; received = None; heard = None; ticked = Some QUIET; lost = 0 }

abbrev pub after_none : ℕ → BoundNode → BoundNode
after_none now b = record b { node = ticked now b.node; calls = with_calls (with_call b.calls (received 0 b.buffer (Ok None))) [] }

pub takes_none : (now : ℕ) (b : BoundNode) → b.rules.memory ≡ None → (due : Option ℕ) → IsDue b.node due → IsCalm now b.node → IsSomeTurn now b (turn_by_none now) (after_none now b)
takes_none now b free due is calm = record {
  limit = AT_ONCE;
  began = now;
  is = record {
    middle = record b { calls = with_call b.calls (received 0 b.buffer (Ok None)) };
    receives = record { within = tt; wait = 0; waits = waits_not now b.node due is; told = refl; count = refl; node = refl; rules = refl };
    acts = record {
      at = refl;
      middle = b.node;
      hears = (refl, refl);
      within = unbounded b.rules.memory b.node b.node free;
      ticks = ticks now b.node calm;
      carried = record { order = refl; count = refl; most = omega arith };
      buffer = refl;
      rules = refl;
    };
  };
}

-- The steps.

abbrev pub next_plant : Plant → ℕ → BoundNode → World → Plant
next_plant p i b w = record (with_station p i b) { lives = with_act (with_act p.lives i) i; copies = w.copies; log = w.log }

-- what a node hears in the world is a turn of its station
module _ (overtake : ℕ) (old : Plant) (i : ℕ) (b : BoundNode) (at : slice_get old.stations i ≡ Some b) (off : IsSetTo false b)
    (free : b.rules.memory ≡ None) (due : Option ℕ) (is : IsDue b.node due) where
  module _ (number : ℕ) (from octets : Octets) (comes : IsOfStation overtake old i number from octets) (w : World) (h : Hears (world_of old) i from octets w)
      (n : Node) (same : h.after ≡ n) (calm : IsCalm (shows old i) n) where
    was : h.before ≡ b.node
    was = one_there (slice_get (nodes_of old.stations) i) h.before b.node h.at (node_at old.stations i b at)

    on : NodeOn (shows old i) from octets b.node n h.outcome
    on = subst (λ x. NodeOn (shows old i) from octets x n h.outcome) was (subst (λ y. NodeOn (shows old i) from octets h.before y h.outcome) same h.on)

    -- what happens to the plant, whatever became of the link
    happens : (after : BoundNode) → after.buffer ≡ octets
        → HappensAt false overtake old i (Station number) (turn_by (shows old i) from octets h.outcome) n after (next_plant old i after w)
    happens after buffer = record {
      comes = subst (λ os. IsOfStation overtake old i number from os) (sym (ap (take (length octets)) buffer ∙ take-length octets)) comes;
      sent = h.acts.sent ++ [];
      copied = copied_join (nodes_of old.stations) old.time.now i h.outcome.sends [] h.acts.sent [] h.acts.copied refl;
      log = w.log;
      entered = record {
        ended = h.acts.between;
        performed = w.log;
        ends = h.acts.ended;
        performs = subst (λ x. AreLoggedSo false (nodes_of old.stations) old.notes i x h.outcome.performed h.acts.between w.log) same h.acts.logged;
        gives_up = refl;
      };
      is = ap (λ l. record (with_station old i after) { lives = with_act (with_act old.lives i) i; copies = l; log = w.log })
          (h.acts.copies ∙ ap (λ l. old.copies ++ l) (sym (append_none h.acts.sent)));
    }

    pub hearing_step : TakesTurnAt overtake old i (Station number) (turn_by (shows old i) from octets h.outcome)
        (next_plant old i (after_turn (shows old i) b from octets n h.outcome) w)
    unfolding takes_turn
    hearing_step = record {
      before = b;
      at = at;
      after = after_turn (shows old i) b from octets n h.outcome;
      takes = takes_turn (shows old i) b off free due is from octets n h.outcome on calm;
      reuse = false;
      set = off;
      happens = happens (after_turn (shows old i) b from octets n h.outcome) refl;
    }

    pub holds_now : HoldsSomeTurn (shows old i) b (turn_by (shows old i) from octets h.outcome) (after_held (shows old i) b from octets n)
    holds_now = holds_turn (shows old i) b off free due is from octets n h.outcome on calm

    pub comes_now : HandsOver overtake old i (Station number) (Some (from, length octets)) octets
    comes_now = subst (λ os. IsOfStation overtake old i number from os) (sym (take-length octets)) comes

    pub holding_step : HoldsTurnAt overtake old i (Station number) (turn_by (shows old i) from octets h.outcome)
        (next_plant old i (after_held (shows old i) b from octets n) w)
    unfolding holds_turn holds_now
    holding_step = record {
      before = b;
      at = at;
      after = after_held (shows old i) b from octets n;
      holds = holds_now;
      reuse = false;
      set = off;
      happens = happens (after_held (shows old i) b from octets n) refl;
    }

  pub idle_step : IsCalm (shows old i) b.node
      → TakesTurnAt overtake old i Nowhere (turn_by_none (shows old i)) (record (with_station old i (after_none (shows old i) b)) { lives = with_act old.lives i })
  unfolding takes_none
  idle_step calm = record {
    before = b;
    at = at;
    after = after_none (shows old i) b;
    takes = takes_none (shows old i) b free due is calm;
    reuse = false;
    set = off;
    happens = record {
      comes = refl;
      sent = [];
      copied = refl;
      log = old.log;
      entered = record {
        ended = old.log;
        performed = old.log;
        ends = refl;
        performs = refl;
        gives_up = refl;
      };
      is = ap (λ l. record (with_station old i (after_none (shows old i) b)) { lives = with_act old.lives i; copies = l }) (sym (append_none old.copies));
    };
  }
