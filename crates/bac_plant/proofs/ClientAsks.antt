-- What the first client does, and a restart of the station that it asks, are computed.
use Rattle.std.proofs.Common.{◌≡◌, ℕ, true, List, [], ◌∷◌, map, Some, None, slice_get, slice_set, refl, sym, ap, subst, ◌∙◌, inl, arith}
use Rattle.bac_pairs.specs.Pairs.{port_at}
use Rattle.bac_protocol.proofs.AtDrift.{lives}
use Rattle.bac_protocol.specs.Pace.{Pace, clock_at, most, one_clock}
use Rattle.bac_requester.specs.Timers.{LAST_MOMENT}
use Rattle.bac_transaction.specs.Given.{ANEW}
use Rattle.bac_world.specs.AnsweredRun.{LIMITS, SETTINGS, link, node}
use Rattle.bac_world.specs.Examples.{REQUEST}
use Rattle.bac_world.specs.Node.{NodeAsks, restarted}
use Rattle.bac_world.specs.Stretches.{with_settings}
use Rattle.bac_world.specs.World.{link_at, peer_at}
use Rattle.bac_world.proofs.Answered.{ACCEPTED, ASK, SERVICE_DATA, answered_run, apart, ask_fits, ask_short, datagram, sent, spelled}
use Rattle.bac_driver.specs.Asking.{IsBegun}
use Rattle.bac_driver.specs.BoundNodes.{BoundNode}
use Rattle.bac_driver.specs.Turns.{call_of, with_calls}
use Rattle.bac_driver.specs.Waits.{IsDue}
use Rattle.bac_plant.specs.Clients.{IsAskedEarly, StartsThere}
use Rattle.bac_plant.specs.Anew.{RestartsAnewAt}
use Rattle.bac_plant.specs.ClientsExample.{ClientAsks, EVER, HOSTS, LATER, ONE, PORT}
use Rattle.bac_plant.specs.Composed.{AreKept, CallsForTurn, CallsToAsk, IsStarted, StandsAt, again, back}
use Rattle.bac_plant.specs.Example.{OPENING, station}
use Rattle.bac_plant.specs.Moves.{AreRulesOf, IsReachedIn}
use Rattle.bac_plant.specs.Network.Source.{Nowhere}
use Rattle.bac_plant.specs.Plants.{Plant, RemembersInFull, nodes_of, shows}
use Rattle.bac_plant.specs.Steps.{AsksAt, IsSomeTurn, RestartsAt, StartsAgainAt, TakesTurnAt, question}
use Rattle.bac_plant.specs.Steps.Step.{Passes}
use Rattle.bac_plant.proofs.ClientsComputed.{keeps_time}
use Rattle.bac_plant.proofs.Resting.{IsCalm, after_none, rests_until, takes_none, turn_by_none}

-- ---- the stations that the calls name

-- the client as it starts, and after its ask
abbrev CLIENT : BoundNode
CLIENT = record (station 0) { node = again LATER 0 0 None (node 0) }

abbrev ASKED : BoundNode
ASKED = record CLIENT { node = record (CLIENT.node) { clients = ACCEPTED.end }; calls = with_calls (Some []) (map call_of (datagram (link 1) ASK ∷ [])) }

-- the server after its restart
abbrev SERVER : BoundNode
SERVER = record (station 1) { node = restarted 0 (node 1).store (node 1) }

-- the server after its turn, and after its start with other settings
abbrev TURNED : BoundNode
TURNED = after_none 0 SERVER

abbrev ANOTHER : BoundNode
ANOTHER = record TURNED { node = restarted 0 (node 1).store (with_settings SETTINGS TURNED.node); rules = ANEW }

asks : NodeAsks 0 (peer_at (link 1)) LIMITS REQUEST CLIENT.node ASKED.node ACCEPTED (datagram (link 1) ASK ∷ [])
asks = record {
  octets = SERVICE_DATA;
  spelled = spelled;
  foreign = λ e. apart (sym e);
  accepted = refl;
  node = refl;
  sent = (sent (link 1) ASK ask_fits ask_short, tt);
}

begun : IsBegun 0 (question (peer_at (link 1)) LIMITS REQUEST) CLIENT 0 ASKED
begun = record {
  accepted = ACCEPTED;
  sends = datagram (link 1) ASK ∷ [];
  asks = asks;
  ticket_is = refl;
  lost = 0;
  carried = record { order = refl; count = refl; most = omega arith };
  buffer = refl;
  rules = refl;
}

server_turns : IsSomeTurn 0 SERVER (turn_by_none 0) TURNED
server_turns = takes_none 0 SERVER refl None due calm
  where
    due : IsDue SERVER.node None
    due = record { rests = rests_until LAST_MOMENT SERVER.node refl tt; moves = tt }

    calm : IsCalm 0 SERVER.node
    calm = record { sends = refl; ended = refl }

another_turns : IsSomeTurn 0 ANOTHER (turn_by_none 0) (after_none 0 ANOTHER)
another_turns = takes_none 0 ANOTHER refl None due calm
  where
    due : IsDue ANOTHER.node None
    due = record { rests = rests_until LAST_MOMENT ANOTHER.node refl tt; moves = tt }

    calm : IsCalm 0 ANOTHER.node
    calm = record { sends = refl; ended = refl }

-- ---- the calls, each in whatever plant the ones before it led to

call_to_ask : (p : Plant) → StartsAgainAt LATER 0 0 0 None p → StandsAt p 0 CLIENT → CallsToAsk p 0 1 LIMITS REQUEST
call_to_ask p s stands =
    let same : shows p 0 ≡ 0 = ap (λ (q : Plant). shows q 0) s.is in
    record {
      before = CLIENT;
      at = stands;
      link = link 1;
      peer = ap (λ (q : Plant). link_at (nodes_of q.stations) 1) s.is;
      ticket = 0;
      after = ASKED;
      begun = subst (λ (now : ℕ). IsBegun now (question (peer_at (link 1)) LIMITS REQUEST) CLIENT 0 ASKED) (sym same) begun;
    }

-- a turn of the server in which nothing comes, at the moment 0 of its clock
call_for_turn : (p : Plant) (b : BoundNode) → StandsAt p 1 b → RemembersInFull b → shows p 1 ≡ 0 → IsSomeTurn 0 b (turn_by_none 0) (after_none 0 b)
    → CallsForTurn 253 p 1 Nowhere (turn_by_none 0)
call_for_turn p b stands full same turned = record {
  before = b;
  at = stands;
  full = full;
  after = after_none 0 b;
  turned = subst (λ (now : ℕ). IsSomeTurn now b (turn_by_none 0) (after_none 0 b)) (sym same) turned;
  came = refl;
}

zero_at : (p : Plant) → p.time.pace ≡ one_clock → (clock_at p.time.pace 0).shows ≡ 0
zero_at p paced = ap (λ (pace : Pace). (clock_at pace 0).shows) paced

module _ (p : Plant) (s : StartsAgainAt LATER 0 0 0 None p) (q : Plant) (a : AsksAt p 0 1 LIMITS REQUEST q) where
  same_pace : q.time.pace ≡ one_clock
  same_pace = ap (λ (r : Plant). r.time.pace) a.is ∙ ap (λ (r : Plant). r.time.pace) s.is

  server_there : slice_get q.stations 1 ≡ Some (station 1)
  server_there =
      ap (λ (r : Plant). slice_get r.stations 1) a.is
      ∙ ap (λ (l : List BoundNode). slice_get (slice_set l 0 a.after) 1) (ap (λ (r : Plant). r.stations) s.is)

  restart : IsStarted q 1 (back q 0 None) AreKept
  restart = record {
    before = station 1;
    at = server_there;
    after = SERVER;
    node = ap (λ (now : ℕ). restarted now (node 1).store (node 1)) (sym (zero_at q same_pace));
    rules = refl;
  }

  module _ (r : Plant) (b : RestartsAt q 1 0 None r) where
    turn : StandsAt r 1 SERVER → CallsForTurn 253 r 1 Nowhere (turn_by_none 0)
    turn stands = call_for_turn r SERVER stands tt (ap (λ (x : Plant). shows x 1) b.is ∙ zero_at q same_pace) server_turns

    module _ (u : Plant) (t : TakesTurnAt 253 r 1 Nowhere (turn_by_none 0) u) where
      same_later : u.time.pace ≡ one_clock
      same_later = ap (λ (x : Plant). x.time.pace) t.happens.is ∙ ap (λ (x : Plant). x.time.pace) b.is ∙ same_pace

      start : StandsAt u 1 TURNED → IsStarted u 1 (λ n. back u 0 None (with_settings SETTINGS n)) (AreRulesOf true)
      start stands = record {
        before = TURNED;
        at = stands;
        after = ANOTHER;
        node = ap (λ (now : ℕ). restarted now (node 1).store (with_settings SETTINGS TURNED.node)) (sym (zero_at u same_later));
        rules = refl;
      }

      last_turn : (v : Plant) → RestartsAnewAt u 1 0 None SETTINGS true v → StandsAt v 1 ANOTHER → CallsForTurn 253 v 1 Nowhere (turn_by_none 0)
      last_turn v d stands = call_for_turn v ANOTHER stands tt (ap (λ (x : Plant). shows x 1) d.is ∙ zero_at u same_later) another_turns

reached : IsReachedIn 1 253 EVER OPENING LATER
reached = record {
  fresh = answered_run.fresh;
  timely = lives.today;
  bounded = answered_run.bounded;
  led = record {
    among = λ i reuses. refl;
    steps = Passes 80000 (λ i. 80000) ∷ [];
    middle = LATER;
    run = record { middle = OPENING; so_far = refl; last = refl };
    stretches = [];
    permitted = tt;
    later = refl;
  };
}

module _ (key : List ℕ) (port : ℕ) (is : port_at key 80000000 ≡ port) where
  starts : StartsThere (HOSTS key port) [] LATER 0 ONE
  starts = record { port = ap (λ (n : ℕ). Some (PORT n)) (sym is); past = omega arith; in_turn = λ other has. absurd has }

  started : IsStarted LATER 0 (again LATER 0 0 None) AreKept
  started = record { before = station 0; at = refl; after = CLIENT; node = refl; rules = refl }

  early : (p : Plant) → StartsAgainAt LATER 0 0 0 None p → IsAskedEarly (HOSTS key port) (ONE ∷ []) p (PORT port)
  early p s =
      let now : p.time.now ≡ 80000 = ap (λ (q : Plant). q.time.now) s.is in
      record {
        client = ONE;
        one_of = inl refl;
        port = ap PORT (sym is);
        early = record { moment = 80000; in_share = omega arith; soon = omega (arith, now) };
      }

  pub client_asks : ClientAsks key port
  unfolding most started call_to_ask call_for_turn restart turn start
  client_asks = record {
    reached = reached;
    keep = record { ticks = refl; days = λ host. keeps_time };
    quiet = λ i at there. refl;
    idle = turn_by_none 0;
    may = ((omega arith, λ reuses. refl), tt);
    done = (
      (started, starts),
      λ p s stands. (
        (call_to_ask p s stands, early p s),
        λ q a asked. (
          (restart p s q a, tt),
          λ r b again. (
            (turn p s q a r b again, tt),
            λ u t turned. ((start p s q a r b u t turned, tt), λ v d anew. ((last_turn p s q a r b u t v d anew, tt), λ last e left. tt)),
          ),
        ),
      ),
    );
  }
