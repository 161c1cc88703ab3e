-- Runs in which an ask is answered, and in which the power is cut before.
use Rattle.std.proofs.Common.{◌≡◌, ℕ, List, [], ◌∷◌, map, slice_index_or, slice_get, true, false, Option, Some, None, refl, sym, ap, subst, ◌∙◌, arith}
use Rattle.bac_protocol.specs.declared.times.TheConstants.{T_OUT}
use Rattle.bac_requester.specs.Timers.{LAST_MOMENT}
use Rattle.bac_transaction.specs.Ends.{ClientSlot, TransactionSlot, requester_tick}
use Rattle.bac_transaction.specs.Ends.TransactionSlot.{Closed, Open}
use Rattle.bac_protocol.proofs.AtDrift.{lives}
use Rattle.bac_transaction.specs.Given.{STRICTLY}
use Rattle.bac_transaction.specs.Views.{rules_view}
use Rattle.bac_node.specs.Serving.{AreSetTo}
use Rattle.bac_world.specs.AnsweredRun.{LIMITS, TIME, link, node}
use Rattle.bac_world.specs.Examples.{REQUEST}
use Rattle.bac_world.specs.Node.{Node, Outcome, restarted}
use Rattle.bac_world.specs.Once.Fact.{Restarted}
use Rattle.bac_protocol.specs.Pace.{clock_at}
use Rattle.bac_protocol.specs.Service.{Octets}
use Rattle.bac_world.specs.World.{Copy, Delivers, DeliversIf, Hears, IsDelivered, Life, Time, World, is_deliverable, link_at, peer_at, with_act, with_clock, with_restart}
use Rattle.bac_world.proofs.Answered.{ACCEPTED, ANSWER, ASK, ASKED_NODE, LAST, SECOND, THIRD, answer_delivered, answered_run, ask_copied, asks}
use Rattle.bac_world.proofs.Answered.{copy, datagram, request_delivered}
use Rattle.bac_node.specs.Waiting.{MovesAt, RestsUntil}
use Rattle.bac_driver.specs.Asking.{IsBegun}
use Rattle.bac_driver.specs.BoundNodes.{BoundNode}
use Rattle.bac_driver.specs.Rounds.{sends_of_all}
use Rattle.bac_driver.specs.Turns.{Turn, call_of, with_calls}
use Rattle.bac_driver.specs.Waits.{IsDue}
use Rattle.bac_plant.specs.Cuts.{CutPlant, CutPlantRun, CutsAt, LosesTurnAt, with_losing}
use Rattle.bac_plant.specs.Cuts.CutStep.{Goes}
use Rattle.bac_plant.specs.Example.{AnsweredRound, AnsweredTurns, CUT_OPENING, CutRounds, OPENING, station}
use Rattle.bac_plant.specs.Network.{IsOfStation}
use Rattle.bac_plant.specs.Network.Source.{Nowhere, Station}
use Rattle.bac_plant.specs.Plants.{Plant, world_of}
use Rattle.bac_plant.specs.Steps.{AreSent, AsksAt, question, with_station}
use Rattle.bac_plant.specs.Steps.Step.{Begins, Takes}
use Rattle.bac_plant.proofs.Turned.{one_there}
use Rattle.bac_plant.proofs.Resting.{IsCalm, after_held, after_none, after_turn, comes_now, hearing_step, holding_step, holds_now, idle_step, next_plant}
use Rattle.bac_plant.proofs.Resting.{rests_until, turn_by, turn_by_none}

-- When both nodes are due.

fresh_due : IsDue (node 1) None
fresh_due = record { rests = rests_until LAST_MOMENT (node 1) refl tt; moves = tt }

held_since : TransactionSlot → ℕ
held_since (Open t) = t.since
held_since (Closed first) = 0

since_of : List ClientSlot → ℕ
since_of [] = 0
since_of (s ∷ slots) = held_since s.value.held

asked_rests : RestsUntil T_OUT ASKED_NODE
asked_rests = rests_until T_OUT ASKED_NODE refl (record { unended = refl; deadline = omega arith; timer = omega arith }, tt)

asked_moves : MovesAt T_OUT ASKED_NODE
unfolding since_of held_since
asked_moves = record {
  timely = omega arith;
  moves = λ new o t same.
      let e : since_of (requester_tick ASKED_NODE.settings T_OUT ASKED_NODE.clients).end.slots ≡ since_of ASKED_NODE.clients.slots =
      ap (λ (n : Node). since_of n.clients.slots) (sym t.node ∙ same) in
      cc;
}

asked_due : IsDue ASKED_NODE (Some T_OUT)
asked_due = record { rests = asked_rests; moves = asked_moves }

-- The strict rules are those of a node that lets no client use an invoke ID again.
strict_set : AreSetTo false (rules_view STRICTLY)
strict_set = record { reads = refl; remembers = tt; shares = λ off. refl }

-- The ask.

abbrev ASKED : BoundNode
ASKED = record { node = ASKED_NODE; failures = 0; calls = with_calls (Some []) (map call_of (datagram (link 1) ASK ∷ [])); buffer = []; rules = STRICTLY }

abbrev begun : IsBegun 0 (question (peer_at (link 1)) LIMITS REQUEST) (station 0) 0 ASKED
begun = record {
  accepted = ACCEPTED;
  sends = datagram (link 1) ASK ∷ [];
  asks = asks;
  ticket_is = refl;
  lost = 0;
  carried = record { order = refl; count = refl; most = omega arith };
  buffer = refl;
  rules = refl;
}

abbrev FIRST : Plant
FIRST = record { stations = ASKED ∷ station 1 ∷ []; time = TIME; lives = SECOND.lives; copies = SECOND.copies; log = SECOND.log; notes = SECOND.notes }

asked : AsksAt OPENING 0 1 LIMITS REQUEST FIRST
asked = record {
  before = station 0;
  at = refl;
  link = link 1;
  peer = refl;
  after = ASKED;
  ticket = 0;
  begun = begun;
  sent = copy 0 1 ASK ∷ [];
  copied = (ask_copied, tt);
  is = refl;
}

-- The turns.

asked_calm : IsCalm 0 ASKED_NODE
asked_calm = record { sends = refl; ended = refl }

abbrev IDLE : Plant
IDLE = record (with_station FIRST 0 (after_none 0 ASKED)) { lives = with_act FIRST.lives 0 }

abbrev node_in : World → ℕ → Node
node_in w i = slice_index_or w.nodes i (node 0)

-- what a delivered copy makes its node hear
delivered_hears : (overtake : ℕ) (w w' : World) (number : ℕ) (c : Copy) (link : Octets) → IsDelivered overtake w number w' → slice_get w.copies number ≡ Some c
    → is_deliverable overtake w.time.pace.life w.time.now number w.copies c ≡ true → link_at w.nodes c.from ≡ Some link → Hears w c.to link c.octets w'
delivered_hears overtake w w' number c link d there may sender =
    let same : d.copy ≡ c = one_there (slice_get w.copies number) d.copy c d.there there in
    let goes : Delivers w c w' = subst (λ b. DeliversIf b w c w') may
    (subst (λ x. DeliversIf (is_deliverable overtake w.time.pace.life w.time.now number w.copies x) w x w') same d.goes) in
    let from : goes.link ≡ link = one_there (link_at w.nodes c.from) goes.link link goes.sender sender in
    subst (λ l. Hears w c.to l c.octets w') from goes.hears

-- the same, whatever the nodes did before
lived : (w w' : World) (before : ℕ → Life) (i : ℕ) (from octets : Octets) → Hears w i from octets w'
    → Hears (record w { lives = before }) i from octets (record w' { lives = with_act before i })
lived w w' before i from octets h = record {
  before = h.before;
  at = h.at;
  after = h.after;
  outcome = h.outcome;
  on = h.on;
  acts = record {
    nodes = h.acts.nodes;
    time = h.acts.time;
    lives = refl;
    notes = h.acts.notes;
    sent = h.acts.sent;
    copies = h.acts.copies;
    copied = h.acts.copied;
    between = h.acts.between;
    ended = h.acts.ended;
    logged = h.acts.logged;
  };
}

served_hears : Hears (world_of IDLE) 1 (link 0) (copy 0 1 ASK).octets (record THIRD { lives = with_act IDLE.lives 1 })
served_hears = lived SECOND THIRD IDLE.lives 1 (link 0) (copy 0 1 ASK).octets
    (delivered_hears 253 SECOND THIRD 0 (copy 0 1 ASK) (link 0) request_delivered refl refl refl)

served_is : served_hears.after ≡ node_in THIRD 1
served_is = one_there (slice_get THIRD.nodes 1) served_hears.after (node_in THIRD 1) served_hears.acts.nodes.here refl

served_calm : IsCalm 0 (node_in THIRD 1)
served_calm = record { sends = refl; ended = refl }

answered_calm : IsCalm 0 (node_in LAST 0)
answered_calm = record { sends = refl; ended = refl }

request_comes : IsOfStation 253 IDLE 1 0 (link 0) (copy 0 1 ASK).octets
request_comes = record { copy = copy 0 1 ASK; there = refl; to = refl; sender = refl; whole = refl; young = omega arith; few = omega arith }

abbrev SERVED : Plant
SERVED = next_plant IDLE 1 (after_turn 0 (station 1) (link 0) (copy 0 1 ASK).octets (node_in THIRD 1) served_hears.outcome) THIRD

answer_comes : IsOfStation 253 SERVED 0 1 (link 1) (copy 1 0 ANSWER).octets
answer_comes = record { copy = copy 1 0 ANSWER; there = refl; to = refl; sender = refl; whole = refl; young = omega arith; few = omega arith }

answered_hears : Hears (world_of SERVED) 0 (link 1) (copy 1 0 ANSWER).octets (record LAST { lives = with_act SERVED.lives 0 })
answered_hears = lived THIRD LAST SERVED.lives 0 (link 1) (copy 1 0 ANSWER).octets
    (delivered_hears 253 THIRD LAST 1 (copy 1 0 ANSWER) (link 1) answer_delivered refl refl refl)

answered_is : answered_hears.after ≡ node_in LAST 0
answered_is = one_there (slice_get LAST.nodes 0) answered_hears.after (node_in LAST 0) answered_hears.acts.nodes.here refl

abbrev waiting : BoundNode
waiting = after_none 0 ASKED

pub answered_turns : AnsweredTurns
answered_turns = record {
  fresh = answered_run.fresh;
  timely = lives.today;
  bounded = answered_run.bounded;
  idle = turn_by_none 0;
  served = turn_by 0 (link 0) (copy 0 1 ASK).octets served_hears.outcome;
  answered = turn_by 0 (link 1) (copy 1 0 ANSWER).octets answered_hears.outcome;
  last = next_plant SERVED 0 (after_turn 0 waiting (link 1) (copy 1 0 ANSWER).octets (node_in LAST 0) answered_hears.outcome) LAST;
  run = record {
    middle = SERVED;
    so_far = record {
      middle = IDLE;
      so_far = record {
        middle = FIRST;
        so_far = record { middle = OPENING; so_far = refl; last = asked };
        last = idle_step 253 FIRST 0 ASKED refl strict_set refl (Some T_OUT) asked_due asked_calm;
      };
      last = hearing_step 253 IDLE 1 (station 1) refl strict_set refl None fresh_due 0 (link 0) (copy 0 1 ASK).octets request_comes _ served_hears
          (node_in THIRD 1) served_is served_calm;
    };
    last = hearing_step 253 SERVED 0 waiting refl strict_set refl (Some T_OUT) asked_due 1 (link 1) (copy 1 0 ANSWER).octets answer_comes _ answered_hears
        (node_in LAST 0) answered_is answered_calm;
  };
  log = refl;
}

-- The same by a round.

abbrev served_outcome : Outcome
served_outcome = served_hears.outcome

abbrev served_turn : Turn
served_turn = turn_by 0 (link 0) (copy 0 1 ASK).octets served_outcome

abbrev held_station : BoundNode
held_station = after_held 0 (station 1) (link 0) (copy 0 1 ASK).octets (node_in THIRD 1)

abbrev HELD : Plant
HELD = next_plant IDLE 1 held_station THIRD

abbrev sent_station : BoundNode
sent_station = record held_station { calls = with_calls held_station.calls (map call_of (sends_of_all (served_turn ∷ []))) }

abbrev SENT : Plant
SENT = with_station HELD 1 sent_station

sends_held : AreSent (served_turn ∷ []) held_station sent_station
sends_held = record { lost = 0; carried = record { order = refl; count = refl; most = omega arith }; node = refl; buffer = refl; rules = refl }

answer_comes_again : IsOfStation 253 SENT 0 1 (link 1) (copy 1 0 ANSWER).octets
answer_comes_again = record { copy = copy 1 0 ANSWER; there = refl; to = refl; sender = refl; whole = refl; young = omega arith; few = omega arith }

pub answered_round : AnsweredRound
answered_round = record {
  fresh = answered_run.fresh;
  timely = lives.today;
  bounded = answered_run.bounded;
  idle = turn_by_none 0;
  served = served_turn;
  answered = turn_by 0 (link 1) (copy 1 0 ANSWER).octets answered_hears.outcome;
  last = next_plant SENT 0 (after_turn 0 waiting (link 1) (copy 1 0 ANSWER).octets (node_in LAST 0) answered_hears.outcome) LAST;
  run = record {
    middle = SENT;
    so_far = record {
      middle = HELD;
      so_far = record {
        middle = IDLE;
        so_far = record {
          middle = FIRST;
          so_far = record { middle = OPENING; so_far = refl; last = asked };
          last = idle_step 253 FIRST 0 ASKED refl strict_set refl (Some T_OUT) asked_due asked_calm;
        };
        last = holding_step 253 IDLE 1 (station 1) refl strict_set refl None fresh_due 0 (link 0) (copy 0 1 ASK).octets request_comes _ served_hears
            (node_in THIRD 1) served_is served_calm;
      };
      last = record { before = held_station; at = refl; after = sent_station; sends = sends_held; is = refl };
    };
    last = hearing_step 253 SENT 0 waiting refl strict_set refl (Some T_OUT) asked_due 1 (link 1) (copy 1 0 ANSWER).octets answer_comes_again _ answered_hears
        (node_in LAST 0) answered_is answered_calm;
  };
  log = refl;
}

-- Power cuts in that round.

abbrev none_losing : ℕ → Option BoundNode
none_losing i = None

abbrev losing_one : ℕ → Option BoundNode
losing_one = with_losing none_losing 1 (Some held_station)

abbrev cut_plant : Plant → CutPlant
cut_plant p = record { plant = p; losing = none_losing }

-- a station so, after a restart
abbrev started : BoundNode → BoundNode
started b = record b { node = restarted (clock_at TIME.pace 0).shows b.node.store b.node }

abbrev cut_one : Plant → BoundNode → Plant
cut_one p b = record (with_station p 1 (started b)) { time = with_clock p.time 1 0; lives = with_restart p.time p.lives 1; log = Restarted 1 None ∷ p.log }

idle_run : CutPlantRun 253 (Goes (Takes 0 Nowhere (turn_by_none 0)) ∷ Goes (Begins 0 1 LIMITS REQUEST) ∷ []) CUT_OPENING (cut_plant IDLE)
idle_run = record {
  middle = cut_plant FIRST;
  so_far = record { middle = CUT_OPENING; so_far = refl; last = record { free = refl; goes = asked; same = refl } };
  last = record { free = refl; goes = idle_step 253 FIRST 0 ASKED refl strict_set refl (Some T_OUT) asked_due asked_calm; same = refl };
}

loses : LosesTurnAt 253 (cut_plant IDLE) 1 (Station 0) served_turn (record { plant = IDLE; losing = losing_one })
loses = record {
  before = station 1;
  at = refl;
  after = held_station;
  holds = holds_now 253 IDLE 1 (station 1) refl strict_set refl None fresh_due 0 (link 0) (copy 0 1 ASK).octets request_comes _ served_hears
      (node_in THIRD 1) served_is served_calm;
  comes = comes_now 253 IDLE 1 (station 1) refl strict_set refl None fresh_due 0 (link 0) (copy 0 1 ASK).octets request_comes _ served_hears
      (node_in THIRD 1) served_is served_calm;
  is = refl;
}

cuts : (c : CutPlant) (b : BoundNode) → slice_get c.plant.stations 1 ≡ Some b → c.plant.time ≡ TIME
    → CutsAt c 1 0 (record { plant = cut_one c.plant b; losing = with_losing c.losing 1 None })
cuts c b at time = record {
  starts = record {
    before = b;
    at = at;
    after = started b;
    node = ap (λ (t : Time). restarted (clock_at t.pace 0).shows b.node.store b.node) (sym time);
    rules = refl;
    is = refl;
  };
  losing = refl;
}

pub cut_rounds : CutRounds
cut_rounds = record {
  idle = turn_by_none 0;
  served = served_turn;
  lost = record { plant = cut_one IDLE (station 1); losing = with_losing losing_one 1 None };
  lost_run = record {
    middle = record { plant = IDLE; losing = losing_one };
    so_far = record { middle = cut_plant IDLE; so_far = idle_run; last = loses };
    last = cuts (record { plant = IDLE; losing = losing_one }) (station 1) refl refl;
  };
  lost_log = refl;
  found = record { plant = cut_one HELD held_station; losing = with_losing none_losing 1 None };
  found_run = record {
    middle = cut_plant HELD;
    so_far = record {
      middle = cut_plant IDLE;
      so_far = idle_run;
      last = record {
        free = refl;
        goes = holding_step 253 IDLE 1 (station 1) refl strict_set refl None fresh_due 0 (link 0) (copy 0 1 ASK).octets request_comes _ served_hears
            (node_in THIRD 1) served_is served_calm;
        same = refl;
      };
    };
    last = cuts (cut_plant HELD) held_station refl refl;
  };
  found_log = refl;
}
