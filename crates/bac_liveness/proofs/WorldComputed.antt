-- Runs that are computed.
use Rattle.std.proofs.Common.{◌≡◌, ℕ, List, [], ◌∷◌, Some, None, refl, sym, subst, inl, inr, true, not, nat_lt, arith}
use Rattle.std.proofs.lemmas.Bool.Decides.{nat_tests}
use Rattle.bac_apdu.specs.Apdu.{Apdu}
use Rattle.bac_apdu.specs.Spelling.{SpellsApdu}
use Rattle.bac_npdu.specs.Datagram.{Means}
use Rattle.bac_service.specs.Services.{reads_reply}
use Rattle.bac_protocol.specs.Service as machine
use Rattle.bac_protocol.proofs.AtDrift.{lives}
use Rattle.bac_transaction.specs.Meanings.Ending.{Answered, Expired}
use Rattle.bac_transaction.specs.Ends.{requester_tick, responder_tick, requester_on_apdu}
use Rattle.bac_world.proofs.Bridge.{each_copied}
use Rattle.bac_world.specs.Node.{Node, NodeTick, Outcome}
use Rattle.bac_world.specs.Once.Fact.{Performed, Ended}
use Rattle.bac_world.specs.World.{World, Time, passes, Copy, Hears, Life, Ticks, IsCopied, link_at, peer_at, told, transaction_of, with_act, with_ask}
use Rattle.bac_world.specs.Examples.{REQUEST, REPLY, ASKED}
use Rattle.bac_world.specs.AnsweredRun.{TIME, SETTINGS, LOG, link, node}
use Rattle.bac_world.proofs.Answered.{ASK, ANSWER, apart, datagram, ASKED_NODE, copy, NOTES, SECOND, THIRD, LAST, answer_fits, answer_short, ask_fits, ask_short}
use Rattle.bac_world.proofs.Answered.{request_served, served_node, served_outcome, sent, means, others_first, others_second, asked, asked_at, answered_run, request_delivered, answer_delivered}
use Rattle.bac_liveness.specs.WorldRoundTrip.{CanPerform, IsRequest}
use Rattle.bac_liveness.specs.WorldExamples.{DRIFTS, LateTick, SlowTick, LateAnswer, OneRoundTrip, SecondSending}

-- node 0 after a tick at that moment
abbrev ticked_node : ℕ → Node
ticked_node now =
    record (ASKED_NODE) {
      latest = now;
      clients = (requester_tick SETTINGS now ASKED_NODE.clients).end;
      servers = (responder_tick SETTINGS now ASKED_NODE.servers).end;
    }

-- all clocks have gone on by so much
abbrev at_time : ℕ → Time
at_time by = passes TIME by (λ i. by)

-- A tick at 60,001.

abbrev EXPIRES : Outcome
EXPIRES = record { sends = []; performed = None; ended = record { ticket = 0; how = Expired } ∷ []; dropped = None }

-- the world after the ask, at another time
abbrev waiting : Time → (ℕ → Life) → World
waiting time lived = record (SECOND) { time = time; lives = lived }

-- the ask has expired
abbrev expired : Time → (ℕ → Life) → World
expired time lived =
    record {
      nodes = ticked_node 60001 ∷ node 1 ∷ [];
      time = time;
      lives = with_act lived 0;
      copies = SECOND.copies;
      log = Ended 0 Expired ∷ ASKED;
      notes = NOTES;
    }

expires : (time : Time) (lived : ℕ → Life) → 60001 ≡ told (waiting time lived) 0 → Ticks (waiting time lived) 0 (expired time lived)
expires time lived late = record {
  before = ASKED_NODE;
  at = refl;
  after = ticked_node 60001;
  outcome = EXPIRES;
  tick = subst (λ (now : ℕ). NodeTick now ASKED_NODE (ticked_node 60001) EXPIRES) late (record {
    node = refl;
    sends = tt;
    ended = (record { ticket = refl; how = tt }, tt);
    performed = refl;
    dropped = refl;
  });
  acts = record {
    nodes = record { here = refl; others = others_first (ticked_node 60001) ASKED_NODE (node 1) };
    time = refl;
    lives = refl;
    notes = refl;
    sent = [];
    copies = refl;
    copied = refl;
    between = Ended 0 Expired ∷ ASKED;
    ended = (0, refl, refl);
    logged = refl;
  };
}

abbrev LATE : World
LATE = waiting (at_time 60001) SECOND.lives

pub late_tick : LateTick
late_tick = record {
  second = SECOND;
  asks = asked;
  late = LATE;
  waits = (LATE, refl, refl);
  passed = omega arith;
  before = refl;
  ticked = expired (at_time 60001) SECOND.lives;
  ticks = expires (at_time 60001) SECOND.lives refl;
  after = refl;
}

-- The same by a slow clock.

abbrev drifts : (by own : ℕ) → Time
drifts by own = passes DRIFTS.time by (λ i. own)

-- what both nodes did by then
abbrev SLOW_LIVES : ℕ → Life
SLOW_LIVES = with_ask DRIFTS.time DRIFTS.lives 0

-- 60,060 ms pass, and then one more
abbrev late_time : Time
late_time = passes (drifts 60060 60000) 1 (λ i. 1)

pub slow_tick : SlowTick
slow_tick = record {
  fresh = record {
    nodes = answered_run.fresh.nodes;
    apart = answered_run.fresh.apart;
    lives = λ i. refl;
    now = refl;
    clocks = λ i. refl;
    copies = refl;
    log = refl;
    notes = refl;
  };
  timely = lives.at_thousandth;
  bounded = record { some = omega arith; windows = answered_run.bounded.windows; room = omega arith };
  second = waiting DRIFTS.time SLOW_LIVES;
  asks = asked_at DRIFTS.time.pace;
  early = waiting (drifts 60060 60000) SLOW_LIVES;
  waits = (waiting (drifts 60060 60000) SLOW_LIVES, refl, refl);
  last = refl;
  late = waiting late_time SLOW_LIVES;
  goes_on = (waiting late_time SLOW_LIVES, refl, refl);
  real = refl;
  passed = omega arith;
  before = refl;
  ticked = expired late_time SLOW_LIVES;
  ticks = expires late_time SLOW_LIVES refl;
  after = refl;
}

-- A round trip.

-- no moment is before 0
awake : (now : ℕ) → not (nat_lt now 0) ≡ true
awake now = grind (arith, nat_tests)

performs : (now : ℕ) → CanPerform now (node 0) (node 1) 0 REQUEST
performs now = record { none = refl; slot = awake now; reply = machine.Reply.Error 1 31; outcome = refl; way = refl }

is_first : (c : Copy) → c.key ≡ (copy 0 1 ASK).key → c.octets ≡ (copy 0 1 ASK).octets → IsRequest (copy 0 1 ASK ∷ []) c
is_first c key octets = record { first = copy 0 1 ASK; is = refl; key = key; octets = octets }

pub one_round_trip : OneRoundTrip
one_round_trip = record {
  second = SECOND;
  asks = asked;
  whole = refl;
  unended = refl;
  copy = copy 0 1 ASK;
  request = record { at = refl; arrives = refl };
  is_one = is_first (copy 0 1 ASK) refl refl;
  server = node 1;
  at = refl;
  performs = performs 0;
  third = THIRD;
  performed = request_delivered;
  still = refl;
  answer = copy 1 0 ANSWER;
  comes = record { at = refl; arrives = refl };
  last = LAST;
  answered = answer_delivered;
  log = refl;
}

-- A second sending.

abbrev LATER : World
LATER = record (SECOND) { time = at_time 3000 }

abbrev SECOND_COPY : Copy
SECOND_COPY = record (copy 0 1 ASK) { moment = 3000 }

abbrev AGAIN : World
AGAIN =
    record {
      nodes = ticked_node 3000 ∷ node 1 ∷ [];
      time = at_time 3000;
      lives = with_act LATER.lives 0;
      copies = copy 0 1 ASK ∷ SECOND_COPY ∷ [];
      log = ASKED;
      notes = NOTES;
    }

ask_means : Means SpellsApdu (link 0) (datagram (link 1) ASK).octets (peer_at (link 0)) ASK
ask_means = means (link 0) (link 1) ASK ask_fits ask_short

answer_means : Means SpellsApdu (link 1) (datagram (link 0) ANSWER).octets (peer_at (link 1)) ANSWER
answer_means = means (link 1) (link 0) ANSWER answer_fits answer_short

-- what node i sends to node j at 3,000 becomes a copy
copied : (nodes : List Node) (i j : ℕ) (a : Apdu) → link_at nodes i ≡ Some (link i) → link_at nodes j ≡ Some (link j)
    → (copy i j a).key ≡ transaction_of i j a → Means SpellsApdu (link i) (datagram (link j) a).octets (peer_at (link i)) a
    → IsCopied nodes 3000 i (datagram (link j) a) (record (copy i j a) { moment = 3000 })
copied nodes i j a sender receiver key means = record {
  moment = refl;
  from = refl;
  to = receiver;
  octets = refl;
  transaction = record { link = link i; sender = sender; peer = peer_at (link i); apdu = a; means = means; key = key };
}

sends_again : Ticks LATER 0 AGAIN
sends_again = record {
  before = ASKED_NODE;
  at = refl;
  after = ticked_node 3000;
  outcome = record { sends = datagram (link 1) ASK ∷ []; performed = None; ended = []; dropped = None };
  tick = record { node = refl; sends = (sent (link 1) ASK ask_fits ask_short, tt); ended = tt; performed = refl; dropped = refl };
  acts = record {
    nodes = record { here = refl; others = others_first (ticked_node 3000) ASKED_NODE (node 1) };
    time = refl;
    lives = refl;
    notes = refl;
    sent = SECOND_COPY ∷ [];
    copies = refl;
    copied = each_copied LATER.nodes 3000 0 (datagram (link 1) ASK ∷ []) (SECOND_COPY ∷ []) (copied LATER.nodes 0 1 ASK refl refl refl ask_means, tt);
    between = ASKED;
    ended = refl;
    logged = refl;
  };
}

abbrev SERVED_NODE : Node
SERVED_NODE = served_node 3000 0

abbrev ANSWER_COPY : Copy
ANSWER_COPY = record (copy 1 0 ANSWER) { moment = 3000 }

abbrev SERVED : World
SERVED = record {
  nodes = ticked_node 3000 ∷ SERVED_NODE ∷ [];
  time = at_time 3000;
  lives = with_act AGAIN.lives 1;
  copies = copy 0 1 ASK ∷ SECOND_COPY ∷ ANSWER_COPY ∷ [];
  log = Performed 0 REQUEST REPLY ∷ ASKED;
  notes = NOTES;
}

serves : Hears AGAIN 1 (link 0) SECOND_COPY.octets SERVED
serves = record {
  before = node 1;
  at = refl;
  after = SERVED_NODE;
  outcome = served_outcome 0;
  on = inr (record {
    peer = peer_at (link 0);
    apdu = ASK;
    foreign = apart;
    means = ask_means;
    heard = request_served 3000 0;
  });
  acts = record {
    nodes = record { here = refl; others = others_second SERVED_NODE (node 1) (ticked_node 3000) };
    time = refl;
    lives = refl;
    notes = refl;
    sent = ANSWER_COPY ∷ [];
    copies = refl;
    copied = each_copied AGAIN.nodes 3000 1 (served_outcome 0).sends (ANSWER_COPY ∷ []) (copied AGAIN.nodes 1 0 ANSWER refl refl refl answer_means, tt);
    between = ASKED;
    ended = refl;
    logged = inl (record { client = 0; number = 0; link = refl; noted = refl; log = refl });
  };
}

abbrev ENDED_NODE : Node
ENDED_NODE = record (ticked_node 3000) { clients = (requester_on_apdu SETTINGS reads_reply 3000 (peer_at (link 1)) ANSWER (ticked_node 3000).clients).end }

abbrev ANSWERED : World
ANSWERED =
    record {
      nodes = ENDED_NODE ∷ SERVED_NODE ∷ [];
      time = at_time 3000;
      lives = with_act SERVED.lives 0;
      copies = SERVED.copies;
      log = LOG;
      notes = NOTES;
    }

hears : Hears SERVED 0 (link 1) ANSWER_COPY.octets ANSWERED
hears = record {
  before = ticked_node 3000;
  at = refl;
  after = ENDED_NODE;
  outcome = record { sends = []; performed = None; ended = record { ticket = 0; how = Answered REPLY } ∷ []; dropped = None };
  on = inr (record {
    peer = peer_at (link 1);
    apdu = ANSWER;
    foreign = λ e. apart (sym e);
    means = answer_means;
    heard = record { node = refl; sends = tt; ended = (record { ticket = refl; how = (refl, refl) }, tt); performed = refl; dropped = refl };
  });
  acts = record {
    nodes = record { here = refl; others = others_first ENDED_NODE (ticked_node 3000) SERVED_NODE };
    time = refl;
    lives = refl;
    notes = refl;
    sent = [];
    copies = refl;
    copied = refl;
    between = LOG;
    ended = (0, refl, refl);
    logged = refl;
  };
}

pub second_sending : SecondSending
second_sending = record {
  second = SECOND;
  asks = asked;
  whole = refl;
  again = AGAIN;
  run = (LATER, refl, (AGAIN, sends_again, refl));
  finds = (tt, (tt, tt));
  young = omega arith;
  copy = SECOND_COPY;
  request = record { at = refl; arrives = refl };
  is_one = is_first SECOND_COPY refl refl;
  server = node 1;
  at = refl;
  performs = performs 3000;
  served = SERVED;
  performed = record { copy = SECOND_COPY; there = refl; goes = record { link = link 0; sender = refl; hears = serves } };
  answer = ANSWER_COPY;
  comes = record { at = refl; arrives = refl };
  from = record { key = refl; from = refl };
  last = ANSWERED;
  answered = record { copy = ANSWER_COPY; there = refl; goes = record { link = link 1; sender = refl; hears = hears } };
  log = refl;
}

-- An answer at 60,001.

abbrev LATE_NODE : Node
LATE_NODE = record (ASKED_NODE) {
  latest = 60001;
  clients = (requester_on_apdu SETTINGS reads_reply 60001 (peer_at (link 1)) ANSWER ASKED_NODE.clients).end;
}

pub late_answer : LateAnswer
late_answer = record {
  second = SECOND;
  asks = asked;
  old = ASKED_NODE;
  at = refl;
  apdu = ANSWER;
  server = refl;
  new = LATE_NODE;
  outcome = EXPIRES;
  gets = record {
    from = link 1;
    octets = (datagram (link 0) ANSWER).octets;
    foreign = λ e. apart (sym e);
    means = answer_means;
    on = inr (record {
      peer = peer_at (link 1);
      apdu = ANSWER;
      foreign = λ e. apart (sym e);
      means = answer_means;
      heard = record { node = refl; sends = tt; ended = (record { ticket = refl; how = tt }, tt); performed = refl; dropped = refl };
    });
  };
  ticket = _;
  is_open = refl;
  late = omega arith;
  ends = refl;
}
