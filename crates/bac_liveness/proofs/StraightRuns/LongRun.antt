-- The straight run of a request in segments.
use Rattle.std.proofs.Common.{◌≡◌, ℕ, true, false, List, [], ◌∷◌, ◌++◌, Some, None, refl, sym, ap, subst, inl, arith}
use Rattle.bac_value.specs.Spelling.{tag_spelling}
use Rattle.bac_value.specs.Number.{unsigned_octets, signed_octets}
use Rattle.bac_apdu.specs.Apdu.{Apdu}
use Rattle.bac_apdu.specs.Apdu.Apdu.{ConfirmedRequest, SegmentAck, Error}
use Rattle.bac_apdu.specs.Spelling.{apdu_fits, apdu_spelling}
use Rattle.bac_service.specs.Requests.{SpellsRequest}
use Rattle.bac_service.specs.Replies.{Reply}
use Rattle.bac_service.specs.Services.{reads_reply}
use Rattle.bac_service.proofs.Spelled.{request_spelled}
use Rattle.bac_service.proofs.Wholes.{request_again}
use Rattle.bac_store.specs.Replies.{reply_to}
use Rattle.bac_protocol.specs.Context.{Context}
use Rattle.bac_protocol.specs.Service.{Octets}
use Rattle.bac_protocol.specs.Service as machine
use Rattle.bac_protocol.specs.Server as server
use Rattle.bac_protocol.specs.Server.{ServerTransaction, begins, keeps_first, performs_so}
use Rattle.bac_protocol.proofs.AtDrift.{lives}
use Rattle.bac_transaction.specs.Keys.{PeerKey}
use Rattle.bac_transaction.specs.Meanings.Ending.{Answered}
use Rattle.bac_transaction.specs.Ends.{Accepted, ClientEnd, ServerEnd, accepts, context_of, requester_on_apdu, responder_on_apdu, server_goes}
use Rattle.bac_transaction.specs.Services.{service_of, outcome_by}
use Rattle.bac_world.specs.Services.{Performed}
use Rattle.bac_world.specs.Node.{Node, Outcome, IsServerTurn, NodeAsks}
use Rattle.bac_world.specs.Once.{Fact}
use Rattle.bac_world.specs.World.{Copy, IsAsked, Life, peer_at, with_act, with_ask}
use Rattle.bac_world.specs.Examples.{STORE}
use Rattle.bac_world.specs.AnsweredRun.{TIME, LIMITS, SETTINGS, link, node, OPENING}
use Rattle.bac_world.proofs.Answered.{answered_run, apart, copy, others_first, others_second}
use Rattle.bac_liveness.specs.StraightRuns.{IsStraight}
use Rattle.bac_liveness.specs.StraightExamples.{zeros, WRITE, InSegments}
use Rattle.bac_liveness.proofs.StraightRuns.Networks.{IsGood, IsDelivery, datagram, world, sent, copied, delivers}

abbrev FRONT : Octets
FRONT = 196 ∷ 2 ∷ 128 ∷ 0 ∷ 1 ∷ 14 ∷ 49 ∷ 0 ∷ 101 ∷ 40 ∷ zeros 34

abbrev BACK : Octets
BACK = 0 ∷ 0 ∷ 0 ∷ 0 ∷ 0 ∷ 0 ∷ 15 ∷ []

abbrev SERVICE_DATA : Octets
SERVICE_DATA = FRONT ++ BACK

spelled : SpellsRequest 7 WRITE SERVICE_DATA
unfolding tag_spelling unsigned_octets signed_octets
spelled = subst (SpellsRequest 7 WRITE) refl
    (request_spelled WRITE (record { kind_fits = omega arith; instance_fits = omega arith }, (omega arith, omega arith)))

abbrev FIRST : Apdu
FIRST = ConfirmedRequest LIMITS 0 (Some (record { more = true; number = 0; window = 1 })) 7 FRONT

abbrev SECOND : Apdu
SECOND = ConfirmedRequest LIMITS 0 (Some (record { more = false; number = 1; window = 1 })) 7 BACK

abbrev ACK : ℕ → Apdu
ACK n = SegmentAck true 0 (record { nak = false; number = n; window = 1 })

abbrev ANSWER : Apdu
ANSWER = Error 0 7 1 31

abbrev REPLY : Reply
REPLY = reply_to STORE WRITE

first_good : IsGood 0 1 FIRST
unfolding apdu_fits apdu_spelling
first_good = record { fits = refl; short = omega arith; key = refl }

second_good : IsGood 0 1 SECOND
unfolding apdu_fits apdu_spelling
second_good = record { fits = refl; short = omega arith; key = refl }

ack_good : IsGood 1 0 (ACK 0)
unfolding apdu_fits apdu_spelling
ack_good = record { fits = refl; short = omega arith; key = refl }

last_ack_good : IsGood 1 0 (ACK 1)
unfolding apdu_fits apdu_spelling
last_ack_good = record { fits = refl; short = omega arith; key = refl }

answer_good : IsGood 1 0 ANSWER
unfolding apdu_fits apdu_spelling
answer_good = record { fits = refl; short = omega arith; key = refl }

-- The ends, and the nodes, as they go on.

abbrev slot : ℕ → PeerKey
slot n = record { peer = peer_at (link n); invoke_id = 0 }

abbrev ACCEPTED : Accepted
ACCEPTED = accepts SETTINGS 0 (slot 1) (record { first = 0; choice = 7; whole = false; pieces = FRONT ∷ BACK ∷ [] })
    (record { slots = []; capacity = 1; asked = 0; asks_from = 0; first_id = 0 })

abbrev hears : Apdu → ClientEnd → ClientEnd
hears a e = (requester_on_apdu SETTINGS reads_reply 0 (peer_at (link 1)) a e).end

abbrev client : ClientEnd → Node
client e = record (node 0) { clients = e }

abbrev SENT : ClientEnd
SENT = hears (ACK 0) ACCEPTED.end

abbrev WAITS : ClientEnd
WAITS = hears (ACK 1) SENT

abbrev CLOSED : ClientEnd
CLOSED = hears ANSWER WAITS

abbrev TAKEN : ServerEnd
TAKEN = (responder_on_apdu SETTINGS 0 (service_of STORE) (peer_at (link 0)) FIRST (record { slots = []; capacity = 1; serves_from = 0 })).end

abbrev CONTEXT : Context
CONTEXT = context_of SETTINGS 0 (slot 0)

abbrev ENTRY : ServerTransaction
ENTRY = record (begins CONTEXT 7 LIMITS None) { state = server.State.SegmentedRequest (record { parts = FRONT ∷ []; unacknowledged = 0; window = 1 }) 0 }

abbrev done_by : machine.Outcome → server.Reaction
done_by o = performs_so CONTEXT (keeps_first (FRONT ∷ BACK ∷ []) ENTRY) (ACK 1 ∷ []) SERVICE_DATA o

abbrev REPLIES : machine.Outcome
REPLIES = machine.Outcome.Replies (machine.Reply.Error 1 31)

says : service_of STORE 7 SERVICE_DATA ≡ REPLIES
says = ap (outcome_by STORE) (request_again 7 SERVICE_DATA WRITE spelled)

abbrev DONE : ServerEnd
DONE = (server_goes 0 TAKEN (slot 0) (done_by REPLIES)).end

abbrev servant : ServerEnd → Node
servant e = record (node 1) { servers = e }

abbrev nodes : ClientEnd → ServerEnd → List Node
nodes c s = client c ∷ servant s ∷ []

abbrev EMPTY : ServerEnd
EMPTY = record { slots = []; capacity = 1; serves_from = 0 }

-- The ask.

abbrev ASKED : List Fact
ASKED = Fact.Asked 0 0 1 WRITE ∷ []

abbrev PERFORMED : List Fact
PERFORMED = Fact.Performed 0 WRITE REPLY ∷ ASKED

abbrev ENDED : List Fact
ENDED = Fact.Ended 0 (Answered REPLY) ∷ PERFORMED

abbrev COPIES : List Copy
COPIES = copy 0 1 FIRST ∷ copy 1 0 (ACK 0) ∷ copy 0 1 SECOND ∷ []

abbrev ALL : List Copy
ALL = copy 0 1 FIRST ∷ copy 1 0 (ACK 0) ∷ copy 0 1 SECOND ∷ copy 1 0 (ACK 1) ∷ copy 1 0 ANSWER ∷ []

abbrev asks : NodeAsks 0 (peer_at (link 1)) LIMITS WRITE (node 0) (client ACCEPTED.end) ACCEPTED (datagram 1 FIRST ∷ [])
asks = record {
  octets = SERVICE_DATA;
  spelled = spelled;
  foreign = λ e. apart (sym e);
  accepted = refl;
  node = refl;
  sent = sent 0 1 (FIRST ∷ []) (first_good, tt);
}

-- what both nodes did by then
abbrev LIVES : ℕ → Life
LIVES = with_ask TIME OPENING.lives 0

abbrev LIVES_1 : ℕ → Life
LIVES_1 = with_act LIVES 1

abbrev LIVES_2 : ℕ → Life
LIVES_2 = with_act LIVES_1 0

abbrev LIVES_3 : ℕ → Life
LIVES_3 = with_act LIVES_2 1

abbrev LIVES_4 : ℕ → Life
LIVES_4 = with_act LIVES_3 0

abbrev LIVES_5 : ℕ → Life
LIVES_5 = with_act LIVES_4 0

abbrev asked : IsAsked OPENING 0 1 LIMITS WRITE (world LIVES (nodes ACCEPTED.end EMPTY) (copy 0 1 FIRST ∷ []) ASKED)
asked = record {
  before = node 0;
  at = refl;
  link = link 1;
  peer = refl;
  after = client ACCEPTED.end;
  accepted = ACCEPTED;
  sends = datagram 1 FIRST ∷ [];
  asks = asks;
  nodes = record { here = refl; others = others_first (client ACCEPTED.end) (node 0) (node 1) };
  time = refl;
  lives = refl;
  sent = copy 0 1 FIRST ∷ [];
  copies = refl;
  copied = copied OPENING.nodes 0 1 refl refl (FIRST ∷ []) (first_good, tt);
  notes = refl;
  log = refl;
}

-- The deliveries.

first_taken : IsDelivery 0 1 (nodes ACCEPTED.end EMPTY) (nodes ACCEPTED.end TAKEN) (copy 0 1 FIRST ∷ []) ASKED ASKED 0 FIRST (ACK 0 ∷ [])
first_taken = record {
  before = servant EMPTY;
  after = servant TAKEN;
  outcome = record { sends = datagram 0 (ACK 0) ∷ []; performed = None; ended = []; dropped = None };
  between = ASKED;
  from_at = refl;
  to_at = refl;
  at = refl;
  foreign = apart;
  good = first_good;
  there = refl;
  may = refl;
  heard = record { node = refl; sends = sent 1 0 (ACK 0 ∷ []) (ack_good, tt); ended = refl; performed = tt; dropped = refl };
  nodes = record { here = refl; others = others_second (servant TAKEN) (servant EMPTY) (client ACCEPTED.end) };
  sends_are = refl;
  goods = (ack_good, tt);
  ended = refl;
  logged = refl;
}

first_acked : IsDelivery 1 0 (nodes ACCEPTED.end TAKEN) (nodes SENT TAKEN) (copy 0 1 FIRST ∷ copy 1 0 (ACK 0) ∷ []) ASKED ASKED 1 (ACK 0) (SECOND ∷ [])
first_acked = record {
  before = client ACCEPTED.end;
  after = client SENT;
  outcome = record { sends = datagram 1 SECOND ∷ []; performed = None; ended = []; dropped = None };
  between = ASKED;
  from_at = refl;
  to_at = refl;
  at = refl;
  foreign = λ e. apart (sym e);
  good = ack_good;
  there = refl;
  may = refl;
  heard = record { node = refl; sends = sent 0 1 (SECOND ∷ []) (second_good, tt); ended = tt; performed = refl; dropped = refl };
  nodes = record { here = refl; others = others_first (client SENT) (client ACCEPTED.end) (servant TAKEN) };
  sends_are = refl;
  goods = (second_good, tt);
  ended = refl;
  logged = refl;
}

abbrev DID : Performed
DID = record { key = slot 0; request = WRITE; reply = REPLY }

abbrev SERVED : Outcome
SERVED = record { sends = datagram 0 (ACK 1) ∷ datagram 0 ANSWER ∷ []; performed = Some DID; ended = []; dropped = None }

abbrev ServerTurn : machine.Outcome → Type 0
ServerTurn o = IsServerTurn (server_goes 0 TAKEN (slot 0) (done_by o)) 0 (servant TAKEN) (servant DONE) SERVED

turn : ServerTurn REPLIES
turn = record {
  node = refl;
  sends = sent 1 0 (ACK 1 ∷ ANSWER ∷ []) (last_ack_good, (answer_good, tt));
  ended = refl;
  performed = record { key = refl; what = record { request = spelled; reply = refl; means = (refl, refl) } };
  dropped = refl;
}

second_performed : IsDelivery 0 1 (nodes SENT TAKEN) (nodes SENT DONE) COPIES ASKED PERFORMED 2 SECOND (ACK 1 ∷ ANSWER ∷ [])
second_performed = record {
  before = servant TAKEN;
  after = servant DONE;
  outcome = SERVED;
  between = ASKED;
  from_at = refl;
  to_at = refl;
  at = refl;
  foreign = apart;
  good = second_good;
  there = refl;
  may = refl;
  heard = subst ServerTurn (sym says) turn;
  nodes = record { here = refl; others = others_second (servant DONE) (servant TAKEN) (client SENT) };
  sends_are = refl;
  goods = (last_ack_good, (answer_good, tt));
  ended = refl;
  logged = inl (record { client = 0; number = 0; link = refl; noted = refl; log = refl });
}

second_acked : IsDelivery 1 0 (nodes SENT DONE) (nodes WAITS DONE) ALL PERFORMED PERFORMED 3 (ACK 1) []
second_acked = record {
  before = client SENT;
  after = client WAITS;
  outcome = record { sends = []; performed = None; ended = []; dropped = None };
  between = PERFORMED;
  from_at = refl;
  to_at = refl;
  at = refl;
  foreign = λ e. apart (sym e);
  good = last_ack_good;
  there = refl;
  may = refl;
  heard = record { node = refl; sends = tt; ended = tt; performed = refl; dropped = refl };
  nodes = record { here = refl; others = others_first (client WAITS) (client SENT) (servant DONE) };
  sends_are = refl;
  goods = tt;
  ended = refl;
  logged = refl;
}

answer_taken : IsDelivery 1 0 (nodes WAITS DONE) (nodes CLOSED DONE) ALL PERFORMED ENDED 4 ANSWER []
answer_taken = record {
  before = client WAITS;
  after = client CLOSED;
  outcome = record { sends = []; performed = None; ended = record { ticket = 0; how = Answered REPLY } ∷ []; dropped = None };
  between = ENDED;
  from_at = refl;
  to_at = refl;
  at = refl;
  foreign = λ e. apart (sym e);
  good = answer_good;
  there = refl;
  may = refl;
  heard = record { node = refl; sends = tt; ended = (record { ticket = refl; how = (refl, refl) }, tt); performed = refl; dropped = refl };
  nodes = record { here = refl; others = others_first (client CLOSED) (client WAITS) (servant DONE) };
  sends_are = refl;
  goods = tt;
  ended = (0, refl, refl);
  logged = refl;
}

abbrev run : IsStraight 253 OPENING 0 1 LIMITS WRITE (Some (Answered REPLY)) 5 (world LIVES_5 (nodes CLOSED DONE) ALL ENDED)
run = record {
  asked = world LIVES (nodes ACCEPTED.end EMPTY) (copy 0 1 FIRST ∷ []) ASKED;
  asks = asked;
  delivers = (
    refl,
    world LIVES_1 (nodes ACCEPTED.end TAKEN) (copy 0 1 FIRST ∷ copy 1 0 (ACK 0) ∷ []) ASKED,
    delivers LIVES _ _ _ _ _ _ _ _ _ _ first_taken,
    (
      refl,
      world LIVES_2 (nodes SENT TAKEN) COPIES ASKED,
      delivers LIVES_1 _ _ _ _ _ _ _ _ _ _ first_acked,
      (
        refl,
        world LIVES_3 (nodes SENT DONE) ALL PERFORMED,
        delivers LIVES_2 _ _ _ _ _ _ _ _ _ _ second_performed,
        (
          refl,
          world LIVES_4 (nodes WAITS DONE) ALL PERFORMED,
          delivers LIVES_3 _ _ _ _ _ _ _ _ _ _ second_acked,
          (refl, world LIVES_5 (nodes CLOSED DONE) ALL ENDED, delivers LIVES_4 _ _ _ _ _ _ _ _ _ _ answer_taken, refl),
        ),
      ),
    ),
  );
  stops = inl refl;
  ending_is = refl;
}

pub in_segments : InSegments
in_segments = record {
  fresh = answered_run.fresh;
  timely = lives.today;
  bounded = answered_run.bounded;
  can = record {
    slot = refl;
    short = omega arith;
    goes = tt;
    client_window = omega arith;
    server_window = omega arith;
    room = omega arith;
  };
  last = world LIVES_5 (nodes CLOSED DONE) ALL ENDED;
  run = run;
  sent = refl;
}
