-- The run in which an ask is answered.
use Rattle.std.proofs.Common.{◌≡◌, ◌≢◌, ℕ, zero, suc, ◌≤◌, true, List, [], ◌∷◌, length, Some, None, slice_get, IsTrue}
use Rattle.std.proofs.Common.{refl, sym, ap, subst, inl, inr, ◌∙◌, arith}
use Rattle.bac_value.specs.Spelling.{tag_spelling}
use Rattle.bac_value.specs.Number.{unsigned_octets}
use Rattle.bac_apdu.specs.Apdu.{Apdu}
use Rattle.bac_apdu.specs.Apdu.Apdu.{ConfirmedRequest, Error}
use Rattle.bac_apdu.specs.Spelling.{SpellsApdu, apdu_fits, apdu_spelling, is_confirmed_request}
use Rattle.bac_npdu.specs.Datagram.{Means, IsFrameTo, frame}
use Rattle.bac_npdu.proofs.Datagrams.{frame_means}
use Rattle.bac_service.specs.Requests.{SpellsRequest}
use Rattle.bac_service.proofs.Spelled.{request_spelled}
use Rattle.bac_service.proofs.Wholes.{request_again}
use Rattle.bac_protocol.specs.Context.{Context}
use Rattle.bac_protocol.specs.Pace.{Pace, one_clock}
use Rattle.bac_protocol.specs.Service.{Octets}
use Rattle.bac_protocol.specs.Service as machine
use Rattle.bac_protocol.specs.Short.{IsShort}
use Rattle.bac_protocol.specs.Server as server
use Rattle.bac_protocol.specs.Server.{performs_so, begins, ServerTransaction}
use Rattle.bac_transaction.specs.Keys.{PeerKey}
use Rattle.bac_transaction.specs.Sends.{Datagram, IsSent, to_peer}
use Rattle.bac_transaction.specs.Meanings.Ending.{Answered}
use Rattle.bac_transaction.specs.Ends.{Accepted, accepts, context_of, server_goes, requester_on_apdu}
use Rattle.bac_transaction.specs.Services.{service_of, outcome_by}
use Rattle.bac_service.specs.Services.{reads_reply}
use Rattle.bac_world.specs.Node.{Node, Outcome, IsServerTurn, NodeAsks}
use Rattle.bac_world.specs.Once.{Fact}
use Rattle.bac_world.specs.World.{World, Copy, Note, Hears, IsAsked, IsDelivered, IsFreshNode, IsCopied, link_at, peer_at, with_act, with_ask}
use Rattle.bac_world.specs.Examples.{REQUEST, REPLY, STORE, ASKED}
use Rattle.bac_world.specs.AnsweredRun.{TIME, LIMITS, SETTINGS, link, node, OPENING, LOG, AnsweredRun, StrangerRun}

abbrev pub SERVICE_DATA : Octets
SERVICE_DATA = 12 ∷ 0 ∷ 0 ∷ 0 ∷ 5 ∷ 25 ∷ 85 ∷ []

pub spelled : SpellsRequest 12 REQUEST SERVICE_DATA
unfolding tag_spelling unsigned_octets
spelled = subst (SpellsRequest 12 REQUEST) refl
    (request_spelled REQUEST (record { kind_fits = omega arith; instance_fits = omega arith; property_fits = omega arith; index_fits = tt }))

abbrev pub ASK : Apdu
ASK = ConfirmedRequest LIMITS 0 None 12 SERVICE_DATA

abbrev pub ANSWER : Apdu
ANSWER = Error 0 12 1 31

pub ask_fits : IsTrue (apdu_fits ASK)
unfolding apdu_fits
ask_fits = refl

pub answer_fits : IsTrue (apdu_fits ANSWER)
unfolding apdu_fits
answer_fits = refl

pub ask_short : IsShort ASK
unfolding apdu_spelling
ask_short = omega arith

pub answer_short : IsShort ANSWER
unfolding apdu_spelling
answer_short = omega arith

-- What goes out, and what it means.

abbrev pub datagram : Octets → Apdu → Datagram
datagram to a = record { to = to; octets = frame (peer_at to) (is_confirmed_request a) (apdu_spelling a) }

framed : (to : Octets) (a : Apdu) → IsTrue (apdu_fits a) → IsFrameTo SpellsApdu is_confirmed_request (peer_at to) a (datagram to a).octets
framed to a fits = record { apdu_octets = apdu_spelling a; spelled = record { fits = fits; is = refl }; is = refl }

pub sent : (to : Octets) (a : Apdu) → IsTrue (apdu_fits a) → IsShort a → IsSent (to_peer (peer_at to) a) (datagram to a)
sent to a fits short = record { link = refl; frame = framed to a fits; short = short }

pub means : (from to : Octets) (a : Apdu) → IsTrue (apdu_fits a) → IsShort a → Means SpellsApdu from (datagram to a).octets (peer_at from) a
means from to a fits short = frame_means SpellsApdu is_confirmed_request from to (datagram to a).octets a
    (λ text s. subst (λ (l : Octets). length l ≤ 1476) (sym s.is) short) (framed to a fits)

pub apart : link 0 ≢ link 1
apart e = cc

-- The ask.

abbrev key : ℕ → PeerKey
key n = record { peer = peer_at (link n); invoke_id = 0 }

abbrev pub ACCEPTED : Accepted
ACCEPTED = accepts SETTINGS 0 (key 1) (record { first = 0; choice = 12; whole = true; pieces = SERVICE_DATA ∷ [] })
    (record { slots = []; capacity = 1; asked = 0; asks_from = 0; first_id = 0 })

abbrev pub ASKED_NODE : Node
ASKED_NODE = record (node 0) { clients = ACCEPTED.end }

abbrev pub copy : (from to : ℕ) → Apdu → Copy
copy from to a =
    record { moment = 0; from = from; to = to; key = record { client = 0; server = 1; invoke_id = 0 }; octets = (datagram (link to) a).octets }

abbrev pub NOTES : List Note
NOTES = record { key = record { client = 0; server = 1; invoke_id = 0 }; ticket = 0; away = None } ∷ []

abbrev pub SECOND : World
SECOND =
    record {
      nodes = ASKED_NODE ∷ node 1 ∷ [];
      time = TIME;
      lives = with_ask TIME OPENING.lives 0;
      copies = copy 0 1 ASK ∷ [];
      log = ASKED;
      notes = NOTES;
    }

pub ask_copied : IsCopied OPENING.nodes 0 0 (datagram (link 1) ASK) (copy 0 1 ASK)
ask_copied = record {
  moment = refl;
  from = refl;
  to = refl;
  octets = refl;
  transaction = record {
    link = link 0;
    sender = refl;
    peer = peer_at (link 0);
    apdu = ASK;
    means = means (link 0) (link 1) ASK ask_fits ask_short;
    key = refl;
  };
}

pub others_first : {A : Type 0} (a b c : A) (j : ℕ) → j ≢ 0 → slice_get (a ∷ c ∷ []) j ≡ slice_get (b ∷ c ∷ []) j
others_first a b c zero ne = absurd (ne refl)
others_first a b c (suc j) ne = refl

pub others_second : {A : Type 0} (a b c : A) (j : ℕ) → j ≢ 1 → slice_get (c ∷ a ∷ []) j ≡ slice_get (c ∷ b ∷ []) j
others_second a b c zero ne = refl
others_second a b c (suc zero) ne = absurd (ne refl)
others_second a b c (suc (suc j)) ne = refl

abbrev pub asks : NodeAsks 0 (peer_at (link 1)) LIMITS REQUEST (node 0) ASKED_NODE ACCEPTED (datagram (link 1) ASK ∷ [])
asks = record {
  octets = SERVICE_DATA;
  spelled = spelled;
  foreign = λ e. apart (sym e);
  accepted = refl;
  node = refl;
  sent = (sent (link 1) ASK ask_fits ask_short, tt);
}

-- whatever clocks do from then on
abbrev pub asked_at : (pace : Pace) → IsAsked (record (OPENING) { time = record (TIME) { pace = pace } }) 0 1 LIMITS REQUEST
    (record (SECOND) { time = record (TIME) { pace = pace }; lives = with_ask (record (TIME) { pace = pace }) OPENING.lives 0 })
asked_at pace = record {
  before = node 0;
  at = refl;
  link = link 1;
  peer = refl;
  after = ASKED_NODE;
  accepted = ACCEPTED;
  sends = datagram (link 1) ASK ∷ [];
  asks = asks;
  nodes = record { here = refl; others = others_first ASKED_NODE (node 0) (node 1) };
  time = refl;
  lives = refl;
  sent = copy 0 1 ASK ∷ [];
  copies = refl;
  copied = (ask_copied, tt);
  notes = refl;
  log = refl;
}

abbrev pub asked : IsAsked OPENING 0 1 LIMITS REQUEST SECOND
asked = asked_at one_clock

-- Node 1 hears the request from the peer at link n.

abbrev context : (now n : ℕ) → Context
context now n = context_of SETTINGS now (key n)

abbrev done_by : (now n : ℕ) → machine.Outcome → server.Reaction
done_by now n o = performs_so (context now n) (begins (context now n) 12 LIMITS (Some SERVICE_DATA)) [] SERVICE_DATA o

abbrev REPLIES : machine.Outcome
REPLIES = machine.Outcome.Replies (machine.Reply.Error 1 31)

says : service_of STORE 12 SERVICE_DATA ≡ REPLIES
says = ap (outcome_by STORE) (request_again 12 SERVICE_DATA REQUEST spelled)

abbrev pub served_node : (now n : ℕ) → Node
served_node now n = record (node 1) { latest = now; servers = (server_goes now (node 1).servers (key n) (done_by now n REPLIES)).end }

abbrev pub served_outcome : ℕ → Outcome
served_outcome n = record
    { sends = datagram (link n) ANSWER ∷ []; performed = Some (record { key = key n; request = REQUEST; reply = REPLY }); ended = []; dropped = None }

abbrev ServerTurn : (now n : ℕ) → machine.Outcome → Type 0
ServerTurn now n o = IsServerTurn (server_goes now (node 1).servers (key n) (done_by now n o)) now (node 1) (served_node now n) (served_outcome n)

turn : (now n : ℕ) → ServerTurn now n REPLIES
turn now n = record {
  node = refl;
  sends = (sent (link n) ANSWER answer_fits answer_short, tt);
  ended = refl;
  performed = record { key = refl; what = record { request = spelled; reply = refl; means = (refl, refl) } };
  dropped = refl;
}

pub request_served : (now n : ℕ) → ServerTurn now n (service_of STORE 12 SERVICE_DATA)
request_served now n = subst (ServerTurn now n) (sym says) (turn now n)

-- The request is delivered.

abbrev SERVED_NODE : Node
SERVED_NODE = served_node 0 0

abbrev pub THIRD : World
THIRD =
    record {
      nodes = ASKED_NODE ∷ SERVED_NODE ∷ [];
      time = TIME;
      lives = with_act SECOND.lives 1;
      copies = copy 0 1 ASK ∷ copy 1 0 ANSWER ∷ [];
      log = Fact.Performed 0 REQUEST REPLY ∷ ASKED;
      notes = NOTES;
    }

answer_copied : IsCopied SECOND.nodes 0 1 (datagram (link 0) ANSWER) (copy 1 0 ANSWER)
answer_copied = record {
  moment = refl;
  from = refl;
  to = refl;
  octets = refl;
  transaction = record {
    link = link 1;
    sender = refl;
    peer = peer_at (link 1);
    apdu = ANSWER;
    means = means (link 1) (link 0) ANSWER answer_fits answer_short;
    key = refl;
  };
}

served : Hears SECOND 1 (link 0) (copy 0 1 ASK).octets THIRD
served = record {
  before = node 1;
  at = refl;
  after = SERVED_NODE;
  outcome = served_outcome 0;
  on = inr (record {
    peer = peer_at (link 0);
    apdu = ASK;
    foreign = apart;
    means = means (link 0) (link 1) ASK ask_fits ask_short;
    heard = request_served 0 0;
  });
  acts = record {
    nodes = record { here = refl; others = others_second SERVED_NODE (node 1) ASKED_NODE };
    time = refl;
    lives = refl;
    notes = refl;
    sent = copy 1 0 ANSWER ∷ [];
    copies = refl;
    copied = inl (record { copy = copy 1 0 ANSWER; rest = []; is = refl; copied = answer_copied; others = refl });
    between = ASKED;
    ended = refl;
    logged = inl (record { client = 0; number = 0; link = refl; noted = refl; log = refl });
  };
}

pub request_delivered : IsDelivered 253 SECOND 0 THIRD
request_delivered = record { copy = copy 0 1 ASK; there = refl; goes = record { link = link 0; sender = refl; hears = served } }

-- The answer is delivered.

abbrev ENDED_NODE : Node
ENDED_NODE = record (node 0) { clients = (requester_on_apdu SETTINGS reads_reply 0 (peer_at (link 1)) ANSWER ACCEPTED.end).end }

abbrev ENDED : Outcome
ENDED = record { sends = []; performed = None; ended = record { ticket = 0; how = Answered REPLY } ∷ []; dropped = None }

abbrev pub LAST : World
LAST =
    record {
      nodes = ENDED_NODE ∷ SERVED_NODE ∷ [];
      time = TIME;
      lives = with_act THIRD.lives 0;
      copies = THIRD.copies;
      log = LOG;
      notes = NOTES;
    }

heard : Hears THIRD 0 (link 1) (copy 1 0 ANSWER).octets LAST
heard = record {
  before = ASKED_NODE;
  at = refl;
  after = ENDED_NODE;
  outcome = ENDED;
  on = inr (record {
    peer = peer_at (link 1);
    apdu = ANSWER;
    foreign = λ e. apart (sym e);
    means = means (link 1) (link 0) ANSWER answer_fits answer_short;
    heard = record { node = refl; sends = tt; ended = (record { ticket = refl; how = (refl, refl) }, tt); performed = refl; dropped = refl };
  });
  acts = record {
    nodes = record { here = refl; others = others_first ENDED_NODE ASKED_NODE SERVED_NODE };
    time = refl;
    lives = refl;
    notes = refl;
    sent = [];
    copies = refl;
    copied = refl;
    between = LOG;
    ended = (0, refl, refl);
    logged = refl;
  };
}

pub answer_delivered : IsDelivered 253 THIRD 1 LAST
answer_delivered = record { copy = copy 1 0 ANSWER; there = refl; goes = record { link = link 1; sender = refl; hears = heard } }

-- The world at its beginning.

fresh_node : (n : ℕ) → IsFreshNode (node n)
fresh_node n = record { latest = refl; slots = refl; asked = refl; asks_from = refl; entries = refl; serves_from = refl }

-- what holds of both nodes holds of each
each_node : (P : Node → Type 0) → P (node 0) → P (node 1) → (i : ℕ) (n : Node) → slice_get OPENING.nodes i ≡ Some n → P n
each_node P p q zero n e = let same : node 0 ≡ n = cc in subst P same p
each_node P p q (suc zero) n e = let same : node 1 ≡ n = cc in subst P same q
each_node P p q (suc (suc i)) n e = absurd cc

links_apart : (i j : ℕ) (l : Octets) → link_at OPENING.nodes i ≡ Some l → link_at OPENING.nodes j ≡ Some l → i ≡ j
links_apart zero zero l e f = refl
links_apart zero (suc zero) l e f = let a : link 0 ≡ l = cc in let b : link 1 ≡ l = cc in absurd (apart (a ∙ sym b))
links_apart zero (suc (suc j)) l e f = absurd cc
links_apart (suc zero) zero l e f = let a : link 0 ≡ l = cc in let b : link 1 ≡ l = cc in absurd (apart (a ∙ sym b))
links_apart (suc zero) (suc zero) l e f = refl
links_apart (suc zero) (suc (suc j)) l e f = absurd cc
links_apart (suc (suc i)) j l e f = absurd cc

pub answered_run : AnsweredRun
answered_run = record {
  fresh = record {
    nodes = each_node IsFreshNode (fresh_node 0) (fresh_node 1);
    apart = links_apart;
    lives = λ i. refl;
    now = refl;
    clocks = λ i. refl;
    copies = refl;
    log = refl;
    notes = refl;
  };
  bounded = record {
    some = omega arith;
    windows = each_node (λ n. n.settings.window ≤ 1) (omega arith) (omega arith);
    room = omega arith;
  };
  last = LAST;
  run = (SECOND, inl asked, (THIRD, request_delivered, (LAST, answer_delivered, refl)));
  log = refl;
}

-- A stranger's request is heard.

pub no_node : (j : ℕ) → link_at OPENING.nodes j ≡ Some (link 2) → ⊥
no_node zero e = let is : link 0 ≡ link 2 = cc in cc
no_node (suc zero) e = let is : link 1 ≡ link 2 = cc in cc
no_node (suc (suc j)) e = absurd cc

pub not_own : link 2 ≢ link 1
not_own e = cc

abbrev STRANGER_NODE : Node
STRANGER_NODE = served_node 0 2

abbrev STRANGER_ENTRY : ServerTransaction
STRANGER_ENTRY = record (begins (context 0 2) 12 LIMITS (Some SERVICE_DATA)) { state = server.State.Done ANSWER }

abbrev STRANGER_WORLD : World
STRANGER_WORLD =
    record {
      nodes = node 0 ∷ STRANGER_NODE ∷ [];
      time = TIME;
      lives = with_act OPENING.lives 1;
      copies = [];
      log = Fact.Served (peer_at (link 2)) 1 0 0 REQUEST REPLY ∷ [];
      notes = [];
    }

stranger_served : Hears OPENING 1 (link 2) (datagram (link 1) ASK).octets STRANGER_WORLD
stranger_served = record {
  before = node 1;
  at = refl;
  after = STRANGER_NODE;
  outcome = served_outcome 2;
  on = inr (record {
    peer = peer_at (link 2);
    apdu = ASK;
    foreign = not_own;
    means = means (link 2) (link 1) ASK ask_fits ask_short;
    heard = request_served 0 2;
  });
  acts = record {
    nodes = record { here = refl; others = others_second STRANGER_NODE (node 1) (node 0) };
    time = refl;
    lives = refl;
    notes = refl;
    sent = [];
    copies = refl;
    copied = inr (no_node, refl);
    between = [];
    ended = refl;
    logged = inr (record { stranger = no_node; entry = STRANGER_ENTRY; kept = refl; log = refl });
  };
}

pub stranger_run : StrangerRun
stranger_run = record {
  octets = (datagram (link 1) ASK).octets;
  last = STRANGER_WORLD;
  run = (STRANGER_WORLD, inl (record { stranger = no_node; hears = stranger_served }), refl);
  log = refl;
  copies = refl;
}
