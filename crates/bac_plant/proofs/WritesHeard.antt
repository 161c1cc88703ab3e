-- The write of a stranger that is performed.
use Rattle.std.proofs.Common.{◌≡◌, true, [], ◌∷◌, Some, None, IsTrue, refl, sym, ap, subst, inr, arith}
use Rattle.bac_value.specs.Data.{Forest as forest, IsWithin, spelling}
use Rattle.bac_value.specs.Number.{unsigned_octets}
use Rattle.bac_value.specs.Spelling.{tag_spelling}
use Rattle.bac_service.specs.declared.service.TheConstants.{WRITE_PROPERTY}
use Rattle.bac_service.specs.Requests.{SpellsRequest}
use Rattle.bac_service.proofs.Spelled.{request_spelled}
use Rattle.bac_service.proofs.Wholes.{request_again}
use Rattle.bac_apdu.specs.Apdu.{Apdu}
use Rattle.bac_apdu.specs.Apdu.Apdu.{ConfirmedRequest, Error}
use Rattle.bac_apdu.specs.Spelling.{apdu_fits, apdu_spelling}
use Rattle.bac_store.specs.Replies.{UNKNOWN_OBJECT}
use Rattle.bac_protocol.specs.Context.{Context}
use Rattle.bac_protocol.specs.Server as server
use Rattle.bac_protocol.specs.Server.{begins, performs_so}
use Rattle.bac_protocol.specs.Service as machine
use Rattle.bac_protocol.proofs.AtDrift.{lives}
use Rattle.bac_protocol.specs.Short.{IsShort}
use Rattle.bac_transaction.specs.Ends.{context_of, server_goes}
use Rattle.bac_transaction.specs.Services.{outcome_by, service_of}
use Rattle.bac_world.specs.AnsweredRun.{LIMITS, OPENING, SETTINGS, TIME, link, node}
use Rattle.bac_world.specs.Examples.{STORE}
use Rattle.bac_world.specs.Node.{IsServerTurn, Node, Outcome}
use Rattle.bac_world.specs.Once.{Fact as fact}
use Rattle.bac_world.specs.ReusingExamples.{WRITE}
use Rattle.bac_world.specs.ReusingWorlds.{HearsSo}
use Rattle.bac_world.specs.Services.{Performed}
use Rattle.bac_world.specs.World.{World, peer_at, with_act}
use Rattle.bac_world.proofs.Answered.{answered_run, datagram, means, no_node, not_own, others_second, sent}
use Rattle.bac_plant.specs.WritesExamples.{SERVICE_DATA, STRANGER, WriteOfStranger}

spelled : SpellsRequest WRITE_PROPERTY WRITE SERVICE_DATA
unfolding tag_spelling unsigned_octets IsWithin spelling
spelled = subst (SpellsRequest WRITE_PROPERTY WRITE) refl
    (request_spelled WRITE (
      record { kind_fits = omega arith; instance_fits = omega arith; property_fits = omega arith; index_fits = tt },
      (forest.none, record { within = tt; is = refl }),
      tt,
    ))

abbrev ASK : Apdu
ASK = ConfirmedRequest LIMITS 0 None WRITE_PROPERTY SERVICE_DATA

abbrev ANSWER : Apdu
ANSWER = Error 0 WRITE_PROPERTY 1 31

ask_fits : IsTrue (apdu_fits ASK)
unfolding apdu_fits
ask_fits = refl

answer_fits : IsTrue (apdu_fits ANSWER)
unfolding apdu_fits
answer_fits = refl

ask_short : IsShort ASK
unfolding apdu_spelling
ask_short = omega arith

answer_short : IsShort ANSWER
unfolding apdu_spelling
answer_short = omega arith

abbrev CONTEXT : Context
CONTEXT = context_of SETTINGS 0 STRANGER

abbrev done_by : machine.Outcome → server.Reaction
done_by o = performs_so CONTEXT (begins CONTEXT WRITE_PROPERTY LIMITS (Some SERVICE_DATA)) [] SERVICE_DATA o

abbrev REPLIES : machine.Outcome
REPLIES = machine.Outcome.Replies (machine.Reply.Error 1 31)

says : service_of STORE WRITE_PROPERTY SERVICE_DATA ≡ REPLIES
says = ap (outcome_by STORE) (request_again WRITE_PROPERTY SERVICE_DATA WRITE spelled)

abbrev PERFORMED : Performed
PERFORMED = record { key = STRANGER; request = WRITE; reply = UNKNOWN_OBJECT }

abbrev AFTER : Node
AFTER = record (node 1) { servers = (server_goes 0 (record { slots = []; capacity = 1; serves_from = 0 }) STRANGER (done_by REPLIES)).end }

abbrev SERVED : Outcome
SERVED = record { sends = datagram (link 2) ANSWER ∷ []; performed = Some PERFORMED; ended = []; dropped = None }

abbrev Turn : machine.Outcome → Type 0
Turn o = IsServerTurn (server_goes 0 (record { slots = []; capacity = 1; serves_from = 0 }) STRANGER (done_by o)) 0 (node 1) AFTER SERVED

turn : Turn REPLIES
turn = record {
  node = refl;
  sends = (sent (link 2) ANSWER answer_fits answer_short, tt);
  ended = refl;
  performed = record { key = refl; what = record { request = spelled; reply = refl; means = (refl, refl) } };
  dropped = refl;
}

abbrev LAST : World
LAST =
    record {
      nodes = node 0 ∷ AFTER ∷ [];
      time = TIME;
      lives = with_act OPENING.lives 1;
      copies = [];
      log = fact.Served (peer_at (link 2)) 1 0 0 WRITE UNKNOWN_OBJECT ∷ [];
      notes = [];
    }

abbrev hears : HearsSo true OPENING 1 (link 2) (datagram (link 1) ASK).octets LAST
hears = record {
  before = node 1;
  at = refl;
  after = AFTER;
  outcome = SERVED;
  on = (
    true,
    inr (record {
      peer = peer_at (link 2);
      apdu = ASK;
      foreign = not_own;
      means = means (link 2) (link 1) ASK ask_fits ask_short;
      heard = subst Turn (sym says) turn;
    }),
  );
  acts = record {
    nodes = record { here = refl; others = others_second AFTER (node 1) (node 0) };
    time = refl;
    lives = refl;
    notes = refl;
    sent = [];
    copies = refl;
    copied = inr (no_node, refl);
    between = [];
    ended = refl;
    logged = inr (record { stranger = no_node; begin = 0; log = refl });
  };
}

pub write_of_stranger : WriteOfStranger
write_of_stranger = record {
  fresh = answered_run.fresh;
  timely = lives.today;
  bounded = answered_run.bounded;
  last = LAST;
  performs = record {
    link = link 2;
    datagram = (datagram (link 1) ASK).octets;
    hears = hears;
    stranger = no_node;
    limits = LIMITS;
    means = means (link 2) (link 1) ASK ask_fits ask_short;
    write = refl;
    performed = PERFORMED;
    is = refl;
  };
  log = refl;
}
