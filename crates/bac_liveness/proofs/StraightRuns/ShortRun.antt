-- The straight run of a request of one APDU.
use Rattle.std.proofs.Common.{Some, refl, inl, arith}
use Rattle.bac_protocol.proofs.AtDrift.{lives}
use Rattle.bac_transaction.specs.Meanings.Ending.{Answered}
use Rattle.bac_world.specs.Examples.{REQUEST, REPLY}
use Rattle.bac_world.specs.AnsweredRun.{LIMITS, OPENING}
use Rattle.bac_world.proofs.Answered.{LAST, SECOND, THIRD, answer_delivered, answered_run, asked, request_delivered}
use Rattle.bac_liveness.specs.StraightRuns.{IsStraight}
use Rattle.bac_liveness.specs.StraightExamples.{OfOneApdu}

abbrev run : IsStraight 253 OPENING 0 1 LIMITS REQUEST (Some (Answered REPLY)) 2 LAST
run = record {
  asked = SECOND;
  asks = asked;
  delivers = (refl, THIRD, request_delivered, (refl, LAST, answer_delivered, refl));
  stops = inl refl;
  ending_is = refl;
}

pub of_one_apdu : OfOneApdu
of_one_apdu = record {
  fresh = answered_run.fresh;
  timely = lives.today;
  bounded = answered_run.bounded;
  can = record {
    slot = refl;
    short = omega arith;
    goes = tt;
    client_window = omega arith;
    server_window = omega arith;
    room = omega arith;
  };
  last = LAST;
  run = run;
  sent = refl;
}
