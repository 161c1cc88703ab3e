-- The runs are computed.
use Rattle.std.proofs.Common.{refl, inl, arith}
use Rattle.bac_protocol.specs.World.{post_of}
use Rattle.bac_protocol.specs.Examples.{key, rules, append_apdu, position, position_apdu}
use Rattle.bac_protocol.proofs.AtDrift.{lives}
use Rattle.bac_liveness.specs.Examples.{whole_ask, LateTick, LateAnswer, OneRoundTrip, SecondRoundTrip, RoundTripOfSegment, FourthSending, LateTurn}
use Rattle.bac_liveness.specs.Examples.{StoppedReply, HalfWindow}
use Rattle.bac_liveness.specs.RoundTrip.{FitsInOne}
use Rattle.bac_liveness.specs.Failures.{WindowUsedUp, ReplyUsedUp, TooOld, OutOfPatience, RepeatWasted, OldAbort}

pub late_tick : LateTick
late_tick = record {
  bounded = record { some = omega arith; windows = λ node. omega arith; room = omega arith };
  timely = lives.today;
  ticket = refl;
  late = omega arith;
  client = (0, omega arith, refl);
  ends = refl;
}

pub late_answer : LateAnswer
late_answer = record {
  late = omega arith;
  answer = record { post = post_of key 58000 position_apdu; at = refl; key_is = refl; apdu_is = refl; arrives = refl };
  ends = refl;
}

whole_fits : FitsInOne (rules 3) key whole_ask position
whole_fits = record { way = refl; kind = (refl, refl) }

pub one_round_trip : OneRoundTrip
one_round_trip = record {
  ticket = refl;
  fits = whole_fits;
  performs = record { none = refl; slot = refl; serving = omega arith; outcome = refl };
  request = record { post = post_of key 3000 append_apdu; at = refl; key_is = refl; apdu_is = refl; arrives = refl };
  going = record { ticket = _; at = refl; going = refl; in_time = omega arith };
  answer = record { post = post_of key 3000 position_apdu; at = refl; key_is = refl; apdu_is = refl; arrives = refl };
  ends = refl;
}

pub second_round_trip : SecondRoundTrip
second_round_trip = record {
  ticket = refl;
  keeps = record { entry = _; at = refl; live = refl; request_is = refl; state = refl };
  request = record { post = post_of key 3000 append_apdu; at = refl; key_is = refl; apdu_is = refl; arrives = refl };
  ends = refl;
}

pub round_trip_of_segment : RoundTripOfSegment
round_trip_of_segment = record {
  windows = record { client = omega arith; server = omega arith };
  ask = refl;
  fits = record { way = refl; kind = (refl, refl) };
  keeps = record { entry = _; at = refl; live = refl; request_is = refl; state = refl };
  request = record { post = _; at = refl; key_is = refl; apdu_is = refl; arrives = refl };
  going = record { ticket = _; at = refl; going = refl; in_time = omega arith };
  answer = record { post = post_of key 2000 position_apdu; at = refl; key_is = refl; apdu_is = refl; arrives = refl };
  ends = refl;
}

pub fourth_sending : FourthSending
fourth_sending = record {
  free = refl;
  ticket = refl;
  due = omega arith;
  finds = (
    tt,
    (
      tt,
      (
        tt,
        (
          tt,
          (
            tt,
            (tt, ((λ m none. (position, record { none = refl; slot = refl; serving = omega arith; outcome = refl }, whole_fits)), (tt, tt))),
          ),
        ),
      ),
    ),
  );
  young = omega arith;
  request = record { post = post_of key 9000 append_apdu; at = refl; key_is = refl; apdu_is = refl; arrives = refl };
  answer = record { post = post_of key 9000 position_apdu; at = refl; key_is = refl; apdu_is = refl; arrives = refl };
  ends = refl;
}

pub late_turn : LateTurn
late_turn = record {
  ticket = refl;
  due = record { waits = refl; left = omega arith; due = omega arith; in_time = omega arith };
  performs = record { none = refl; slot = refl; serving = omega arith; outcome = refl };
  ends = refl;
}

pub stopped_reply : StoppedReply
stopped_reply = record {
  out = _;
  stopped = record { entry = _; at = refl; live = refl; request_is = refl; since = _; state = refl };
  request = record { post = post_of key 8000 append_apdu; at = refl; key_is = refl; apdu_is = refl; arrives = refl };
  ends = refl;
}

pub half_window : HalfWindow
half_window = record {
  ticket = _;
  is = refl;
  straight = record { client = omega arith; server = omega arith; small = omega arith; room = omega arith };
  can = record {
    going = refl;
    in_time = omega arith;
    serving = omega arith;
    request = (omega arith, omega arith);
    way = tt;
    kind = (refl, refl);
    gives =
        refl;
  };
  turn = inl ((omega arith, omega arith), omega arith, refl, refl);
  not_yet = refl;
  ends = refl;
}

pub window_used_up : WindowUsedUp
window_used_up = record { before = refl; after = refl; silent = refl }

pub reply_used_up : ReplyUsedUp
reply_used_up = record { before = refl; after = refl; silent = refl }

pub too_old : TooOld
too_old = record { ends = refl }

pub out_of_patience : OutOfPatience
out_of_patience = record { in_time = refl; late = refl }

pub repeat_wasted : RepeatWasted
repeat_wasted = record { before = refl; sent = refl; after = refl; silent = refl }

pub old_abort : OldAbort
old_abort = record { ends = refl }
