-- What a loop over the copies of an ask needs.
use Rattle.std.proofs.Common.{ℕ, List}
use Rattle.bac_protocol.specs.Pace.{IsTimely}
use Rattle.bac_world.specs.World.{World, Event, WorldRun, WorldStep, IsFresh, IsBounded}
use Rattle.bac_network.specs.Tells.{LogTells, LoopGoesOn}
use Rattle.bac_network.proofs.Deliveries.{none_yet, one_more}
use Rattle.bac_network.proofs.Grown.{since_grows, delivered_grows}
use Rattle.bac_network.proofs.Results.{asked_since, delivered_run, delivered_straight, soon}

pub loop_goes_on : LoopGoesOn
loop_goes_on = record {
  first = λ overtake ask. none_yet (WorldStep overtake) ask;
  next = λ overtake ask. one_more (WorldStep overtake) ask;
  since = λ overtake ask since number u v h step. since_grows since ask u.log v.log (delivered_grows overtake number u v step) h;
}

pub log_tells : (W overtake : ℕ) (first old : World) → IsFresh first → IsTimely first.time.pace → IsBounded W overtake first
    → (events : List Event) → WorldRun overtake first events old → LogTells overtake old
log_tells W overtake first old fresh timely bounded events run = record {
  since = asked_since W overtake first old fresh timely bounded events run;
  run = λ client server limits r asked new asks count each.
      delivered_run W overtake first old fresh timely bounded events run client server limits r asked new asks count each;
  straight = λ client server limits r asked new asks count each stops.
      delivered_straight W overtake first old fresh timely bounded events run client server limits r asked new asks count each stops;
  answers = λ client server r ending count new g well well_too a b can.
      soon W overtake first old fresh timely bounded events run client server r ending count new g well well_too a b can;
}
