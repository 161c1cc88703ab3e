use Rattle.std.proofs.Common.{refl}
use Rattle.bac_driver.specs.Views.{turn_view}
use Rattle.bac_driver.proofs.pairing.take_round.Goals as goal

pub returns-clause-taken : goal.returns-clause-taken
returns-clause-taken g c =
    record {
      round = record { of_first = turn_view c.in_ok-turn.turn; of_second = turn_view c.in-Ok.field-0 };
      is = refl;
      takes =
          record {
            told = _;
            first = c.in_ok-turn.ensures.taken;
            wait_limit = c.wait_limit_beside.result;
            beside = c.wait_limit_beside.ensures;
            second = c.in-Ok.ensures.taken;
          };
    }
