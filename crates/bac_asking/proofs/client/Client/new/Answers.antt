-- The clock was made, and has printed one moment.
use Rattle.std.proofs.Common.{refl}
use Rattle.bac_asking.proofs.client.Client.new.Goals as goal

pub returns-clause-clock : goal.returns-clause-clock
returns-clause-clock g c =
    record {
      made = g.M.Timer.Clock.told c.in-Some.clock;
      clock = record { timer = c.in-Some.clock; made = c.in-Some.ensures; is = refl };
      looks = c.in-Ok.ensures.looked;
    }
