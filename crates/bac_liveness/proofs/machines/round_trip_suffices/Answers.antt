use Rattle.bac_liveness.proofs.RoundTrips.{round_trips}
use Rattle.bac_liveness.proofs.machines.round_trip_suffices.Goals as goal

pub returns : goal.returns
returns g c = λ model opening W rules bound pace timely clocks events. round_trips _ model opening W rules bound pace timely clocks events
