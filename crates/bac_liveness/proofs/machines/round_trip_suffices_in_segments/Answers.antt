use Rattle.bac_liveness.proofs.SentAll.{round_trips_in_segments}
use Rattle.bac_liveness.proofs.machines.round_trip_suffices_in_segments.Goals as goal

pub returns : goal.returns
returns g c = λ model opening W rules bound pace timely clocks events. round_trips_in_segments _ model opening W rules bound pace timely clocks events
