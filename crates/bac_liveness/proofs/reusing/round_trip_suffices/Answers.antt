-- One round trip suffices.
use Rattle.bac_liveness.proofs.FreshRoundTrips.{round_trip_anew}
use Rattle.bac_liveness.proofs.reusing.round_trip_suffices.Goals as goal

pub returns : goal.returns
returns c = λ u W overtake opening reached fresh timely bounded events run. round_trip_anew u W overtake opening reached fresh timely bounded events run
