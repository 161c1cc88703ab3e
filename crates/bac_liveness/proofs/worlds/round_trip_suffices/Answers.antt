-- One round trip suffices.
use Rattle.bac_liveness.proofs.WorldRoundTrips.{round_trip_suffices}
use Rattle.bac_liveness.proofs.worlds.round_trip_suffices.Goals as goal

pub returns : goal.returns
returns c = λ W overtake opening reached fresh timely bounded events run. round_trip_suffices W overtake opening reached fresh timely bounded events run
