-- What strangers have performed is apart.
use Rattle.bac_protocol.proofs.Headline.{apart_in_run}
use Rattle.bac_protocol.proofs.strangers_are_served_apart.Goals as goal

pub returns : goal.returns
returns g c = λ model opening W rules bound pace timely clocks events. apart_in_run _ model opening W rules bound pace timely clocks events
