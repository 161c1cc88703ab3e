-- What is claimed of runs in stretches.
use Rattle.bac_protocol.proofs.Stretched.{apart_in, later_found, left_in, newest_in, replies_near, requests_near}
use Rattle.bac_protocol.proofs.stretches.claims_hold.Goals as goal

pub returns-clause-apart : goal.returns-clause-apart
returns-clause-apart g c = λ model opening W stretches bounded pace timely clocks. apart_in _ model opening W stretches bounded pace timely clocks

pub returns-clause-left : goal.returns-clause-left
returns-clause-left g c = λ model opening W stretches bounded pace timely clocks. left_in _ model opening W stretches bounded pace timely clocks

pub returns-clause-newest : goal.returns-clause-newest
returns-clause-newest g c = λ model opening W stretches bounded pace timely clocks rules bound.
    newest_in _ model opening W stretches bounded pace timely clocks rules bound

pub returns-clause-requests : goal.returns-clause-requests
returns-clause-requests g c = λ model opening W stretches bounded pace timely clocks rules bound.
    requests_near _ model opening W stretches bounded pace timely clocks rules bound

pub returns-clause-replies : goal.returns-clause-replies
returns-clause-replies g c = λ model opening W stretches bounded pace timely clocks rules bound.
    replies_near _ model opening W stretches bounded pace timely clocks rules bound

pub returns-clause-later_passes : goal.returns-clause-later_passes
returns-clause-later_passes g c = λ model opening W stretches bounded pace timely clocks rules bound.
    later_found _ model opening W stretches bounded pace timely clocks rules bound
