use Rattle.bac_service.proofs.Wholes.{request_again, request_takes, request_has_octets}
use Rattle.bac_service.proofs.laws.requests_are_read.Goals as goal

pub returns : goal.returns
returns c =
    record { read = λ choice r bytes. request_again choice bytes r; spelled = λ choice r bytes. request_takes choice bytes r; some = request_has_octets }
