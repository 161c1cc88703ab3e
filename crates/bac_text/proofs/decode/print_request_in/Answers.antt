use Rattle.bac_service.specs.Views.{request_view}
use Rattle.bac_text.proofs.Printed.{request_line, request_refused}
use Rattle.bac_text.proofs.decode.print_request_in.Goals as goal

pub returns-in_default : goal.returns-in_default
returns-in_default g c = request_refused _ _ _ c.in_default.ensures.refused

pub returns-in-Some : goal.returns-in-Some
returns-in-Some g c =
    request_line _ _ _ (request_view c.in-Some.request) _ _ (rw c.in-Some.is at c.in-Ok.ensures.found) c.print_request.ensures
