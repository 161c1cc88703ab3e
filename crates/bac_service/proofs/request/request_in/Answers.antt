use Rattle.std.proofs.Common.{rules}
use Rattle.bac_service.specs.Refusals.{reason_number}
use Rattle.bac_service.specs.Requests.{request_at}
use Rattle.bac_service.proofs.Wholes.{request_takes, request_made, request_refused}
use Rattle.bac_service.proofs.request.request_in.Goals as goal

pub returns-in-0-clause-spelled : goal.returns-in-0-clause-spelled
unfolding request_at
returns-in-0-clause-spelled g c = request_takes c.args.choice (g.O.Octets.octets c.args.octets) _ c.len-count.ensures.each (search rules)

pub returns-in-0-clause-made : goal.returns-in-0-clause-made
unfolding request_at
returns-in-0-clause-made g c = request_made c.args.choice (g.O.Octets.octets c.args.octets) _ c.len-count.ensures.each (search rules)

pub returns-in_default-len-clause-refused : goal.returns-in_default-len-clause-refused
unfolding request_at
returns-in_default-len-clause-refused g c = request_refused c.args.choice (g.O.Octets.octets c.args.octets) (reason_number c.reject.result) (search rules)

pub returns-in-Err-clause-refused : goal.returns-in-Err-clause-refused
unfolding request_at
returns-in-Err-clause-refused g c =
    request_refused c.args.choice (g.O.Octets.octets c.args.octets) (reason_number c.reject-in-Err.result) (search rules)
