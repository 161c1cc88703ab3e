use Rattle.std.proofs.Common.{rules}
use Rattle.bac_service.specs.Requests.{request_view}
use Rattle.bac_service.proofs.Wholes.{request_spelled}
use Rattle.bac_service.proofs.request.request_len.Goals as goal

pub returns-in-ReadFile-clause-spelled : goal.returns-in-ReadFile-clause-spelled
returns-in-ReadFile-clause-spelled c = request_spelled (request_view c.args.request) (search rules)

pub returns-in-WriteFile-clause-spelled : goal.returns-in-WriteFile-clause-spelled
returns-in-WriteFile-clause-spelled c = request_spelled (request_view c.args.request) (search rules)

pub returns-in-ReadProperty-clause-spelled : goal.returns-in-ReadProperty-clause-spelled
returns-in-ReadProperty-clause-spelled c = request_spelled (request_view c.args.request) (search rules)

pub returns-in-WriteProperty-clause-spelled : goal.returns-in-WriteProperty-clause-spelled
returns-in-WriteProperty-clause-spelled c = request_spelled (request_view c.args.request) (search rules)
