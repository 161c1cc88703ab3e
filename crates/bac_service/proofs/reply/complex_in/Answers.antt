use Rattle.std.proofs.Common.{rules}
use Rattle.bac_service.specs.Replies.{complex_at}
use Rattle.bac_service.proofs.Wholes.{complex_takes, complex_made, complex_refused}
use Rattle.bac_service.proofs.reply.complex_in.Goals as goal

pub returns-in-0-clause-spelled : goal.returns-in-0-clause-spelled
unfolding complex_at
returns-in-0-clause-spelled g c = complex_takes c.args.choice (g.O.Octets.octets c.args.octets) _ c.len-all.ensures.each (search rules)

pub returns-in-0-clause-made : goal.returns-in-0-clause-made
unfolding complex_at
returns-in-0-clause-made g c = complex_made c.args.choice (g.O.Octets.octets c.args.octets) _ c.len-all.ensures.each (search rules)

pub returns-in_default-clause-refused : goal.returns-in_default-clause-refused
unfolding complex_at
returns-in_default-clause-refused g c = complex_refused c.args.choice (g.O.Octets.octets c.args.octets) c.fault_in.result (search rules)

pub returns-in-Err-clause-refused : goal.returns-in-Err-clause-refused
unfolding complex_at
returns-in-Err-clause-refused g c = complex_refused c.args.choice (g.O.Octets.octets c.args.octets) c.fault_in-in-Err.result (search rules)
