use Rattle.std.proofs.Common.{rules}
use Rattle.bac_apdu.specs.Views.{apdu_view}
use Rattle.bac_apdu.specs.Reading.{apdu_at}
use Rattle.bac_apdu.proofs.Apdus.{found_by, refused_by}
use Rattle.bac_apdu.proofs.reading.read.Goals as goal

pub returns-in_err-first-clause-refused : goal.returns-in_err-first-clause-refused
unfolding apdu_at
returns-in_err-first-clause-refused c = refused_by apdu_view c.args.octets.now c.from_residual.result (search rules)

pub returns-clause-found : goal.returns-clause-found
unfolding apdu_at
returns-clause-found c = found_by apdu_view c.args.octets.now c.kind.result (λ i. (c.type_inv.octets i).fits) (search rules)

pub returns-clause-refused : goal.returns-clause-refused
unfolding apdu_at
returns-clause-refused c = refused_by apdu_view c.args.octets.now c.kind.result (search rules)
