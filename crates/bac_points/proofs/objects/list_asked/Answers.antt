-- The question for the property is what was asked.
use Rattle.std.proofs.Common.{rules}
use Rattle.std.proofs.lemmas.Result.{IfOk-weaker}
use Rattle.bac_points.proofs.objects.list_asked.Goals as goal

pub returns-clause-asked : goal.returns-clause-asked
returns-clause-asked g c = IfOk-weaker c.ask_on.result _ _ (λ end asks. search rules) c.ask_on.ensures.asked
