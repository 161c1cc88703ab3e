-- Nothing is meant where nothing is read.
use Rattle.std.proofs.Common.{refl}
use Rattle.bac_journal.proofs.meaning.is_meaningless.Goals as goal

pub returns-in-None : goal.returns-in-None
returns-in-None c = (λ t. c.in-None.ensures.none refl, λ h. refl)
