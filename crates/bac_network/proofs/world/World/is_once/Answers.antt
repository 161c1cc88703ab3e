-- What is known of how it came to be.
use Rattle.std.proofs.Common.{subst}
use Rattle.bac_network.specs.Histories.{HasNoReuse, WorldView, view_of}
use Rattle.bac_network.specs.Laws.{HasRightLog, IsStrict}
use Rattle.bac_network.proofs.Laws.{right_log, strict}
use Rattle.bac_network.proofs.world.World.is_once.Goals as goal

pub returns-clause-log : goal.returns-clause-log
returns-clause-log c = subst HasRightLog c.self.view_is (right_log c.self.inside.window _ c.self.invariant.history)

-- Where no node lets invoke IDs be used again.

pub returns-clause-without_reuse : goal.returns-clause-without_reuse
returns-clause-without_reuse c =
    let w = view_of c.self.inside.overtake c.self.inside.opening.items c.self.inside.reuses.items c.self.inside.network in
    subst (λ (v : WorldView). HasNoReuse v → IsStrict v) c.self.view_is (λ none. strict c.self.inside.window w none c.self.invariant.history)
