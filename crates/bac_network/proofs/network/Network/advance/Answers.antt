-- Time passes at all nodes.
use Rattle.std.proofs.Common.{◌≡◌, true, false, refl}
use Rattle.bac_journal.specs.Lives.{lives_at}
use Rattle.bac_network.specs.Views.{log_view}
use Rattle.bac_network.proofs.network.Network.advance.Goals as goal

pub returns-in-Some-clause-happens : goal.returns-in-Some-clause-happens
returns-in-Some-clause-happens c = λ overtake. (
  λ i. record {
    nodes = c.args.self.now.nodes.items;
    time = c.in-Some.ensures.time refl i;
    lives = lives_at (c.in-Some.ensures.some refl i).lives;
    copies = (c.in-Some.ensures.some refl i).copies;
    log = log_view c.args.self.now.log.items;
    notes = (c.in-Some.ensures.some refl i).notes;
  },
  λ p. let e : true ≡ false = c.in-Some.ensures.passes.1 p in absurd cc,
  λ l. l,
)
