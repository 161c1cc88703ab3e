-- A node at which nothing happened begins, and any other is refused.
use Rattle.std.proofs.Common.{refl, sym, arith}
use Rattle.bac_journal.specs.Lives.{lives_at}
use Rattle.bac_network.specs.Views.{log_view}
use Rattle.bac_network.proofs.Delivered.{linked_within, there_is}
use Rattle.bac_network.proofs.network.Network.begin.Goals as goal

pub restart_clock-requires : goal.restart_clock-requires
restart_clock-requires c =
    linked_within c.args.self.now.nodes.items c.args.self.now.journal.links (c.requires.2).linked c.args.node (omega arith)

pub returns-then-is_active-clause-happens : goal.returns-then-is_active-clause-happens
returns-then-is_active-clause-happens c = λ overtake.
    ((there_is c.args.self.now.nodes.items c.args.node (omega arith), sym c.if-is_active.ensures), refl)

pub returns-clause-happens : goal.returns-clause-happens
returns-clause-happens c = λ overtake.
    let a = there_is c.args.self.now.nodes.items c.args.node (omega arith) in (
      record {
        node = a.0;
        at = a.1;
        first = sym c.if-is_active.ensures;
        is = λ i. record {
          nodes = c.args.self.now.nodes.items;
          time = c.restart_clock.ensures.time i;
          lives = lives_at (c.restart_clock.ensures.is i).lives;
          copies = (c.restart_clock.ensures.is i).copies;
          log = log_view c.args.self.now.log.items;
          notes = (c.restart_clock.ensures.is i).notes;
        };
      },
      λ p. p,
      λ l. l,
    )
