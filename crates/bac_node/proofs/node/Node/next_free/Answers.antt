-- A slot gets free when one of the server's end does.
use Rattle.bac_node.proofs.node.Node.next_free.Goals as goal

pub returns-clause-full : goal.returns-clause-full
returns-clause-full c = rw (← c.self.view_is) c.next_free.ensures.full
