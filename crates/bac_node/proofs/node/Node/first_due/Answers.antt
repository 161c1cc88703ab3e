-- An end moves at that moment, or at the latest one of the node.
use Rattle.std.proofs.Common.{◌<◌, min, subst, ap, max}
use Rattle.bac_requester.specs.Timers.{LAST_MOMENT}
use Rattle.bac_node.proofs.Waits.{moves_at}
use Rattle.bac_node.proofs.node.Node.first_due.Goals as goal

pub returns-clause-moves : goal.returns-clause-moves
returns-clause-moves c = λ soon.
    let within : min c.next_due.result c.next_due-2.result < LAST_MOMENT = subst (λ m. m < LAST_MOMENT) c.min.ensures soon in
    rw (← c.self.view_is) (moves_at _ c.next_due.result c.next_due-2.result _ c.next_due.ensures.moves c.next_due-2.ensures.moves within
    (ap (λ m. max m c.self.inside.latest) c.min.ensures))
