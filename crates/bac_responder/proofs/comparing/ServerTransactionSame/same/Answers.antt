-- First what never changes, then the state.
use Rattle.bac_responder.proofs.Same.{by_state, by_origin, where_same}
use Rattle.bac_responder.proofs.comparing.ServerTransactionSame.same.Goals as goal

pub returns-then-is_same_origin : goal.returns-then-is_same_origin
returns-then-is_same_origin c =
    rw (← c.self.view_is, ← c.other.view_is) (by_state c.self.inside.origin c.other.inside.origin c.self.inside.state c.other.inside.state
    c.is_same_state.result (where_same _ _ c.is_same_origin.result c.if-is_same_origin.true c.is_same_origin.ensures) c.is_same_state.ensures)

pub returns-else-is_same_origin : goal.returns-else-is_same_origin
returns-else-is_same_origin c =
    rw (← c.self.view_is, ← c.other.view_is) (by_origin c.self.inside.origin c.other.inside.origin c.self.inside.state c.other.inside.state
    c.is_same_origin.result c.if-is_same_origin.false c.is_same_origin.ensures)
