-- What both ends send, joined.
use Rattle.std.proofs.Common.{refl}
use Rattle.bac_node.proofs.Turns.{both_joined}
use Rattle.bac_node.proofs.node.Node.tick_both.Goals as goal

pub returns : goal.returns
returns c =
    rw (← c.self.view_is) (both_joined c.args.now _ c.in_ok-sends.field-0 (record { sends = c.append.new.self; ended = c.in_ok-sends.field-0.ended })
    c.in_ok-more.more.items c.in_ok-sends.ensures c.in_ok-more.ensures c.in_ok-append.ensures.items refl)
