-- It is a node's or a stranger's.
use Rattle.std.proofs.Common.{inr, refl, sym, ◌∙◌}
use Rattle.bac_world.specs.World.{IsOfNone}
use Rattle.bac_network.proofs.logging.act_fact.Goals as goal

pub returns-in-None : goal.returns-in-None
returns-in-None c = λ nodes linked log.
    let none : IsOfNone nodes c.args.act.key.peer.link = λ j at. c.in-None.ensures.none refl j (sym (linked j) ∙ at) in
    inr (record { kept = λ entry. c.served_fact.ensures.kept entry nodes none log; served = c.served_fact.ensures.served nodes none log })
