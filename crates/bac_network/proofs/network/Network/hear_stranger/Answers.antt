-- Octets from a link of no node are heard.
use Rattle.std.proofs.Common.{Err, refl, ap, ◌∙◌, arith, inl}
use Rattle.std.proofs.lemmas.Result.{err_from_is_err_and}
use Rattle.bac_world.specs.World.Event.{Stray}
use Rattle.bac_network.specs.Networks.{world_of}
use Rattle.bac_network.specs.Rules.{reuses_by}
use Rattle.bac_network.proofs.Delivered.{is_there, of_none, of_some, ready_of}
use Rattle.bac_network.proofs.Happening.{no_memory_so}
use Rattle.bac_network.proofs.network.Network.hear_stranger.Goals as goal

pub returns-in-Some-clause-happens : goal.returns-in-Some-clause-happens
returns-in-Some-clause-happens c = λ overtake.
    (of_some c.args.window c.requires.0 c.args.self.now (ready_of (reuses_by c.args.reuses.now) c.args.window c.requires.0 c.args.self.now c.requires.1) c.args.node (omega arith) c.args.from _ c.in-Some.ensures.some, refl)

pub hear_from_outside-requires-clause-stranger : goal.hear_from_outside-requires-clause-stranger
hear_from_outside-requires-clause-stranger c =
    of_none c.args.window c.requires.0 c.args.self.now (ready_of (reuses_by c.args.reuses.now) c.args.window c.requires.0 c.args.self.now c.requires.1) c.args.from (c.in-None.ensures.none refl)

pub returns-in_err-hear_from_outside-in-None-clause-happens : goal.returns-in_err-hear_from_outside-in-None-clause-happens
returns-in_err-hear_from_outside-in-None-clause-happens c = λ overtake.
    let p = err_from_is_err_and c.from_residual.result c.from_residual.ensures.1 in
    no_memory_so overtake (reuses_by c.args.reuses.now) (world_of c.args.self.now) (world_of c.hear_from_outside.new.self) (Stray c.args.node c.args.from c.args.octets.now)
    c.from_residual.result (p.1 ∙ ap Err p.2)
    (of_none c.args.window c.requires.0 c.args.self.now (ready_of (reuses_by c.args.reuses.now) c.args.window c.requires.0 c.args.self.now c.requires.1) c.args.from (c.in-None.ensures.none refl))
    (is_there c.args.self.now.nodes.items c.args.node (omega arith)) c.in_err-hear_from_outside-in-None.ensures.err

pub returns-in_ok-hear_from_outside-in-None-clause-happens : goal.returns-in_ok-hear_from_outside-in-None-clause-happens
returns-in_ok-hear_from_outside-in-None-clause-happens c = λ overtake. (
  inl c.in_ok-hear_from_outside-in-None.ensures.went,
  λ x. x,
  λ l. (
      of_none c.args.window c.requires.0 c.args.self.now (ready_of (reuses_by c.args.reuses.now) c.args.window c.requires.0 c.args.self.now c.requires.1) c.args.from (c.in-None.ensures.none refl) (l.1).0 (l.1).1
      ),
)
