-- A node that there is has a link, and memory may be refused.
use Rattle.std.proofs.Common.{Err, ap, ◌∙◌, arith}
use Rattle.std.proofs.lemmas.Result.{err_from_is_err_and}
use Rattle.bac_world.specs.World.Event.{Restart}
use Rattle.bac_journal.specs.Clocks.{restart_at}
use Rattle.bac_network.specs.Networks.{world_of}
use Rattle.bac_network.proofs.Delivered.{is_there, linked_within}
use Rattle.bac_network.proofs.Happening.{no_memory}
use Rattle.bac_network.proofs.network.Network.restart.Goals as goal

pub restart_now-requires-clause-linked : goal.restart_now-requires-clause-linked
restart_now-requires-clause-linked c =
    linked_within c.args.self.now.nodes.items c.args.self.now.journal.links (c.requires.2).linked c.args.node (omega arith)

pub returns-in_err-restart_now-clause-happens : goal.returns-in_err-restart_now-clause-happens
returns-in_err-restart_now-clause-happens c = λ overtake.
    let p = err_from_is_err_and c.from_residual.result c.from_residual.ensures.1 in
    no_memory overtake (world_of c.args.self.now) (world_of c.restart_now.new.self)
    (Restart c.args.node (restart_at c.args.self.now.journal.moment c.args.self.now.journal.own) c.args.store.now) c.from_residual.result
    (p.1 ∙ ap Err p.2) tt (is_there c.args.self.now.nodes.items c.args.node (omega arith)) c.in_err-restart_now.ensures.err
