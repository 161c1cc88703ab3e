-- A node that there is has a link, and memory may be refused.
use Rattle.std.proofs.Common.{Err, refl, sym, ap, ◌∙◌, arith}
use Rattle.std.proofs.lemmas.Result.{err_from_is_err_and}
use Rattle.bac_world.specs.World.Event.{BeginAgain}
use Rattle.bac_journal.specs.Clocks.{restart_at}
use Rattle.bac_network.specs.Networks.{world_of}
use Rattle.bac_network.proofs.Delivered.{is_there, linked_within, there_is}
use Rattle.bac_network.proofs.Happening.{no_memory}
use Rattle.bac_network.proofs.network.Network.begin_again.Goals as goal

pub replace_now-requires-clause-linked : goal.replace_now-requires-clause-linked
replace_now-requires-clause-linked c =
    linked_within c.args.self.now.nodes.items c.args.self.now.journal.links (c.requires.2).linked c.args.node (omega arith)

pub returns-in_err-replace_now-clause-happens : goal.returns-in_err-replace_now-clause-happens
returns-in_err-replace_now-clause-happens c = λ overtake.
    let p = err_from_is_err_and c.from_residual.result c.from_residual.ensures.1 in
    no_memory overtake (world_of c.args.self.now) (world_of c.replace_now.new.self)
    (BeginAgain c.args.node (restart_at c.args.self.now.journal.moment c.args.self.now.journal.own) c.args.first_id c.args.store.now) c.from_residual.result
    (p.1 ∙ ap Err p.2) (sym c.if-not-is_quiet.ensures) (is_there c.args.self.now.nodes.items c.args.node (omega arith)) c.in_err-replace_now.ensures.err

pub returns-then-not-is_quiet-clause-happens : goal.returns-then-not-is_quiet-clause-happens
returns-then-not-is_quiet-clause-happens c = λ overtake.
    ((there_is c.args.self.now.nodes.items c.args.node (omega arith), sym c.if-not-is_quiet.ensures), refl)

pub replace_now-requires-clause-quiet : goal.replace_now-requires-clause-quiet
replace_now-requires-clause-quiet c = sym c.if-not-is_quiet.ensures

pub is_quiet-requires : goal.is_quiet-requires
is_quiet-requires c =
    linked_within c.args.self.now.nodes.items c.args.self.now.journal.links (c.requires.2).linked c.args.node (omega arith)
