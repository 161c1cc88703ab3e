-- There is no such copy.
use Rattle.std.proofs.Common.{None, Some, refl, ◌∙◌}
use Rattle.bac_journal.specs.Clocks.{pace_of}
use Rattle.bac_network.proofs.Happening.{known}
use Rattle.bac_network.proofs.network.Network.deliver.Goals as goal

pub returns-in-None-clause-happens : goal.returns-in-None-clause-happens
returns-in-None-clause-happens c = (
  known c.args.overtake (pace_of c.args.self.now.journal.own).life c.args.self.now.journal.moment c.args.number c.args.self.now.journal.copies None c.in-None.ensures.none c.in-None.ensures.is,
  refl,
)

pub deliver_now-requires : goal.deliver_now-requires
deliver_now-requires c =
    let k = known c.args.overtake (pace_of c.args.self.now.journal.own).life c.args.self.now.journal.moment c.args.number c.args.self.now.journal.copies
    (Some c.in-Some-true.field-0) c.in-Some-true.ensures.none c.in-Some-true.ensures.is in
    (c.args.overtake, c.requires, (k.0, k.1, k.2 ∙ c.in-Some-true.field-0-test))
