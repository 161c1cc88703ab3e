-- What was taken, in the state of the transaction.
use Rattle.std.proofs.Common.{◌≡◌, true, nat_eq, arith}
use Rattle.std.proofs.lemmas.Bool.Decides.{nat_tests}
use Rattle.bac_requester.specs.declared.transaction.Phase.TheVariants.{SegmentedConf}
use Rattle.bac_requester.proofs.segmented_conf.on_next_segment.Goals as goal

pub returns-clause-reacts : goal.returns-clause-reacts
returns-clause-reacts c =
    let same : nat_eq c.args.received.choice c.args.core.now.choice ≡ true = grind (arith, nat_tests, c.if-choice-core.false) in
    rw same (c.in_ok-transition.ensures (SegmentedConf c.args.incoming.now))
