-- By where its unit begins.
use Rattle.std.proofs.Common.{rules}
use Rattle.bac_environment.proofs.TimeUnits.{alone_counted, alone_not_counted, time_told}
use Rattle.bac_environment.proofs.times.read_time.Goals as goal

pub returns-in_err-count-clause-alone : goal.returns-in_err-count-clause-alone
returns-in_err-count-clause-alone c = λ n small fits given.
    absurd (alone_not_counted c.args.unit c.args.text.now _ _ n small given c.at_unit-each.ensures (search rules))

pub returns-clause-told : goal.returns-clause-told
returns-clause-told c = time_told c.args.unit c.args.text.now _ _ _ c.checked_mul.result c.at_unit-each.ensures (search rules) c.checked_mul.ensures

pub returns-clause-alone : goal.returns-clause-alone
returns-clause-alone c = λ n small fits given.
    alone_counted c.args.unit c.args.text.now _ _ _ n c.checked_mul.result small fits given c.at_unit-each.ensures (search rules) c.checked_mul.ensures
