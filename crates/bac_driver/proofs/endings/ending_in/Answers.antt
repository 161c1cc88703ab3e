use Rattle.bac_driver.proofs.Loops.{ending_after, ending_before}
use Rattle.bac_driver.proofs.endings.ending_in.Goals as goal

pub returns-in-Some : goal.returns-in-Some
returns-in-Some c = ending_before c.args.ticket _ _ _ c.in-Some.ensures

pub returns-in-None : goal.returns-in-None
returns-in-None c = ending_after c.args.ticket _ _ _ c.in-None.ensures c.ending_of-in-None.ensures
