-- All facts of the log are looked at.
use Rattle.bac_network.specs.Views.{log_view}
use Rattle.bac_network.proofs.Logs.{since_all}
use Rattle.bac_network.proofs.running.StraightRun.ending.Goals as goal

pub ending_of-requires : goal.ending_of-requires
ending_of-requires c = since_all c.in-Some.ask (log_view c.log.result.now)
