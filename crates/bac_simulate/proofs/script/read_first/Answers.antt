use Rattle.bac_simulate.specs.Views.{setting_view}
use Rattle.bac_simulate.proofs.Settings.{line_is_modest}
use Rattle.bac_simulate.proofs.script.read_first.Goals as goal

pub returns-in-Some-read_of-clause-modest : goal.returns-in-Some-read_of-clause-modest
returns-in-Some-read_of-clause-modest c = line_is_modest c.in-Some-read_of.read.now (setting_view c.in_ok-setting.setting) c.in_ok-setting.ensures
