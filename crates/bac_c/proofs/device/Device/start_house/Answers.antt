-- The node that is started has the house's store.
use Rattle.bac_c.proofs.Starts.{house_with}
use Rattle.bac_c.proofs.device.Device.start_house.Goals as goal

pub returns-clause-started : goal.returns-clause-started
returns-clause-started c = house_with c.args.settings.now c.in_ok-config.config c.in-Ok.store c.in_ok-node.node c.in_ok-config.ensures.says c.in-Ok.ensures c.in_ok-node.ensures.made
