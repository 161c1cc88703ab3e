-- What is made is kept by the cells that are told of it.
use Rattle.bac_c.proofs.Tellings.{keeps}
use Rattle.bac_c.proofs.telling.told_cells_keep.Goals as goal

pub returns : goal.returns
returns c = λ document s cells m order s_order places keepable is. keeps document s cells m order s_order places keepable is
