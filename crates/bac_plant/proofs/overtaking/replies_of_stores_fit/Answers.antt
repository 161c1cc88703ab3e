use Rattle.bac_plant.proofs.StoresReply.{replies_fit}
use Rattle.bac_plant.proofs.overtaking.replies_of_stores_fit.Goals as goal

pub returns : goal.returns
returns c = λ overtake steps old new run can fits. replies_fit overtake steps old new run can fits
