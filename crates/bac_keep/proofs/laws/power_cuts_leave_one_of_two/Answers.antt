use Rattle.bac_keep.proofs.Outcomes.{one_of_two}
use Rattle.bac_keep.proofs.laws.power_cuts_leave_one_of_two.Goals as goal

pub returns : goal.returns
returns g c = λ first mid last honest still notes keep s may.
    one_of_two (λ found. g.met.K.Keeper.settled first s honest still (notes s found)) (keep s may)
