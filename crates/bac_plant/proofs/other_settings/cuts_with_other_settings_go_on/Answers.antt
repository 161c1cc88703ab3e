-- What a power cut leaves can start with other settings.
use Rattle.bac_plant.proofs.CutNext.{found_stores_start_anew, kept_stores_start_anew}
use Rattle.bac_plant.proofs.other_settings.cuts_with_other_settings_go_on.Goals as goal

pub returns-clause-found : goal.returns-clause-found
returns-clause-found g c = λ keeper before after as_held finds honest s may.
    found_stores_start_anew _ _ keeper before after as_held finds honest s may

pub returns-clause-kept : goal.returns-clause-kept
returns-clause-kept g c = λ keeper stands is honest s may.
    kept_stores_start_anew g.K.Keeper.IsHonest g.K.Keeper.may_find g.K.Keeper.IsOpen g.K.Keeper.kept g.K.Keeper.noted g.met.K.Keeper.settled keeper stands is
    honest s may
