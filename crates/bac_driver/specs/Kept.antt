-- What contracts see of a round that a program holds.
use Rattle.std.specs.Prelude.{List, map}
use Rattle.bac_driver.specs.Turns as turns
use Rattle.bac_driver.specs.Views.{turn_view}
use Rattle.bac_driver.specs.declared.round.Round.{Round}

-- who keeps the store
abbrev pub keeper_of : {K : Type 0} → Round K → K
keeper_of r = r.keeper

-- the turns of the last round, in order
abbrev pub turns_of : {K : Type 0} → Round K → List turns.Turn
turns_of r = map turn_view r.turns.items
