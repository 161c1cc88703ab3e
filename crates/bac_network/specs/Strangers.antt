-- Facts of strangers.
use Rattle.bac_world.specs.Once.{Fact}
use Rattle.bac_world.specs.Once.Fact.{Served, AskedAway, EndedAway}

-- the fact is that a request of a stranger was performed
abbrev pub IsServedFact : Fact → Type 0
IsServedFact (Served q i d b r p) = Unit {0}
IsServedFact f = ⊥

-- that a stranger was asked
abbrev pub IsAskedAwayFact : Fact → Type 0
IsAskedAwayFact (AskedAway n c q r) = Unit {0}
IsAskedAwayFact f = ⊥

-- that an ask of a stranger ended
abbrev pub IsEndedAwayFact : Fact → Type 0
IsEndedAwayFact (EndedAway n how) = Unit {0}
IsEndedAwayFact f = ⊥
