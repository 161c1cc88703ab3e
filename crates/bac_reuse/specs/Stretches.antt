-- Runs in stretches, as in Stretches of bac_protocol: from one to the next nodes may have other settings, and a server that restarts may let clients use an invoke
-- ID again from then on, or no more.
use Rattle.std.specs.Prelude.{◌≡◌, ◌⊎◌, ℕ, Bool, List, [], ◌∷◌}
use Rattle.bac_protocol.specs.Claims.{IsBounded}
use Rattle.bac_protocol.specs.Log.{StoreModel}
use Rattle.bac_protocol.specs.Transaction.{Rules}
use Rattle.bac_protocol.specs.World.{Event, World}
use Rattle.bac_protocol.specs.World.Event.{RestartServer}
use Rattle.bac_reuse.specs.Runs.{AreOf, AreSameBut, Reusing, run_so, with_reuses}

-- the events of a stretch, in which these rules stay, and these servers let invoke IDs be used again
pub record Stretch : Type 0 where
  pub rules : Rules
  pub reuses : ℕ → Bool
  pub events : List Event

-- the world after these stretches, in their order
abbrev pub run_so_in : (S : Type 0) → StoreModel S → Reusing → List Stretch → World S → World S
run_so_in S model ever [] w = w
run_so_in S model ever (s ∷ ss) w = run_so_in S model ever ss (run_so S model s.rules (with_reuses ever s.reuses) s.events w)

-- these events begin with the restart of a server, that may do so from then on or no more; all others as before
abbrev pub BeginWithTurn : (old new : ℕ → Bool) → List Event → Type 0
BeginWithTurn old new (RestartServer node exact store ∷ es) = AreSameBut node old new
BeginWithTurn old new es = ⊥

-- which servers do so changes at such a restart alone
abbrev pub Turns : (old new : ℕ → Bool) → List Event → Type 0
Turns old new events = ((m : ℕ) → new m ≡ old m) ⊎ BeginWithTurn old new events

-- in each stretch all windows are at most W, few enough later copies may overtake one, and servers that let invoke IDs be used again are of those that ever do
abbrev pub ArePermitted : (W : ℕ) → Reusing → (before : ℕ → Bool) → List Stretch → Type 0
ArePermitted W ever before [] = Unit {0}
ArePermitted W ever before (s ∷ ss) = IsBounded W s.rules × AreOf s.reuses ever × Turns before s.reuses s.events × ArePermitted W ever s.reuses ss
