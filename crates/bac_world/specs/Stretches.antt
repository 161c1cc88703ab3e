-- Runs in stretches: from one to the next nodes may have other settings, as a node has that an operator restarts with others; and a node that restarts may let
-- clients use an invoke ID again from then on, or no more.
use Rattle.std.specs.Prelude.{◌≡◌, ◌⊎◌, ℕ, ◌≤◌, true, List, [], ◌∷◌, slice_get}
use Rattle.std.specs.Option.{option_map}
use Rattle.bac_protocol.specs.Context.{Settings}
use Rattle.bac_protocol.specs.LongApdus.{TakesLong}
use Rattle.bac_reuse.specs.Runs.{AreSameBut}
use Rattle.bac_world.specs.LongApdus.{AllAskLong}
use Rattle.bac_world.specs.Node.{Node}
use Rattle.bac_world.specs.ReusingLogs.{Reuses}
use Rattle.bac_world.specs.ReusingWorlds.{WorldRunSo}
use Rattle.bac_world.specs.World.{Event, World}
use Rattle.bac_world.specs.World.Event.{BeginAgain, Restart}

-- the events of a stretch, what each node is set to in it, and which of them let invoke IDs be used again
pub record Stretch : Type 0 where
  pub settings : ℕ → Settings
  pub reuses : Reuses
  pub events : List Event

-- the node with those settings
abbrev pub with_settings : Settings → Node → Node
with_settings s n = record n { settings = s }

-- each node has these settings now, and nothing else is another
pub record AreSet (old : World) (settings : ℕ → Settings) (new : World) : Type 0 where
  pub nodes : (i : ℕ) → slice_get new.nodes i ≡ option_map (with_settings (settings i)) (slice_get old.nodes i)
  pub rest : new ≡ record old { nodes = new.nodes }

-- the world after these stretches, in their order
abbrev pub WorldRunIn : (overtake : ℕ) → World → List Stretch → World → Type 0
WorldRunIn overtake old [] new = new ≡ old
WorldRunIn overtake old (s ∷ ss) new =
    (u : World) × (v : World) × AreSet old s.settings u × WorldRunSo overtake s.reuses u s.events v × WorldRunIn overtake v ss new

-- these events begin with the restart of a node, or with another program there: that node may let them be used again from then on or no more; all others as
-- before
abbrev pub BeginWithTurn : (old new : Reuses) → List Event → Type 0
BeginWithTurn old new (Restart i exact store ∷ es) = AreSameBut i old new
BeginWithTurn old new (BeginAgain i exact first_id store ∷ es) = AreSameBut i old new
BeginWithTurn old new es = ⊥

-- which nodes do so changes at such an event alone
abbrev pub Turns : (old new : Reuses) → List Event → Type 0
Turns old new events = ((i : ℕ) → new i ≡ old i) ⊎ BeginWithTurn old new events

-- those do now, of those that ever do
abbrev pub AreOf : (now ever : Reuses) → Type 0
AreOf now ever = (node : ℕ) → now node ≡ true → ever node ≡ true

-- in each stretch all windows are at most W, and nodes that let invoke IDs be used again are of those that ever do
abbrev pub ArePermitted : (W : ℕ) → (ever before : Reuses) → List Stretch → Type 0
ArePermitted W ever before [] = Unit {0}
ArePermitted W ever before (s ∷ ss) =
    ((i : ℕ) → (s.settings i).window ≤ W) × AreOf s.reuses ever × Turns before s.reuses s.events × ArePermitted W ever s.reuses ss

-- in each all nodes take APDUs of 480 octets or more, and whoever asks one knows that
abbrev pub TakeLongThroughout : List Stretch → Type 0
TakeLongThroughout [] = Unit {0}
TakeLongThroughout (s ∷ ss) = ((i : ℕ) → TakesLong (s.settings i).limits) × AllAskLong s.events × TakeLongThroughout ss
