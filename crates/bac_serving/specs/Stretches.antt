-- A node that serves in stretches, between which it may change its own store.
use Rattle.std.specs.Prelude.{◌≡◌, ◌⊎◌, ℕ, ◌+◌, ◌≤◌, min, true, List, [], ◌∷◌, length, Option, Some, None}
use Rattle.std.specs.Io.KnownBytes.{Appends}
use Rattle.bac_store.specs.AtNode.{Change}
use Rattle.bac_driver.specs.BoundNodes.{BoundNode}
use Rattle.bac_driver.specs.Changes.{MakesChanges}
use Rattle.bac_driver.specs.Moments.{with_moment}
use Rattle.bac_driver.specs.Rounds.{ServesRounds}
use Rattle.bac_driver.specs.Runs.{Run, Timed, timed}
use Rattle.bac_driver.specs.Serving.{IsBefore, IsOver}
use Rattle.bac_driver.specs.Waits.{MOST}
use Rattle.bac_driver.specs.declared.wait_limit.WaitLimit.{WaitLimit}
use Rattle.bac_server.specs.Kept.{Unseen, unwatched}
use Rattle.bac_commands.specs.Reports.{served_line}
use Rattle.bac_environment.specs.Limits.{until_of}
use Rattle.bac_serving.specs.declared.looking.Stop.{Stop}
use Rattle.bac_serving.specs.declared.serving.Serving.{Serving}

-- the node made changes of its own store, none of which has a fault, and nothing else is new
pub record IsChanged (old new : BoundNode) : Type 0 where
  pub changes : List Change
  pub made : MakesChanges changes old new

-- ---- stretches

-- the longest stretch, in milliseconds
abbrev pub STRETCH : ℕ
STRETCH = 1000

-- when a stretch ends that began at a moment: after so many milliseconds, or when the server stops
abbrev pub stretch_end : (began longest : ℕ) → (stop : Option ℕ) → ℕ
stretch_end began longest None = min (began + longest) MOST
stretch_end began longest (Some moment) = min moment (min (began + longest) MOST)

abbrev pub stretch_limit : (began longest : ℕ) → (stop : Option ℕ) → WaitLimit
stretch_limit began longest stop = record { wait = MOST; until = Some (stretch_end began longest stop) }

-- the limit of a server that stops at a moment
abbrev pub stop_limit : (stop : Option ℕ) → WaitLimit
stop_limit stop = record { wait = MOST; until = stop }

-- how a node serves by a limit: in so many turns or rounds at the most, so many requests are performed
abbrev pub Way : Type 1
Way = WaitLimit → (most effects : ℕ) → (old new : Timed) → Type 0

-- in rounds, of which each keeps what it changed
abbrev pub ServesInRounds : Way
ServesInRounds p most effects old new = ServesRounds Unseen p most effects (unwatched old) (unwatched new)

-- the clock gave a moment before the server stops; it served from then on, in which so many requests were performed, and then changes at the node
pub record TakesStretch (By : Way) (stop : Option ℕ) (old : Timed) (effects : ℕ) (new : Timed) : Type 0 where
  pub began : ℕ
  pub early : IsBefore began stop
  pub longest : ℕ
  pub short : longest ≤ STRETCH
  pub middle : Timed
  pub serves : By (stretch_limit began longest stop) MOST effects (timed old.bound_node (with_moment old.told began)) middle
  pub changed : IsChanged middle.bound_node new.bound_node

-- the sum of the requests in stretches, the newest first, as far as the counter goes
abbrev pub total : List ℕ → ℕ
total [] = 0
total (effects ∷ before) = min (total before + effects) MOST

-- so many stretches one after the other, in which so many requests were performed
pub record AreTaken (By : Way) (stop : Option ℕ) (count effects : ℕ) (old new : Timed) : Type 0 where
  pub stretches : List ℕ
  pub all : length stretches ≡ count
  pub runs : Run (TakesStretch By stop) stretches old new
  pub counted : effects ≡ total stretches

-- after so many stretches a server stops: the clock gave its moment or a later one, or it stops with standard input, or it took as many as it can count
abbrev pub Stops : Stop → (count : ℕ) → (old new : Timed) → Type 0
Stops stop count old new = IsOver (stop_limit stop.at) old new ⊎ ((new ≡ old) × ((stop.with_input ≡ true) ⊎ (count ≡ MOST)))

-- stretches up to the stop, in which so many requests were performed
pub record TakesStretches (By : Way) (stop : Stop) (effects : ℕ) (old new : Timed) : Type 0 where
  pub count : ℕ
  pub last : Timed
  pub taken : AreTaken By stop.at count effects old last
  pub stopped : Stops stop count last new

-- stretches up to the stop, and how many requests were performed in them was printed
pub record PrintsStretches (By : Way) (stop : Stop) (before after : Timed) (old new : Option (List ℕ)) : Type 0 where
  pub effects : ℕ
  pub takes : TakesStretches By stop effects before after
  pub printed : Appends old new (served_line effects)

-- when a server stops that began at a moment
abbrev pub stop_of : Serving → (start : ℕ) → Stop
stop_of serving start = record { at = until_of serving.seconds start; with_input = serving.until_eof }
