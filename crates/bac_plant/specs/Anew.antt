-- Restarts with other settings: an operator starts a program at a station again with another window, other limits, or other rules.
use Rattle.std.specs.Prelude.{◌≡◌, ℕ, ◌≤◌, Bool, true, List, [], ◌∷◌, Option, Some, slice_get}
use Rattle.bac_store.specs.Stores.{Store}
use Rattle.bac_protocol.specs.Context.{Settings}
use Rattle.bac_protocol.specs.Pace.{clock_at}
use Rattle.bac_transaction.specs.Views.{rules_view}
use Rattle.bac_node.specs.Serving.{is_reusing}
use Rattle.bac_world.specs.Node.{begun_again, restarted, store_after_restart}
use Rattle.bac_world.specs.Once.Fact.{Restarted}
use Rattle.bac_world.specs.ReusingLogs.{Reuses}
use Rattle.bac_world.specs.Stretches.{with_settings}
use Rattle.bac_world.specs.World.{is_quiet, with_act, with_clock, with_restart}
use Rattle.bac_driver.specs.BoundNodes.{BoundNode}
use Rattle.bac_plant.specs.Plants.{Plant, world_of}
use Rattle.bac_plant.specs.Steps.{PlantRun, Step, with_station}

-- a station restarts, or another program starts there, with these settings, letting clients use an invoke ID again or not
pub data Anew : Type 0 where
  RestartsSo : (station exact : ℕ) (store : Option Store) (settings : Settings) (reuses : Bool) → Anew
  StartsAgainSo : (station exact first_id : ℕ) (store : Option Store) (settings : Settings) (reuses : Bool) → Anew

-- as RestartsAt has it, but for the settings
pub record RestartsAnewAt (old : Plant) (i exact : ℕ) (store : Option Store) (settings : Settings) (reuses : Bool) (new : Plant) : Type 0 where
  pub before : BoundNode
  pub at : slice_get old.stations i ≡ Some before
  pub after : BoundNode
  pub node : after.node
      ≡ restarted (clock_at old.time.pace exact).shows (store_after_restart before.node.store store) (with_settings settings before.node)
  pub rules : is_reusing (rules_view after.rules) ≡ reuses
  pub is : new ≡ record (with_station old i after) {
    time = with_clock old.time i exact;
    lives = with_restart old.time old.lives i;
    log = Restarted i store ∷ old.log;
  }

-- as StartsAgainAt has it, but for the settings
pub record StartsAnewAt (old : Plant) (i exact first_id : ℕ) (store : Option Store) (settings : Settings) (reuses : Bool) (new : Plant) : Type 0 where
  pub before : BoundNode
  pub at : slice_get old.stations i ≡ Some before
  pub quiet : is_quiet (world_of old) i ≡ true
  pub after : BoundNode
  pub node : after.node
      ≡ begun_again (clock_at old.time.pace exact).shows first_id (store_after_restart before.node.store store) (with_settings settings before.node)
  pub rules : is_reusing (rules_view after.rules) ≡ reuses
  pub is : new ≡ record (with_station old i after) {
    time = with_clock old.time i exact;
    lives = with_act old.lives i;
    log = Restarted i store ∷ old.log;
  }

abbrev pub HappensAnew : Plant → Anew → Plant → Type 0
HappensAnew old (RestartsSo i exact store settings reuses) new = RestartsAnewAt old i exact store settings reuses new
HappensAnew old (StartsAgainSo i exact first_id store settings reuses) new = StartsAnewAt old i exact first_id store settings reuses new

-- such a restart, and the steps after it, of which the newest is first
pub record Stretch : Type 0 where
  pub anew : Anew
  pub steps : List Step

-- the plant after these stretches, in their order
abbrev pub PlantRunIn : (overtake : ℕ) → Plant → List Stretch → Plant → Type 0
PlantRunIn overtake old [] new = new ≡ old
PlantRunIn overtake old (s ∷ ss) new =
    (u : Plant) × (v : Plant) × HappensAnew old s.anew u × PlantRun overtake s.steps u v × PlantRunIn overtake v ss new

-- its window is at most W, and a station that lets invoke IDs be used again is one of those that ever do
abbrev pub IsPermitted : (W : ℕ) → (ever : Reuses) → Anew → Type 0
IsPermitted W ever (RestartsSo i exact store settings reuses) = (settings.window ≤ W) × (reuses ≡ true → ever i ≡ true)
IsPermitted W ever (StartsAgainSo i exact first_id store settings reuses) = (settings.window ≤ W) × (reuses ≡ true → ever i ≡ true)

abbrev pub ArePermitted : (W : ℕ) → (ever : Reuses) → List Stretch → Type 0
ArePermitted W ever [] = Unit {0}
ArePermitted W ever (s ∷ ss) = IsPermitted W ever s.anew × ArePermitted W ever ss

-- each restart with other settings can happen next, whatever the station's new link, buffer and rules are
abbrev pub RestartsAnewGoOn : Type 0
RestartsAnewGoOn =
    (p : Plant) (i : ℕ) (before : BoundNode) → slice_get p.stations i ≡ Some before → (exact : ℕ) (store : Option Store) (settings : Settings) (after : BoundNode)
    → after.node ≡ restarted (clock_at p.time.pace exact).shows (store_after_restart before.node.store store) (with_settings settings before.node)
    → (new : Plant) × HappensAnew p (RestartsSo i exact store settings (is_reusing (rules_view after.rules))) new × (slice_get new.stations i ≡ Some after)

-- and each start of another program with other settings, once all is over that the client before it sent
abbrev pub StartsAnewGoOn : Type 0
StartsAnewGoOn =
    (p : Plant) (i : ℕ) (before : BoundNode) → slice_get p.stations i ≡ Some before → is_quiet (world_of p) i ≡ true → (exact first_id : ℕ) (store : Option Store)
    (settings : Settings) (after : BoundNode)
    → after.node ≡ begun_again (clock_at p.time.pace exact).shows first_id (store_after_restart before.node.store store) (with_settings settings before.node)
    → (new : Plant) × HappensAnew p (StartsAgainSo i exact first_id store settings (is_reusing (rules_view after.rules))) new
    × (slice_get new.stations i ≡ Some after)
