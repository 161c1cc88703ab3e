-- Whatever a call promises, and whatever a power cut leaves, can be the next step of a plant with power cuts.
use Rattle.std.specs.Prelude.{◌≡◌, ◌⊎◌, ℕ, Some, None, slice_get}
use Rattle.bac_protocol.specs.Context.{Settings}
use Rattle.bac_protocol.specs.Pace.{clock_at}
use Rattle.bac_store.specs.Stores.{Store}
use Rattle.bac_world.specs.Node.{restarted}
use Rattle.bac_world.specs.Stretches.{with_settings}
use Rattle.bac_node.specs.Serving.{is_reusing}
use Rattle.bac_transaction.specs.Views.{rules_view}
use Rattle.bac_driver.specs.BoundNodes.{BoundNode}
use Rattle.bac_driver.specs.Rounds.{FindsOneOf, IsKept}
use Rattle.bac_driver.specs.Turns.{Turn}
use Rattle.bac_plant.specs.Anew.Anew.{RestartsSo}
use Rattle.bac_plant.specs.CutMoves.{LeadsAnew}
use Rattle.bac_plant.specs.Cuts.{CutPlant, CutPlantStep, CutStep, real, station_of}
use Rattle.bac_plant.specs.Network.{HandsOver, Source}
use Rattle.bac_plant.specs.NextSteps.{LeadsTo}
use Rattle.bac_plant.specs.Plants.{shows}
use Rattle.bac_plant.specs.Rounds.{IsAsHeldInChain}
use Rattle.bac_plant.specs.Steps.{HoldsSomeTurn, Step}

-- there is a plant after the step, and that station is this one
pub record LeadsOn (overtake : ℕ) (c : CutPlant) (step : CutStep) (station : ℕ) (after : BoundNode) : Type 0 where
  pub new : CutPlant
  pub goes : CutPlantStep overtake c step new
  pub there : real new station ≡ Some after

-- each step of the plant by a station that takes no round that is lost
abbrev pub StepsGoOn : (overtake : ℕ) → CutPlant → Type 0
StepsGoOn overtake c =
    (i : ℕ) → c.losing i ≡ None → (step : Step) → station_of step ≡ Some i → (after : BoundNode) → LeadsTo overtake c.plant step i after
    → LeadsOn overtake c (CutStep.Goes step) i after

-- each turn of a round that is lost, at the moment of the station's clock, by a datagram that the network may hand over
abbrev pub LostTurnsGoOn : (overtake : ℕ) → CutPlant → Type 0
LostTurnsGoOn overtake c =
    (i : ℕ) (before : BoundNode) → real c i ≡ Some before → (turn : Turn) (after : BoundNode) → HoldsSomeTurn (shows c.plant i) before turn after
    → (source : Source) → HandsOver overtake c.plant i source turn.received after.buffer → LeadsOn overtake c (CutStep.Loses i source turn) i after

-- where a station stands so in the plant, its power can be cut, and it can start again with this store, and with the setting that it had
abbrev pub CanStart : (overtake : ℕ) → (stands : BoundNode) → Store → Type 0
CanStart overtake stands s =
    (c : CutPlant) (i : ℕ) → slice_get c.plant.stations i ≡ Some stands → (exact : ℕ) (after : BoundNode)
    → after.node ≡ restarted (clock_at c.plant.time.pace exact).shows s stands.node → rules_view after.rules ≡ rules_view stands.rules
    → LeadsOn overtake c (CutStep.Cuts i exact) i after

-- it can start again with this store and other settings, by whatever rules
abbrev pub CanStartAnew : (stands : BoundNode) → Store → Type 0
CanStartAnew stands s =
    (c : CutPlant) (i : ℕ) → slice_get c.plant.stations i ≡ Some stands → (exact : ℕ) (settings : Settings) (after : BoundNode)
    → after.node ≡ restarted (clock_at c.plant.time.pace exact).shows s (with_settings settings stands.node)
    → LeadsAnew c (RestartsSo i exact None settings (is_reusing (rules_view after.rules))) i after

-- whatever store an honest keeper finds after a cut in a round, also in one that stopped: a station that stands as before the round, which is lost then, can
-- start so with that store, or one that stands as after all turns that the round held can
abbrev pub FoundStoresStart : {K : Type 0} → (IsHonest : K → Type 0) → (may_find : K → Store → Type 0) → (CanBegin : (stands : BoundNode) → Store → Type 0)
    → Type 0
FoundStoresStart {K} IsHonest may_find CanBegin =
    (keeper : K) (before after : BoundNode) (as_held : IsAsHeldInChain before after) → FindsOneOf IsHonest may_find before.node.store after.node.store keeper
    → IsHonest keeper → (s : Store) → may_find keeper s → CanBegin before s ⊎ CanBegin as_held.held s

-- between rounds: with whatever store an honest keeper finds that keeps the store of a station, that station can start so
abbrev pub KeptStoresStart : {K : Type 0} → (IsHonest IsOpen : K → Type 0) → (kept noted : K → Store) → (may_find : K → Store → Type 0)
    → (CanBegin : (stands : BoundNode) → Store → Type 0) → Type 0
KeptStoresStart {K} IsHonest IsOpen kept noted may_find CanBegin =
    (keeper : K) (stands : BoundNode) → IsKept IsOpen kept noted keeper stands.node.store → IsHonest keeper → (s : Store) → may_find keeper s
    → CanBegin stands s

-- both with the setting that it had
abbrev pub FoundStoresGoOn : {K : Type 0} → (IsHonest : K → Type 0) → (may_find : K → Store → Type 0) → (overtake : ℕ) → Type 0
FoundStoresGoOn IsHonest may_find overtake = FoundStoresStart IsHonest may_find (CanStart overtake)

abbrev pub KeptStoresGoOn : {K : Type 0} → (IsHonest IsOpen : K → Type 0) → (kept noted : K → Store) → (may_find : K → Store → Type 0) → (overtake : ℕ) → Type 0
KeptStoresGoOn IsHonest IsOpen kept noted may_find overtake = KeptStoresStart IsHonest IsOpen kept noted may_find (CanStart overtake)
