-- What a call promises, and what a power cut leaves, can be the next step.
use Rattle.std.proofs.Common.{◌≡◌, ◌⊎◌, ℕ, Bool, true, false, Option, Some, None, slice_get, slice_set, nat_eq, if◌then◌else◌, ◌∷◌, IfSome}
use Rattle.std.proofs.Common.{refl, sym, ap, subst, inl, inr, ◌∙◌, arith}
use Rattle.std.proofs.lemmas.Bool.Decides.{nat_tests}
use Rattle.std.proofs.lemmas.Option.{slice_get_within}
use Rattle.bac_protocol.specs.Pace.{clock_at}
use Rattle.bac_store.specs.Stores.{Store}
use Rattle.bac_world.specs.Node.{Node, restarted}
use Rattle.bac_world.specs.Once.Fact.{Restarted}
use Rattle.bac_world.specs.Stretches.{with_settings}
use Rattle.bac_world.specs.World.{with_clock, with_restart}
use Rattle.bac_journal.proofs.Lists.{get_set}
use Rattle.bac_driver.specs.BoundNodes.{BoundNode}
use Rattle.bac_driver.specs.Rounds.{in_order}
use Rattle.bac_plant.specs.Cuts.{CutPlant, or_else, with_losing}
use Rattle.bac_plant.specs.NextCuts.{CanStart, CanStartAnew, FoundStoresGoOn, FoundStoresStart, KeptStoresGoOn, KeptStoresStart, LostTurnsGoOn, StepsGoOn}
use Rattle.bac_plant.specs.Rounds.{HasStopped, IsAsHeldInChain}
use Rattle.bac_plant.specs.Steps.{AreSent, with_station}
use Rattle.bac_plant.proofs.Anew.{restarts_anew_go_on}

same_number : (i : ℕ) → nat_eq i i ≡ true
same_number i = go (nat_eq i i) refl
  where
    go : (b : Bool) → nat_eq i i ≡ b → nat_eq i i ≡ true
    go true is = is
    go false is = absurd (grind (arith, nat_tests))

-- what is set is there
set_there : (losing : ℕ → Option BoundNode) (i : ℕ) (b : Option BoundNode) → with_losing losing i b i ≡ b
set_there losing i b = ap (λ (t : Bool). if t then b else losing i) (same_number i)

pub steps_go_on : (overtake : ℕ) (c : CutPlant) → StepsGoOn overtake c
steps_go_on overtake c i free step own after leads = record {
  new = record { plant = leads.new; losing = c.losing };
  goes = record { free = subst (λ o. IfSome o (λ j. c.losing j ≡ None)) (sym own) free; goes = leads.goes; same = refl };
  there = ap (λ o. or_else o (slice_get leads.new.stations i)) free ∙ leads.there;
}

pub lost_turns_go_on : (overtake : ℕ) (c : CutPlant) → LostTurnsGoOn overtake c
lost_turns_go_on overtake c i before at turn after holds source from = record {
  new = record { plant = c.plant; losing = with_losing c.losing i (Some after) };
  goes = record { before = before; at = at; after = after; holds = holds; comes = from; is = refl };
  there = ap (λ o. or_else o (slice_get c.plant.stations i)) (set_there c.losing i (Some after));
}

can_start : (overtake : ℕ) (stands : BoundNode) (s : Store) → s ≡ stands.node.store → CanStart overtake stands s
can_start overtake stands s same c i at exact after is reuse = record {
  new = record {
    plant = record (with_station c.plant i after) {
      time = with_clock c.plant.time i exact;
      lives = with_restart c.plant.time c.plant.lives i;
      log = Restarted i None ∷ c.plant.log;
    };
    losing = with_losing c.losing i None;
  };
  goes = record {
    starts = record {
      before = stands;
      at = at;
      after = after;
      node = is ∙ ap (λ (x : Store). restarted (clock_at c.plant.time.pace exact).shows x stands.node) same;
      rules = reuse;
      is = refl;
    };
    losing = refl;
  };
  there = ap (λ o. or_else o (slice_get (slice_set c.plant.stations i after) i)) (set_there c.losing i None)
      ∙ get_set c.plant.stations i after (slice_get_within c.plant.stations i stands at);
}

-- the node is as after the held turns, however the round went on
node_held : (before after : BoundNode) (as_held : IsAsHeldInChain before after) → after.node ≡ as_held.held.node
node_held before after as_held = go as_held.ends
  where
    go : HasStopped as_held.held after ⊎ AreSent (in_order as_held.turns) as_held.held after → after.node ≡ as_held.held.node
    go (inl (inl same)) = ap (λ (b : BoundNode). b.node) same
    go (inl (inr fails)) = fails.node
    go (inr sent) = sent.node

can_start_anew : (stands : BoundNode) (s : Store) → s ≡ stands.node.store → CanStartAnew stands s
can_start_anew stands s same c i at exact settings after is =
    let next = restarts_anew_go_on c.plant i stands at exact None settings after
    (is ∙ ap (λ (x : Store). restarted (clock_at c.plant.time.pace exact).shows x (with_settings settings stands.node)) same) in
    record {
      new = record { plant = next.0; losing = with_losing c.losing i None };
      starts = record { starts = next.1; losing = refl };
      there = ap (λ o. or_else o (slice_get (next.0).stations i)) (set_there c.losing i None) ∙ next.2;
    }

-- with what the keeper finds
module _ {K : Type 0} (IsHonest : K → Type 0) (may_find : K → Store → Type 0) where
  found_start : (CanBegin : BoundNode → Store → Type 0) → ((stands : BoundNode) (s : Store) → s ≡ stands.node.store → CanBegin stands s)
      → FoundStoresStart IsHonest may_find CanBegin
  found_start CanBegin can keeper before after as_held finds honest s may = go (finds.crash honest s may)
    where
      go : (s ≡ before.node.store) ⊎ (s ≡ after.node.store) → CanBegin before s ⊎ CanBegin as_held.held s
      go (inl is) = inl (can before s is)
      go (inr is) = inr (can as_held.held s (is ∙ ap (λ (n : Node). n.store) (node_held before after as_held)))

  pub found_stores_go_on : (overtake : ℕ) → FoundStoresGoOn IsHonest may_find overtake
  found_stores_go_on overtake keeper before after as_held finds honest s may =
      found_start (CanStart overtake) (λ stands s same. can_start overtake stands s same) keeper before after as_held finds honest s may

  pub found_stores_start_anew : FoundStoresStart IsHonest may_find CanStartAnew
  found_stores_start_anew keeper before after as_held finds honest s may =
      found_start CanStartAnew (λ stands s same. can_start_anew stands s same) keeper before after as_held finds honest s may

  module _ (IsOpen : K → Type 0) (kept noted : K → Store) (settled : (k : K) (s : Store) → IsHonest k → IsOpen k → may_find k s → s ≡ kept k) where
    pub kept_stores_go_on : (overtake : ℕ) → KeptStoresGoOn IsHonest IsOpen kept noted may_find overtake
    kept_stores_go_on overtake keeper stands is honest s may =
        can_start overtake stands s (settled keeper s honest is.is_open may ∙ is.kept_is)

    pub kept_stores_start_anew : KeptStoresStart IsHonest IsOpen kept noted may_find CanStartAnew
    kept_stores_start_anew keeper stands is honest s may = can_start_anew stands s (settled keeper s honest is.is_open may ∙ is.kept_is)
