-- A start with other settings is the first event of a stretch of its world.
use Rattle.std.proofs.Common.{◌≡◌, ℕ, ◌≤◌, Bool, true, false, List, ◌∷◌, Some, slice_get, slice_set, nat_eq, if◌then◌else◌, refl, sym, ap, subst, ◌∙◌, arith}
use Rattle.std.proofs.lemmas.Bool.Decides.{nat_tests}
use Rattle.std.proofs.lemmas.Option.{slice_get_within}
use Rattle.std.specs.Option.{option_map}
use Rattle.bac_protocol.specs.Context.{Settings}
use Rattle.bac_protocol.specs.LongApdus.{TakesLong}
use Rattle.bac_protocol.specs.Pace.{clock_at}
use Rattle.bac_journal.proofs.Lists.{get_set, get_set_other}
use Rattle.bac_transaction.specs.Views.{rules_view}
use Rattle.bac_node.specs.Serving.{is_reusing}
use Rattle.bac_world.specs.LongApdus.{AsksLong}
use Rattle.bac_world.specs.Node.{Node, begun_again, restarted, store_after_restart}
use Rattle.bac_world.specs.ReusingLogs.{Reuses}
use Rattle.bac_world.specs.ReusingWorlds.{WorldStepSo}
use Rattle.bac_world.specs.Stretches.{AreOf, AreSet, BeginWithTurn, with_settings}
use Rattle.bac_world.specs.World.{Event, IsWithNode, World}
use Rattle.bac_driver.specs.BoundNodes.{BoundNode}
use Rattle.bac_plant.specs.Anew.{Anew, HappensAnew, IsPermitted}
use Rattle.bac_plant.specs.Anew.Anew.{RestartsSo, StartsAgainSo}
use Rattle.bac_plant.specs.LongStretches.{StartsLong}
use Rattle.bac_plant.specs.Plants.{Plant, nodes_of, reuse_of, settings_of, world_of}
use Rattle.bac_plant.proofs.Turned.{node_at, nodes_set}

-- one node takes the place of another, and then a third of that
set_twice : (xs : List Node) (i : ℕ) (a b c : Node) → slice_get xs i ≡ Some a → IsWithNode (slice_set xs i b) i c (slice_set xs i c)
set_twice xs i a b c at = record {
  here = get_set xs i c (slice_get_within xs i a at);
  others = λ j ne. get_set_other xs i j c ne ∙ sym (get_set_other xs i j b ne);
}

-- the settings of nodes, where one starts with others
abbrev pub now_with : (now : ℕ → Settings) → (station : ℕ) → Settings → ℕ → Settings
now_with now i settings j = if nat_eq j i then settings else now j

pub each_now : (P : Settings → Type 0) (now : ℕ → Settings) (i : ℕ) (settings : Settings) → P settings → ((j : ℕ) → P (now j)) → (j : ℕ)
    → P (now_with now i settings j)
each_now P now i settings here others j = go (nat_eq j i)
  where
    go : (z : Bool) → P (if z then settings else now j)
    go true = here
    go false = others j

-- those are the settings of all nodes
abbrev pub HaveNow : (now : ℕ → Settings) → Plant → Type 0
HaveNow now p = (j : ℕ) → slice_get (nodes_of p.stations) j ≡ option_map (with_settings (now j)) (slice_get (nodes_of p.stations) j)

-- a world whose nodes are set so, and the event
pub record BeginsStretch (W : ℕ) (ever : Reuses) (now : ℕ → Settings) (anew : Anew) (p u : Plant) : Type 0 where
  pub station : ℕ
  pub settings : Settings
  pub window : settings.window ≤ W
  pub long : StartsLong anew → TakesLong settings.limits
  pub set : World
  pub are_set : AreSet (world_of p) (now_with now station settings) set
  pub event : Event
  pub step : (overtake : ℕ) → WorldStepSo overtake (settings_of u) set event (world_of u)
  pub asks : AsksLong event
  pub reuses : settings_of u station ≡ true → ever station ≡ true
  pub others : (j : ℕ) → nat_eq j station ≡ false → settings_of u j ≡ settings_of p j
  pub begins : (old new : Reuses) (es : List Event) → ((m : ℕ) → nat_eq m station ≡ false → new m ≡ old m) → BeginWithTurn old new (event ∷ es)

-- those let invoke IDs be used again that ever do
pub are_of_ever : (W : ℕ) (ever : Reuses) (now : ℕ → Settings) (anew : Anew) (p u : Plant) → BeginsStretch W ever now anew p u → AreOf (settings_of p) ever
    → AreOf (settings_of u) ever
are_of_ever W ever now anew p u b among j is = go (nat_eq j b.station) refl
  where
    go : (z : Bool) → nat_eq j b.station ≡ z → ever j ≡ true
    go true e =
        let same : j ≡ b.station = grind (arith, nat_tests) in
        ap ever same ∙ b.reuses (sym (ap (settings_of u) same) ∙ is)
    go false e = among j (sym (b.others j e) ∙ is)

module _ (now : ℕ → Settings) (p u : Plant) (have : HaveNow now p) (i : ℕ) (a b : BoundNode) (at : slice_get p.stations i ≡ Some a)
    (there : u.stations ≡ slice_set p.stations i b) (settings : Settings) where
  abbrev set_nodes : List Node
  set_nodes = slice_set (nodes_of p.stations) i (with_settings settings a.node)

  here : slice_get (nodes_of p.stations) i ≡ Some a.node
  here = node_at p.stations i a at

  set_at : slice_get set_nodes i ≡ Some (with_settings settings a.node)
  set_at = get_set (nodes_of p.stations) i (with_settings settings a.node) (slice_get_within (nodes_of p.stations) i a.node here)

  each_set : (j : ℕ) → slice_get set_nodes j ≡ option_map (with_settings (now_with now i settings j)) (slice_get (nodes_of p.stations) j)
  each_set j = go (nat_eq j i) refl
    where
      go : (z : Bool) → nat_eq j i ≡ z → slice_get set_nodes j
          ≡ option_map (with_settings (if z then settings else now j)) (slice_get (nodes_of p.stations) j)
      go true is =
          let same : j ≡ i = grind (arith, nat_tests) in
          ap (slice_get set_nodes) same ∙ set_at
          ∙ sym (ap (option_map (with_settings settings)) (ap (slice_get (nodes_of p.stations)) same ∙ here))
      go false is = get_set_other (nodes_of p.stations) i j (with_settings settings a.node) (λ same. grind (arith, nat_tests)) ∙ have j

  -- the other stations are as they were
  other_stays : (j : ℕ) → nat_eq j i ≡ false → settings_of u j ≡ settings_of p j
  other_stays j is = ap (λ (l : List BoundNode). reuse_of (slice_get l j)) there
      ∙ ap reuse_of (get_set_other p.stations i j b (λ same. grind (arith, nat_tests)))

  reused : (reuses : Bool) → is_reusing (rules_view b.rules) ≡ reuses → settings_of u i ≡ reuses
  reused reuses rules = ap (λ (l : List BoundNode). reuse_of (slice_get l i)) there
      ∙ ap reuse_of (get_set p.stations i b (slice_get_within p.stations i a at)) ∙ rules

  placed : (n : Node) → b.node ≡ n → IsWithNode set_nodes i n (nodes_of u.stations)
  placed n is =
      subst (λ (m : Node). IsWithNode set_nodes i m (nodes_of u.stations)) is
      (subst (λ (l : List Node). IsWithNode set_nodes i b.node l) (sym (ap nodes_of there ∙ nodes_set p.stations i b))
      (set_twice (nodes_of p.stations) i a.node (with_settings settings a.node) b.node here))

pub begins_stretch : (W : ℕ) (ever : Reuses) (now : ℕ → Settings) (anew : Anew) (p u : Plant) → HaveNow now p → IsPermitted W ever anew
    → HappensAnew p anew u → BeginsStretch W ever now anew p u
begins_stretch W ever now (RestartsSo i exact store settings reuses) p u have permitted h =
    let there : u.stations ≡ slice_set p.stations i h.after = ap (λ (x : Plant). x.stations) h.is in
    record {
      station = i;
      settings = settings;
      window = permitted.0;
      long = λ long. long;
      set = record (world_of p) { nodes = slice_set (nodes_of p.stations) i (with_settings settings h.before.node) };
      are_set = record { nodes = each_set now p u have i h.before h.after h.at there settings; rest = refl };
      event = Event.Restart i exact store;
      step = λ overtake. record {
        before = with_settings settings h.before.node;
        at = set_at now p u have i h.before h.after h.at there settings;
        nodes = placed now p u have i h.before h.after h.at there settings
            (restarted (clock_at p.time.pace exact).shows (store_after_restart h.before.node.store store) (with_settings settings h.before.node)) h.node;
        time = ap (λ (x : Plant). x.time) h.is;
        lives = ap (λ (x : Plant). x.lives) h.is;
        copies = ap (λ (x : Plant). x.copies) h.is;
        notes = ap (λ (x : Plant). x.notes) h.is;
        log = ap (λ (x : Plant). x.log) h.is;
      };
      asks = tt;
      reuses = λ is. permitted.1 (sym (reused now p u have i h.before h.after h.at there settings reuses h.rules) ∙ is);
      others = other_stays now p u have i h.before h.after h.at there settings;
      begins = λ old new es others. others;
    }
begins_stretch W ever now (StartsAgainSo i exact first_id store settings reuses) p u have permitted h =
    let there : u.stations ≡ slice_set p.stations i h.after = ap (λ (x : Plant). x.stations) h.is in
    record {
      station = i;
      settings = settings;
      window = permitted.0;
      long = λ long. long;
      set = record (world_of p) { nodes = slice_set (nodes_of p.stations) i (with_settings settings h.before.node) };
      are_set = record { nodes = each_set now p u have i h.before h.after h.at there settings; rest = refl };
      event = Event.BeginAgain i exact first_id store;
      step = λ overtake. record {
        before = with_settings settings h.before.node;
        at = set_at now p u have i h.before h.after h.at there settings;
        quiet = h.quiet;
        nodes = placed now p u have i h.before h.after h.at there settings
            (begun_again (clock_at p.time.pace exact).shows first_id (store_after_restart h.before.node.store store)
            (with_settings settings h.before.node)) h.node;
        time = ap (λ (x : Plant). x.time) h.is;
        lives = ap (λ (x : Plant). x.lives) h.is;
        copies = ap (λ (x : Plant). x.copies) h.is;
        notes = ap (λ (x : Plant). x.notes) h.is;
        log = ap (λ (x : Plant). x.log) h.is;
      };
      asks = tt;
      reuses = λ is. permitted.1 (sym (reused now p u have i h.before h.after h.at there settings reuses h.rules) ∙ is);
      others = other_stays now p u have i h.before h.after h.at there settings;
      begins = λ old new es others. others;
    }
