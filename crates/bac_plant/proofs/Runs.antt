-- A run of a plant is a run of its world.
use Rattle.std.proofs.Common.{◌≡◌, ℕ, List, [], ◌∷◌, Some, slice_get, slice_set, refl, sym, ap, subst, inl, ◌∙◌}
use Rattle.bac_protocol.specs.Pace.{IsTimely}
use Rattle.bac_world.specs.Claims.{AreServedApart}
use Rattle.bac_world.specs.Once.{IsOnce}
use Rattle.bac_world.specs.ReusingLogs.{IsOnceSo, Reuses}
use Rattle.bac_world.specs.ReusingWorlds.{WorldRunSo}
use Rattle.bac_world.specs.World.{Event, IsBounded, IsFresh, IsWithNode, WorldRun, WorldStep, stores_of, with_clock}
use Rattle.bac_world.proofs.Headline.{apart_in_run, headline, headline_so}
use Rattle.bac_driver.specs.BoundNodes.{BoundNode}
use Rattle.bac_driver.specs.Turns.{Turn}
use Rattle.bac_plant.specs.Plants.{HasNoReuse, Plant, nodes_of, settings_of, world_of}
use Rattle.bac_plant.specs.Steps.{AsksAt, AsksAwayAt, ChangesAt, FailsAt, PlantRun, PlantStep, RestartsAt, SendsHeldAt, StartsAgainAt, StartsAt, Step, away_note, note_of, with_station}
use Rattle.bac_plant.specs.Steps.Step.{Begins, BeginsAway, Changes, FailsToReceive, Holds, Passes, Restarts, SendsHeld, Starts, StartsAgain, Takes}
use Rattle.bac_plant.specs.Events.{events_in, events_of}
use Rattle.bac_plant.proofs.AsEver.{NONE, run_ever}
use Rattle.bac_plant.proofs.Settings.{run_settings}
use Rattle.bac_plant.proofs.Turned.{held_run, node_at, nodes_set, run_join, set_same, turn_run, with_node}

-- the nodes after a step of one station
set_nodes : (xs : List BoundNode) (i : ℕ) (a b : BoundNode) → slice_get xs i ≡ Some a → IsWithNode (nodes_of xs) i b.node (nodes_of (slice_set xs i b))
set_nodes xs i a b at = subst (λ l. IsWithNode (nodes_of xs) i b.node l) (sym (nodes_set xs i b))
    (with_node (nodes_of xs) i a.node b.node (node_at xs i a at))

-- the world knows nothing of links and buffers
link_alone : (old new : Plant) (i : ℕ) (before after : BoundNode) → slice_get old.stations i ≡ Some before → after.node ≡ before.node
    → new ≡ with_station old i after → world_of new ≡ world_of old
link_alone old new i before after at same is =
    ap world_of is ∙ ap (λ l. record (world_of old) { nodes = l }) (nodes_set old.stations i after
    ∙ ap (slice_set (nodes_of old.stations) i) same ∙ set_same (nodes_of old.stations) i before.node (node_at old.stations i before at))

fails_same : (old : Plant) (i : ℕ) (new : Plant) → FailsAt old i new → world_of new ≡ world_of old
fails_same old i new f = link_alone old new i f.before f.after f.at f.node f.is

sends_same : (old : Plant) (i : ℕ) (turns : List Turn) (new : Plant) → SendsHeldAt old i turns new → world_of new ≡ world_of old
sends_same old i turns new s = link_alone old new i s.before s.after s.at s.sends.node s.is

begins_event : (overtake : ℕ) (old : Plant) (i server : ℕ) (limits : _) (r : _) (new : Plant) → AsksAt old i server limits r new
    → WorldStep overtake (world_of old) (Event.Ask i server limits r) (world_of new)
begins_event overtake old i server limits r new b = subst (λ p. WorldStep overtake (world_of old) (Event.Ask i server limits r) (world_of p)) (sym b.is)
    (inl (record {
      before = b.before.node;
      at = node_at old.stations i b.before b.at;
      link = b.link;
      peer = b.peer;
      after = b.after.node;
      accepted = b.begun.accepted;
      sends = b.begun.sends;
      asks = b.begun.asks;
      nodes = set_nodes old.stations i b.before b.after b.at;
      time = refl;
      lives = refl;
      sent = b.sent;
      copies = refl;
      copied = b.copied;
      notes = ap (λ t. note_of i server b.begun.accepted.invoke_id t ∷ old.notes) b.begun.ticket_is;
      log = refl;
    }))

begins_away_event : (overtake : ℕ) (old : Plant) (i : ℕ) (peer : _) (limits : _) (r : _) (new : Plant) → AsksAwayAt old i peer limits r new
    → WorldStep overtake (world_of old) (Event.AskAway i peer limits r) (world_of new)
begins_away_event overtake old i peer limits r new b = subst (λ p. WorldStep overtake (world_of old) (Event.AskAway i peer limits r) (world_of p)) (sym b.is)
    (inl (record {
      before = b.before.node;
      at = node_at old.stations i b.before b.at;
      stranger = b.stranger;
      after = b.after.node;
      accepted = b.begun.accepted;
      sends = b.begun.sends;
      asks = b.begun.asks;
      nodes = set_nodes old.stations i b.before b.after b.at;
      time = refl;
      lives = refl;
      copies = refl;
      notes = ap (λ t. away_note i peer b.begun.accepted.invoke_id t ∷ old.notes) b.begun.ticket_is;
      log = refl;
    }))

changes_event : (overtake : ℕ) (old : Plant) (i : ℕ) (c : _) (new : Plant) → ChangesAt old i c new
    → WorldStep overtake (world_of old) (Event.Change i c) (world_of new)
changes_event overtake old i c new k = subst (λ p. WorldStep overtake (world_of old) (Event.Change i c) (world_of p)) (sym k.is)
    (record {
      before = k.before.node;
      at = node_at old.stations i k.before k.at;
      may = k.may;
      nodes = set_nodes old.stations i k.before _ k.at;
      time = refl;
      lives = refl;
      copies = refl;
      notes = refl;
      log = refl;
    })

pub restarts_event : (overtake : ℕ) (old : Plant) (i exact : ℕ) (store : _) (new : Plant) → RestartsAt old i exact store new
    → WorldStep overtake (world_of old) (Event.Restart i exact store) (world_of new)
restarts_event overtake old i exact store new r = subst (λ p. WorldStep overtake (world_of old) (Event.Restart i exact store) (world_of p)) (sym r.is)
    (record {
      before = r.before.node;
      at = node_at old.stations i r.before r.at;
      nodes = subst (λ n. IsWithNode (nodes_of old.stations) i n (nodes_of (slice_set old.stations i r.after))) r.node
          (set_nodes old.stations i r.before r.after r.at);
      time = refl;
      lives = refl;
      copies = refl;
      notes = refl;
      log = refl;
    })

-- a first start, and the start of another program
starts_event : (overtake : ℕ) (old : Plant) (i exact : ℕ) (new : Plant) → StartsAt old i exact new
    → WorldStep overtake (world_of old) (Event.Begin i exact) (world_of new)
starts_event overtake old i exact new s = record {
  node = s.before.node;
  at = node_at old.stations i s.before s.at;
  first = s.first;
  is = ap world_of s.is
      ∙ ap (λ l. record (world_of old) { nodes = l; time = with_clock old.time i exact }) (nodes_set old.stations i s.after
      ∙ ap (slice_set (nodes_of old.stations) i) s.node ∙ set_same (nodes_of old.stations) i s.before.node (node_at old.stations i s.before s.at));
}

starts_again_event : (overtake : ℕ) (old : Plant) (i exact first_id : ℕ) (store : _) (new : Plant) → StartsAgainAt old i exact first_id store new
    → WorldStep overtake (world_of old) (Event.BeginAgain i exact first_id store) (world_of new)
starts_again_event overtake old i exact first_id store new r =
    subst (λ p. WorldStep overtake (world_of old) (Event.BeginAgain i exact first_id store) (world_of p)) (sym r.is) (record {
      before = r.before.node;
      at = node_at old.stations i r.before r.at;
      quiet = r.quiet;
      nodes = subst (λ n. IsWithNode (nodes_of old.stations) i n (nodes_of (slice_set old.stations i r.after))) r.node
          (set_nodes old.stations i r.before r.after r.at);
      time = refl;
      lives = refl;
      copies = refl;
      notes = refl;
      log = refl;
    })

pub step_events : (overtake : ℕ) (u : Reuses) (old : Plant) (step : Step) (new : Plant) → ((i : ℕ) → settings_of old i ≡ u i) → PlantStep overtake old step new
    → WorldRunSo overtake u (world_of old) (events_in step) (world_of new)
step_events overtake u old (Passes by own) new settings s = (world_of new, ap world_of s, refl)
step_events overtake u old (Takes i source turn) new settings s = turn_run overtake u old settings i source turn new s
step_events overtake u old (FailsToReceive i) new settings s = fails_same old i new s
step_events overtake u old (Begins i server limits r) new settings s = (world_of new, begins_event overtake old i server limits r new s, refl)
step_events overtake u old (BeginsAway i peer limits r) new settings s = (world_of new, begins_away_event overtake old i peer limits r new s, refl)
step_events overtake u old (Changes i c) new settings s = (world_of new, changes_event overtake old i c new s, refl)
step_events overtake u old (Restarts i exact store) new settings s = (world_of new, restarts_event overtake old i exact store new s, refl)
step_events overtake u old (Starts i exact) new settings s = (world_of new, starts_event overtake old i exact new s, refl)
step_events overtake u old (StartsAgain i exact first_id store) new settings s = (world_of new, starts_again_event overtake old i exact first_id store new s, refl)
step_events overtake u old (Holds i source turn) new settings s = held_run overtake u old settings i source turn new s
step_events overtake u old (SendsHeld i turns) new settings s = sends_same old i turns new s

pub run_by : (overtake : ℕ) (u : Reuses) (steps : List Step) (old new : Plant) → ((i : ℕ) → settings_of old i ≡ u i) → PlantRun overtake steps old new
    → WorldRunSo overtake u (world_of old) (events_of steps) (world_of new)
run_by overtake u [] old new settings run = ap world_of run
run_by overtake u (step ∷ before) old new settings run =
    run_join overtake u (events_of before) (events_in step) (world_of old) (world_of run.middle) (world_of new)
    (run_by overtake u before old run.middle settings run.so_far)
    (step_events overtake u run.middle step new (λ i. run_settings overtake before old run.middle run.so_far i ∙ settings i) run.last)

pub run_events : (overtake : ℕ) (steps : List Step) (old new : Plant) → PlantRun overtake steps old new
    → WorldRunSo overtake (settings_of old) (world_of old) (events_of steps) (world_of new)
run_events overtake steps old new run = run_by overtake (settings_of old) steps old new (λ i. refl) run

-- where no station lets clients use an invoke ID again
pub run_events_ever : (overtake : ℕ) (steps : List Step) (old new : Plant) → HasNoReuse old → PlantRun overtake steps old new
    → WorldRun overtake (world_of old) (events_of steps) (world_of new)
run_events_ever overtake steps old new none run =
    run_ever overtake (world_of old) (events_of steps) (world_of new) (run_by overtake NONE steps old new none run)

module _ (W overtake : ℕ) (old new : Plant) (fresh : IsFresh (world_of old)) (timely : IsTimely old.time.pace) (bounded : IsBounded W overtake (world_of old))
    (steps : List Step) (run : PlantRun overtake steps old new) where
  pub once : IsOnceSo (settings_of old) (stores_of (nodes_of old.stations)) new.log (stores_of (nodes_of new.stations))
  once = headline_so (settings_of old) W overtake (world_of old) (world_of new) fresh timely bounded (events_of steps) (run_events overtake steps old new run)

  pub once_ever : HasNoReuse old → IsOnce (stores_of (nodes_of old.stations)) new.log (stores_of (nodes_of new.stations))
  once_ever none = headline W overtake (world_of old) (world_of new) fresh timely bounded (events_of steps) (run_events_ever overtake steps old new none run)

  pub apart : HasNoReuse old → AreServedApart (world_of new)
  apart none = apart_in_run W overtake (world_of old) (world_of new) fresh timely bounded (events_of steps) (run_events_ever overtake steps old new none run)
