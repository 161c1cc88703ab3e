-- A run of a plant, over restarts with other settings, is a run of its world in stretches.
use Rattle.std.proofs.Common.{◌≡◌, ℕ, ◌≤◌, List, [], ◌∷◌, Option, Some, None, slice_get, refl, sym, ap, subst, inl, inr, ◌∙◌}
use Rattle.std.proofs.lemmas.Option.{slice_get_within}
use Rattle.std.specs.Option.{option_map}
use Rattle.bac_protocol.specs.Context.{Settings}
use Rattle.bac_protocol.specs.Pace.{IsTimely}
use Rattle.bac_journal.proofs.Lists.{get_set}
use Rattle.bac_world.specs.Claims.{AreServedApart}
use Rattle.bac_world.specs.Node.{Node}
use Rattle.bac_world.specs.Once.{IsOnce}
use Rattle.bac_world.specs.Once.Fact.{Restarted}
use Rattle.bac_world.specs.ReusingLogs.{IsOnceSo, NoneReuses, Reuses}
use Rattle.bac_world.specs.ReusingWorlds.{WorldRunSo}
use Rattle.bac_world.specs.Stretches.{AreOf, with_settings}
use Rattle.bac_world.specs.World.{Event, IsBounded, IsFresh, World, link_at, stores_of, with_act, with_clock, with_restart}
use Rattle.bac_world.proofs.AsEver.{once_ever}
use Rattle.bac_world.proofs.Headline.{settings_or}
use Rattle.bac_world.proofs.Machines.{mode}
use Rattle.bac_world.proofs.Stretched.{IsOverHere, apart_over, bounded_with, first, rules_with, stretch_over}
use Rattle.bac_plant.specs.Anew.{ArePermitted, HappensAnew, IsPermitted, PlantRunIn, RestartsAnewGoOn, StartsAnewGoOn, Stretch}
use Rattle.bac_plant.specs.Events.{events_of}
use Rattle.bac_plant.specs.Moves.{IsReachedIn}
use Rattle.bac_plant.specs.Plants.{Plant, nodes_of, settings_of, world_of}
use Rattle.bac_plant.specs.Steps.{PlantRun, with_station}
use Rattle.bac_plant.proofs.Beginning.{BeginsStretch, are_of_ever, begins_stretch, each_now, now_with}
use Rattle.bac_plant.proofs.Runs.{run_events}
use Rattle.bac_plant.proofs.Settings.{run_settings}
use Rattle.bac_plant.proofs.TakingCalls.{CanGo, TakesCalls, takes_over}

-- a node with the settings that it has is as it was
as_set : (o : Option Node) → o ≡ option_map (with_settings (settings_or o)) o
as_set None = refl
as_set (Some a) = refl

as_it_is : (s : Settings) (o : Option Node) → ((a : Node) → o ≡ Some a → a.settings ≡ s) → o ≡ option_map (with_settings s) o
as_it_is s None same = refl
as_it_is s (Some a) same = λ k. Some (record a { settings = same a refl k })

module _ (W overtake : ℕ) (ever : Reuses) (w : World) (fresh : IsFresh w) (timely : IsTimely w.time.pace) (bounded : IsBounded W overtake w)
    (before : Reuses) (among : AreOf before ever) where
  abbrev Over : World → Type 0
  Over v = IsOverHere W overtake ever before among w fresh timely bounded v

  -- where a run has come to: those stations let invoke IDs be used again that do
  record Comes (p : Plant) : Type 0 where
    over : Over (world_of p)
    now : (i : ℕ) → settings_of p i ≡ over.now i

  -- one station starts with other settings; the world's event is that
  comes_in : (s : Stretch) (p u v : Plant) → Comes p → IsPermitted W ever s.anew → HappensAnew p s.anew u → PlantRun overtake s.steps u v → Comes v
  comes_in s p u v c permitted h run =
      let o : Over (world_of p) = c.over in
      let b : BeginsStretch W ever o.settings s.anew p u =
      begins_stretch W ever o.settings s.anew p u
      (λ j. as_it_is (o.settings j) (slice_get (nodes_of p.stations) j) (λ d there. (o.over.nodes j d there).settings)) permitted h in
      let q = stretch_over (link_at w.nodes) fresh.apart W overtake ever (stores_of w.nodes) bounded.some bounded.room
      (record { settings = now_with o.settings b.station b.settings; reuses = settings_of u; events = b.event ∷ events_of s.steps }) (world_of p) b.set
      (world_of v) o (each_now (λ (x : Settings). x.window ≤ W) o.settings b.station b.settings b.window o.windows)
      (are_of_ever W ever o.settings s.anew p u b (λ j is. o.among j (sym (c.now j) ∙ is)))
      (inr (b.begins o.now (settings_of u) (events_of s.steps) (λ j is. b.others j is ∙ c.now j))) b.are_set
      (world_of u, b.step overtake, run_events overtake s.steps u v run) in
      record { over = q.0; now = λ j. run_settings overtake s.steps u v run j ∙ sym (ap (λ (r : Reuses). r j) q.1) }

  comes_to : (ss : List Stretch) (p new : Plant) → Comes p → ArePermitted W ever ss → PlantRunIn overtake p ss new → Comes new
  comes_to [] p new c permitted run = subst Comes (sym run) c
  comes_to (s ∷ ss) p new c permitted run = comes_to ss run.1 new (comes_in s p run.0 run.1 c permitted.0 run.2 run.3) permitted.1 run.4

module _ (W overtake : ℕ) (ever : Reuses) (old new : Plant) (r : IsReachedIn W overtake ever old new) where
  begun : Comes W overtake ever (world_of old) r.fresh r.timely r.bounded (settings_of old) r.led.among r.led.middle
  begun =
      let o : IsOverHere W overtake ever (settings_of old) r.led.among (world_of old) r.fresh r.timely r.bounded (world_of old) =
      first W overtake ever (settings_of old) r.led.among (world_of old) r.fresh r.timely r.bounded in
      let q = stretch_over (link_at (nodes_of old.stations)) r.fresh.apart W overtake ever (stores_of (nodes_of old.stations)) r.bounded.some r.bounded.room
      (record { settings = o.settings; reuses = settings_of old; events = events_of r.led.steps }) (world_of old) (world_of old) (world_of r.led.middle) o o.windows
      r.led.among (inl (λ i. refl)) (record { nodes = λ i. as_set (slice_get (nodes_of old.stations) i); rest = refl })
      (run_events overtake r.led.steps old r.led.middle r.led.run) in
      record { over = q.0; now = λ i. run_settings overtake r.led.steps old r.led.middle r.led.run i ∙ sym (ap (λ (r : Reuses). r i) q.1) }

  last : Comes W overtake ever (world_of old) r.fresh r.timely r.bounded (settings_of old) r.led.among new
  last = comes_to W overtake ever (world_of old) r.fresh r.timely r.bounded (settings_of old) r.led.among r.led.stretches r.led.middle new begun r.led.permitted r.led.later

  pub once_anew : IsOnceSo ever (stores_of (nodes_of old.stations)) new.log (stores_of (nodes_of new.stations))
  once_anew = (last.over).right

  pub once_ever_anew : NoneReuses ever → IsOnce (stores_of (nodes_of old.stations)) new.log (stores_of (nodes_of new.stations))
  once_ever_anew none = once_ever ever none (stores_of (nodes_of old.stations)) new.log (stores_of (nodes_of new.stations)) once_anew

  pub apart_anew : NoneReuses ever → AreServedApart (world_of new)
  apart_anew none =
      apart_over W overtake ever (settings_of old) r.led.among (world_of old) r.fresh r.timely r.bounded (world_of new) last.over none

  -- Its world takes calls, also after more events.

  abbrev Stands : World → Type 0
  Stands v = IsOverHere W overtake ever (settings_of old) r.led.among (world_of old) r.fresh r.timely r.bounded v

  takes_at : (v : World) (o : Stands v) → TakesCalls o.now overtake v
  takes_at v o = takes_over (link_at (nodes_of old.stations)) r.fresh.apart W (rules_with overtake o.settings)
      (bounded_with W overtake r.bounded.some r.bounded.room o.settings o.windows) (mode ever o.now o.among) v o.net o.over overtake

  takes_after : (es : List Event) (v : World) → WorldRunSo overtake (last.over).now (world_of new) es v → TakesCalls (last.over).now overtake v
  takes_after es v run =
      let o : Stands (world_of new) = last.over in
      let q = stretch_over (link_at (nodes_of old.stations)) r.fresh.apart W overtake ever (stores_of (nodes_of old.stations)) r.bounded.some r.bounded.room
      (record { settings = o.settings; reuses = o.now; events = es }) (world_of new) (world_of new) v o o.windows o.among (inl (λ i. refl))
      (record {
        nodes = λ i. as_it_is (o.settings i) (slice_get (nodes_of new.stations) i) (λ d there. (o.over.nodes i d there).settings);
        rest = refl;
      }) run in
      subst (λ (now : Reuses). TakesCalls now overtake v) q.1 (takes_at v q.0)

  pub goes_in : CanGo overtake new
  goes_in = record { u = (last.over).now; now = last.now; on = λ es v few run. takes_after es v run }

-- Such restarts can happen next.

pub restarts_anew_go_on : RestartsAnewGoOn
restarts_anew_go_on p i before at exact store settings after node = (
  record (with_station p i after) { time = with_clock p.time i exact; lives = with_restart p.time p.lives i; log = Restarted i store ∷ p.log },
  record { before = before; at = at; after = after; node = node; rules = refl; is = refl },
  get_set p.stations i after (slice_get_within p.stations i before at),
)

pub starts_anew_go_on : StartsAnewGoOn
starts_anew_go_on p i before at quiet exact first_id store settings after node = (
  record (with_station p i after) { time = with_clock p.time i exact; lives = with_act p.lives i; log = Restarted i store ∷ p.log },
  record { before = before; at = at; quiet = quiet; after = after; node = node; rules = refl; is = refl },
  get_set p.stations i after (slice_get_within p.stations i before at),
)
