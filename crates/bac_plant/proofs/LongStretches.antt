-- A run of a plant in stretches is one of its world, and where all stations take APDUs of 480 octets or more nothing bounds overtaking.
use Rattle.std.proofs.Common.{◌≡◌, ℕ, ◌≤◌, List, [], ◌∷◌, Option, Some, None, slice_get, refl, sym, ap, subst, inl, inr, ◌∙◌, arith}
use Rattle.std.specs.Option.{option_map}
use Rattle.bac_protocol.specs.Context.{Settings}
use Rattle.bac_protocol.specs.LongApdus.{TakesLong}
use Rattle.bac_world.specs.Claims.{AreServedApart}
use Rattle.bac_world.specs.LongApdus.{TakeLongApdus}
use Rattle.bac_world.specs.Node.{Node}
use Rattle.bac_world.specs.Once.{IsOnce}
use Rattle.bac_world.specs.ReusingLogs.{IsOnceSo, NoneReuses, Reuses}
use Rattle.bac_world.specs.Stretches as world
use Rattle.bac_world.specs.Stretches.{AreOf, WorldRunIn, with_settings}
use Rattle.bac_world.specs.World.{World}
use Rattle.bac_world.proofs.Headline.{settings_or}
use Rattle.bac_world.proofs.Stretched.{apart_long_in, once_ever_long_in, once_long_in}
use Rattle.bac_plant.specs.Anew.{ArePermitted, PlantRunIn, Stretch}
use Rattle.bac_plant.specs.Events.{events_of}
use Rattle.bac_plant.specs.LongStretches.{IsReachedLongIn, TakeLongThroughout}
use Rattle.bac_plant.specs.Plants.{Plant, nodes_of, settings_of, world_of}
use Rattle.bac_plant.specs.Runs.{stores_in}
use Rattle.bac_plant.proofs.Beginning.{BeginsStretch, are_of_ever, begins_stretch, each_now, now_with}
use Rattle.bac_plant.proofs.LongApdus.{run_long}
use Rattle.bac_plant.proofs.NodeSettings.{run_sets, set_to, sets_at}
use Rattle.bac_plant.proofs.Runs.{run_events}
use Rattle.bac_plant.proofs.Settings.{run_settings}

-- a node with the settings that it has is as it was
as_set : (o : Option Node) → o ≡ option_map (with_settings (settings_or o)) o
as_set None = refl
as_set (Some a) = refl

-- what the nodes of a plant are set to
abbrev settings_in : Plant → ℕ → Settings
settings_in p j = settings_or (slice_get (nodes_of p.stations) j)

module _ (W : ℕ) where
  -- the window is at most W, and an APDU is long
  abbrev Fits : Settings → Type 0
  Fits s = (s.window ≤ W) × TakesLong s.limits

  abbrev FitsIf : Option Settings → Type 0
  FitsIf None = Unit {0}
  FitsIf (Some s) = Fits s

  abbrev AllFit : World → Type 0
  AllFit w = (j : ℕ) → FitsIf (sets_at w j)

  fits_or : (o : Option Node) → FitsIf (option_map set_to o) → Fits (settings_or o)
  fits_or None h = (omega arith, omega arith)
  fits_or (Some a) h = h

  fits_with : (s : Settings) → Fits s → (o : Option Node) → FitsIf (option_map set_to (option_map (with_settings s) o))
  fits_with s h None = tt
  fits_with s h (Some a) = h

  first_fits : (w : World) → TakeLongApdus W w → AllFit w
  first_fits w t j = go (slice_get w.nodes j) refl
    where
      go : (o : Option Node) → slice_get w.nodes j ≡ o → FitsIf (option_map set_to o)
      go None at = tt
      go (Some a) at = (t.windows j a at, t.long j a at)

  module _ (overtake : ℕ) (ever : Reuses) where
    -- stretches of the world that lead there
    record InStretches (p new : Plant) (before : Reuses) : Type 0 where
      stretches : List world.Stretch
      permitted : world.ArePermitted W ever before stretches
      long : world.TakeLongThroughout stretches
      run : WorldRunIn overtake (world_of p) stretches (world_of new)

    in_world : (ss : List Stretch) (p new : Plant) (before : Reuses) → ((j : ℕ) → settings_of p j ≡ before j) → AreOf before ever → AllFit (world_of p)
        → ArePermitted W ever ss → TakeLongThroughout ss → PlantRunIn overtake p ss new → InStretches p new before
    in_world [] p new before same among fit permitted long run = record { stretches = []; permitted = tt; long = tt; run = ap world_of run }
    in_world (s ∷ ss) p new before same among fit permitted long run =
        joined (in_world ss run.1 new (settings_of run.0) (run_settings overtake s.steps run.0 run.1 run.3) of_ever later_fits permitted.1 long.2 run.4)
      where
        begin : BeginsStretch W ever (settings_in p) s.anew p run.0
        begin = begins_stretch W ever (settings_in p) s.anew p run.0 (λ j. as_set (slice_get (nodes_of p.stations) j)) permitted.0 run.2

        now_fits : (j : ℕ) → Fits (now_with (settings_in p) begin.station begin.settings j)
        now_fits = each_now Fits (settings_in p) begin.station begin.settings (begin.window, begin.long long.0)
            (λ j. fits_or (slice_get (nodes_of p.stations) j) (fit j))

        of_ever : AreOf (settings_of run.0) ever
        of_ever = are_of_ever W ever (settings_in p) s.anew p run.0 begin (λ j is. among j (sym (same j) ∙ is))

        later_fits : AllFit (world_of run.1)
        later_fits j = subst FitsIf
            (sym (run_sets overtake (settings_of run.0) (begin.event ∷ events_of s.steps) begin.set (world_of run.1)
            (world_of run.0, begin.step overtake, run_events overtake s.steps run.0 run.1 run.3) j ∙ ap (option_map set_to) (begin.are_set.nodes j)))
            (fits_with (now_with (settings_in p) begin.station begin.settings j) (now_fits j) (slice_get (nodes_of p.stations) j))

        joined : InStretches run.1 new (settings_of run.0) → InStretches p new before
        joined rest = record {
          stretches = record { settings = now_with (settings_in p) begin.station begin.settings; reuses = settings_of run.0; events = begin.event ∷ events_of s.steps } ∷ rest.stretches;
          permitted = (
            λ j. (now_fits j).0,
            of_ever,
            inr (begin.begins before (settings_of run.0) (events_of s.steps) (λ j is. begin.others j is ∙ same j)),
            rest.permitted,
          );
          long = (λ j. (now_fits j).1, (begin.asks, run_long s.steps long.1), rest.long);
          run = (begin.set, world_of run.1, begin.are_set, (world_of run.0, begin.step overtake, run_events overtake s.steps run.0 run.1 run.3), rest.run);
        }

module _ (W overtake : ℕ) (ever : Reuses) (first new : Plant) (r : IsReachedLongIn W overtake ever first new) where
  fit : AllFit W (world_of first)
  fit = first_fits W (world_of first) r.long

  rest : InStretches W overtake ever r.led.middle new (settings_of first)
  rest = in_world W overtake ever r.led.stretches r.led.middle new (settings_of first) (run_settings overtake r.led.steps first r.led.middle r.led.run) r.led.among
      (λ j. subst (FitsIf W) (sym (run_sets overtake (settings_of first) (events_of r.led.steps) (world_of first) (world_of r.led.middle)
      (run_events overtake r.led.steps first r.led.middle r.led.run) j)) (fit j))
      r.led.permitted r.throughout.1 r.led.later

  abbrev stretches : List world.Stretch
  stretches = record { settings = settings_in first; reuses = settings_of first; events = events_of r.led.steps } ∷ rest.stretches

  permitted : world.ArePermitted W ever (settings_of first) stretches
  permitted = (λ j. (fits_or W (slice_get (nodes_of first.stations) j) (fit j)).0, r.led.among, inl (λ j. refl), rest.permitted)

  long : world.TakeLongThroughout stretches
  long = (λ j. (fits_or W (slice_get (nodes_of first.stations) j) (fit j)).1, run_long r.led.steps r.throughout.0, rest.long)

  run : WorldRunIn overtake (world_of first) stretches (world_of new)
  run = (
    world_of first,
    world_of r.led.middle,
    record { nodes = λ j. as_set (slice_get (nodes_of first.stations) j); rest = refl },
    run_events overtake r.led.steps first r.led.middle r.led.run,
    rest.run,
  )

  pub once_long_anew : IsOnceSo ever (stores_in first) new.log (stores_in new)
  once_long_anew = once_long_in W overtake ever (settings_of first) r.led.among (world_of first) (world_of new) r.fresh r.timely r.long stretches permitted long run
      r.fits

  pub once_ever_long_anew : NoneReuses ever → IsOnce (stores_in first) new.log (stores_in new)
  once_ever_long_anew none = once_ever_long_in W overtake ever (settings_of first) r.led.among (world_of first) (world_of new) r.fresh r.timely r.long stretches
      permitted long run r.fits none

  pub apart_long_anew : NoneReuses ever → AreServedApart (world_of new)
  apart_long_anew none = apart_long_in W overtake ever (settings_of first) r.led.among (world_of first) (world_of new) r.fresh r.timely r.long stretches permitted
      long run r.fits none
