-- Runs of worlds in which no invoke ID is used again, in the words of those in which some are.
use Rattle.std.proofs.Common.{◌≡◌, ◌⊎◌, ℕ, Bool, true, false, List, [], ◌∷◌, None, inl, inr, refl, sym, ◌∙◌}
use Rattle.bac_protocol.specs.Service.{Octets}
use Rattle.bac_service.specs.Values.{choice_of}
use Rattle.bac_transaction.specs.Reuse.{is_read}
use Rattle.bac_world.specs.Once.{Fact, IsOnce, IsUnperformed, MayEnter, Stores}
use Rattle.bac_world.specs.Once.Fact.{Asked, Performed, Ended, Changed, Restarted, Served, AskedAway, EndedAway}
use Rattle.bac_world.specs.ReusingLogs.{IsOnceSo, MayEnterSo, NoneReuses, Reuses}
use Rattle.bac_world.specs.ReusingWorlds.{DeliversIfSo, HearsSo, WorldRunSo, WorldStepSo}
use Rattle.bac_world.specs.World.{Copy, DeliversIf, Event, Hears, World, WorldRun, WorldStep, is_deliverable}
use Rattle.bac_world.specs.World.Event.{Ask, AskAway, Deliver, Noise, Stray, Tick, Advance, Change, Restart, Begin, BeginAgain}
use Rattle.bac_world.proofs.Settings.{reuses_in}
use Rattle.bac_world.proofs.Steps.{acts_as}

hears_as : (w : World) (i : ℕ) (from octets : Octets) (w' : World) → Hears w i from octets w' → HearsSo false w i from octets w'
hears_as w i from octets w' h =
    record { before = h.before; at = h.at; after = h.after; outcome = h.outcome; on = h.on; acts = acts_as w w' i h.after h.outcome h.acts }

delivers_as : (b : Bool) (w : World) (c : Copy) (w' : World) → DeliversIf b w c w' → DeliversIfSo b (reuses_in None) w c w'
delivers_as true w c w' d = record { link = d.link; sender = d.sender; hears = hears_as w c.to d.link c.octets w' d.hears }
delivers_as false w c w' d = d

step_as : (overtake : ℕ) (w : World) (e : Event) (w' : World) → WorldStep overtake w e w' → WorldStepSo overtake (reuses_in None) w e w'
step_as overtake w (Ask client server limits r) w' s = s
step_as overtake w (AskAway client peer limits r) w' s = s
step_as overtake w (Deliver number) w' s = record {
  copy = s.copy;
  there = s.there;
  goes = delivers_as (is_deliverable overtake w.time.pace.life w.time.now number w.copies s.copy) w s.copy w' s.goes;
}
step_as overtake w (Noise node from octets) w' (inl s) = inl (record { fit = s.meaningless; hears = hears_as w node from octets w' s.hears })
step_as overtake w (Noise node from octets) w' (inr s) = inr s
step_as overtake w (Stray node from octets) w' (inl s) = inl (record { fit = s.stranger; hears = hears_as w node from octets w' s.hears })
step_as overtake w (Stray node from octets) w' (inr s) = inr s
step_as overtake w (Tick node) w' s = s
step_as overtake w (Advance by own) w' s = s
step_as overtake w (Change node change) w' s = s
step_as overtake w (Restart node exact store) w' s = s
step_as overtake w (Begin node exact) w' s = s
step_as overtake w (BeginAgain node exact first_id store) w' s = s

pub run_as : (overtake : ℕ) (w : World) (events : List Event) (w' : World) → WorldRun overtake w events w' → WorldRunSo overtake (reuses_in None) w events w'
run_as overtake w [] w' run = run
run_as overtake w (e ∷ es) w' run = (run.0, step_as overtake w e run.0 run.1, run_as overtake run.0 es w' run.2)

-- Logs.

enter_as : (u : Reuses) (f : Fact) (log : List Fact) (old new : Stores) → MayEnter f log old new → MayEnterSo u f log old new
enter_as u (Asked n c s r) log old new h = h
enter_as u (Performed n r p) log old new h = record {
  client = h.client;
  server = h.server;
  store = h.store;
  asked = h.asked;
  first = inl h.first;
  at = h.at;
  reply = h.reply;
  stores = h.stores;
}
enter_as u (Ended n how) log old new h = h
enter_as u (Changed i c) log old new h = h
enter_as u (Restarted i o) log old new h = h
enter_as u (Served q i d b r p) log old new h = h
enter_as u (AskedAway n c q r) log old new h = h
enter_as u (EndedAway n how) log old new h = h

pub once_as : (u : Reuses) (opening : Stores) (log : List Fact) (stores : Stores) → IsOnce opening log stores → IsOnceSo u opening log stores
once_as u opening [] stores h = h
once_as u opening (f ∷ log) stores h = (h.0, enter_as u f log h.0 stores h.1, once_as u opening log h.0 h.2)

enter_ever : (u : Reuses) → NoneReuses u → (f : Fact) (log : List Fact) (old new : Stores) → MayEnterSo u f log old new → MayEnter f log old new
enter_ever u none (Asked n c s r) log old new h = h
enter_ever u none (Performed n r p) log old new h = record {
  client = h.client;
  server = h.server;
  store = h.store;
  asked = h.asked;
  first = go h.first;
  at = h.at;
  reply = h.reply;
  stores = h.stores;
}
  where
    go : IsUnperformed n log ⊎ ((u h.server ≡ true) × (is_read (choice_of r) ≡ true)) → IsUnperformed n log
    go (inl first) = first
    go (inr again) = absurd (let never : false ≡ true = sym (none h.server) ∙ again.0 in cc)
enter_ever u none (Ended n how) log old new h = h
enter_ever u none (Changed i c) log old new h = h
enter_ever u none (Restarted i o) log old new h = h
enter_ever u none (Served q i d b r p) log old new h = h
enter_ever u none (AskedAway n c q r) log old new h = h
enter_ever u none (EndedAway n how) log old new h = h

pub once_ever : (u : Reuses) → NoneReuses u → (opening : Stores) (log : List Fact) (stores : Stores) → IsOnceSo u opening log stores → IsOnce opening log stores
once_ever u none opening [] stores h = h
once_ever u none opening (f ∷ log) stores h = (h.0, enter_ever u none f log h.0 stores h.1, once_ever u none opening log h.0 h.2)

-- what keeps a log right in those words keeps it right
pub once_after : (opening : Stores) (old new : List Fact) (before after : Stores)
    → (IsOnceSo (reuses_in None) opening old before → IsOnceSo (reuses_in None) opening new after) → IsOnce opening old before → IsOnce opening new after
once_after opening old new before after step once =
    once_ever (reuses_in None) (λ node. refl) opening new after (step (once_as (reuses_in None) opening old before once))
