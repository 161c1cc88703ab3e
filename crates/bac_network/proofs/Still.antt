-- No time passes: the ticket of an ask stays, and so does what its client is told.
use Rattle.std.proofs.Common.{◌≡◌, ◌⊎◌, ℕ, ◌≤◌, Bool, true, false, zero, suc, sym, ap, inl, inr, ◌∙◌, arith}
use Rattle.bac_protocol.specs.Client.{Ask}
use Rattle.bac_protocol.specs.Transaction.{Key, Rules}
use Rattle.bac_protocol.specs.World.{Net, client_now, is_id_held}
use Rattle.bac_liveness.specs.Runs.{StaysSince}
use Rattle.bac_liveness.specs.StraightRuns.{deliveries}
use Rattle.bac_liveness.proofs.Paths.{Any, Bounded, Step, Path}
use Rattle.bac_liveness.proofs.Paths.Path.{Here, Then}
use Rattle.bac_liveness.proofs.Changes.{IsThere, there_step}
use Rattle.bac_liveness.proofs.Clocks.{MadeIn, here_step, made_path, stays_at}
use Rattle.bac_liveness.proofs.Kept.{held_in_time}
use Rattle.bac_world.specs.World.{World, WorldRun, IsDelivered, DeliversIf, is_deliverable}

module _ (x : Rules) (key : Key) (number : ℕ) (ask : Ask) (made : ℕ) where
  still : (l m : Net) → Step x Any l m → StaysSince l key made → client_now l key ≤ ask.first → IsThere x Any key number ask made l
      → IsThere x Any key number ask made m
  still l m s stays early h = go (there_step x Any key number ask made l m s h)
    where
      held : is_id_held l key ≡ true
      held = held_in_time x Any key number ask made l h stays (omega arith)

      go : (IsThere x Any key number ask made m ⊎ (is_id_held l key ≡ false)) → IsThere x Any key number ask made m
      go (inl k) = k
      go (inr free) = absurd (let e : true ≡ false = sym held ∙ free in cc)

  -- the ticket stays on a path on which its client's clock doesn't go on
  pub stays_there : (n m : Net) → Path x Any n m → Bounded n → StaysSince m key made → MadeIn n key ask.first made → client_now m key ≤ ask.first
      → IsThere x Any key number ask made n → IsThere x Any key number ask made m
  stays_there n _ Here b stays clock early h = h
  stays_there n m (Then l _ p s) b stays clock early h =
      let before : StaysSince l key made = stays_at x Any key ask.first made n l m p s b stays clock in
      let on : client_now l key ≤ client_now m key =
      here_step x Any key ask.first made l m s stays (made_path x Any key ask.first made n l p b before clock) in
      let sooner : client_now l key ≤ ask.first = omega arith in
      still l m s before sooner (stays_there n l p b before clock sooner h)

-- a delivery takes no time
delivered_time : (overtake number : ℕ) (u v : World) → IsDelivered overtake u number v → v.time ≡ u.time
delivered_time overtake number u v d = go (is_deliverable overtake u.time.pace.life u.time.now number u.copies d.copy) d.goes
  where
    go : (b : Bool) → DeliversIf b u d.copy v → v.time ≡ u.time
    go true y = y.hears.acts.time
    go false same = ap (λ (y : World). y.time) same

pub deliveries_time : (overtake count number : ℕ) (w v : World) → WorldRun overtake w (deliveries count number) v → v.time ≡ w.time
deliveries_time overtake zero number w v h = ap (λ (y : World). y.time) h
deliveries_time overtake (suc count) number w v h = deliveries_time overtake count (suc number) h.0 v h.2 ∙ delivered_time overtake number w h.0 h.1
