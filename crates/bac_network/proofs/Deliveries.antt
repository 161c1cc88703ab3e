-- What the loop over the copies needs, and what has come of it.
use Rattle.std.proofs.Common.{◌≡◌, ◌≢◌, ◌⊎◌, ℕ, zero, suc, ◌+◌, ◌-◌, ◌≤◌, Bool, true, false, length, None}
use Rattle.std.proofs.Common.{refl, sym, subst, inl, inr, arith}
use Rattle.bac_apdu.specs.Apdu.{Limits}
use Rattle.bac_service.specs.Values.{Request}
use Rattle.bac_transaction.specs.Keys.{PeerKey}
use Rattle.bac_world.specs.ReusingLogs.{NoneReuses, Reuses}
use Rattle.bac_world.specs.World.{World, Event, WorldStep, WorldRun, IsAsked}
use Rattle.bac_world.specs.World.Event.{Deliver}
use Rattle.bac_liveness.specs.StraightRuns.{is_open, DeliverEach, IsStraight, deliveries, ending_in, key_of_ask}
use Rattle.bac_network.specs.Logs.{DeliverUnended, DeliverUnendedBy, DeliverUnendedSo, Stops}
use Rattle.bac_network.specs.Open.{OpenUntilEnded}
use Rattle.bac_network.proofs.Strictly.{step_strictly}

-- whichever steps worlds take
module _ (steps : World → Event → World → Type 0) (ask : ℕ) where
  goes_on : (count number : ℕ) (w u v : World) → DeliverUnendedBy steps ask count number w u → ending_in ask u.log ≡ None
      → steps u (Deliver (number + count)) v → DeliverUnendedBy steps ask (suc count) number w v
  goes_on zero number w u v h going step =
      let at : number + 0 ≡ number = omega arith in (
        subst (λ (y : World). ending_in ask y.log ≡ None) h going,
        v,
        subst (λ (y : World). steps y (Deliver number) v) h (subst (λ (k : ℕ). steps u (Deliver k) v) at step),
        refl,
      )
  goes_on (suc count) number w u v h going step =
      let at : number + suc count ≡ suc number + count = omega arith in
      (h.0, h.1, h.2, goes_on count (suc number) h.1 u v h.3 going (subst (λ (k : ℕ). steps u (Deliver k) v) at step))

  pub none_yet : (first : ℕ) (w : World) → DeliverUnendedBy steps ask (first - first) first w w
  none_yet first w = let a : 0 ≡ first - first = omega arith in subst (λ (k : ℕ). DeliverUnendedBy steps ask k first w w) a refl

  pub one_more : (first number : ℕ) (w u v : World) → first ≤ number → DeliverUnendedBy steps ask (number - first) first w u
      → ending_in ask u.log ≡ None → steps u (Deliver number) v → DeliverUnendedBy steps ask (number + 1 - first) first w v
  one_more first number w u v le h going step =
      let a : suc (number - first) ≡ number + 1 - first = omega arith in
      let b : number ≡ first + (number - first) = omega arith in
      subst (λ (k : ℕ). DeliverUnendedBy steps ask k first w v) a
      (goes_on (number - first) first w u v h going (subst (λ (k : ℕ). steps u (Deliver k) v) b step))

pub run_of : (overtake ask count number : ℕ) (w v : World) → DeliverUnended overtake ask count number w v → WorldRun overtake w (deliveries count number) v
run_of overtake ask zero number w v h = h
run_of overtake ask (suc count) number w v h = (h.1, h.2, run_of overtake ask count (suc number) h.1 v h.3)

pub each_strictly : (overtake : ℕ) (r : Reuses) (ask : ℕ) → NoneReuses r → (count number : ℕ) (w v : World)
    → DeliverUnendedSo overtake r ask count number w v → DeliverUnended overtake ask count number w v
each_strictly overtake r ask none zero number w v h = h
each_strictly overtake r ask none (suc count) number w v h =
    (h.0, h.1, step_strictly overtake r none w (Deliver number) h.1 h.2, each_strictly overtake r ask none count (suc number) h.1 v h.3)

-- one delivery more at the end of a run
run_more : (overtake count number : ℕ) (w u v : World) → WorldRun overtake w (deliveries count number) u → WorldStep overtake u (Deliver (number + count)) v
    → WorldRun overtake w (deliveries (suc count) number) v
run_more overtake zero number w u v h step =
    let at : number + 0 ≡ number = omega arith in (
      v,
      subst (λ (y : World). WorldStep overtake y (Deliver number) v) h (subst (λ (k : ℕ). WorldStep overtake u (Deliver k) v) at step),
      refl,
    )
run_more overtake (suc count) number w u v h step =
    let at : number + suc count ≡ suc number + count = omega arith in
    (h.0, h.1, run_more overtake count (suc number) h.0 u v h.2 (subst (λ (k : ℕ). WorldStep overtake u (Deliver k) v) at step))

module _ (overtake : ℕ) (old : World) (exactly : OpenUntilEnded overtake old) (client server : ℕ) (limits : Limits) (r : Request) (asked : World)
    (asks : IsAsked old client server limits r asked) where
  abbrev ask : ℕ
  ask = length old.notes

  abbrev key : PeerKey
  key = key_of_ask old client server limits r asked asks

  -- as long as the ask has not ended its ticket is open
  each_open : (count done number : ℕ) (w v : World) → WorldRun overtake asked (deliveries done number) w
      → DeliverUnended overtake ask count (number + done) w v → DeliverEach overtake client key count (number + done) w v
  each_open zero done number w v run h = h
  each_open (suc count) done number w v run h =
      let at : suc (number + done) ≡ number + suc done = omega arith in (
        (exactly client server limits r asked asks done number w run).1 h.0,
        h.1,
        h.2,
        subst (λ (k : ℕ). DeliverEach overtake client key count k h.1 v) (sym at)
            (each_open count (suc done) number h.1 v (run_more overtake done number asked w h.1 run h.2)
            (subst (λ (k : ℕ). DeliverUnended overtake ask count k h.1 v) at h.3)),
      )

  -- it was a straight run
  pub was_straight : (count : ℕ) (new : World) → DeliverUnended overtake ask count (length old.copies) asked new
      → Stops ask (length old.copies + count) new → IsStraight overtake old client server limits r (ending_in ask new.log) count new
  was_straight count new h stops = record { asked = asked; asks = asks; delivers = each; stops = go stops; ending_is = refl }
    where
      from : length old.copies ≡ length old.copies + 0
      from = omega arith

      each : DeliverEach overtake client key count (length old.copies) asked new
      each = subst (λ (k : ℕ). DeliverEach overtake client key count k asked new) (sym from)
          (each_open count 0 (length old.copies) asked new refl (subst (λ (k : ℕ). DeliverUnended overtake ask count k asked new) from h))

      closed : (b : Bool) → is_open new client key ≡ b → ending_in ask new.log ≢ None → b ≡ false
      closed false e some = refl
      closed true e some = absurd (some
          ((exactly client server limits r asked asks count (length old.copies) new (run_of overtake ask count (length old.copies) asked new h)).0 e))

      go : Stops ask (length old.copies + count) new → (is_open new client key ≡ false) ⊎ (length new.copies ≤ length old.copies + count)
      go (inl some) = inl (closed (is_open new client key) refl some)
      go (inr none) = inr none
