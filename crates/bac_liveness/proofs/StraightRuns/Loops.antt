-- What a loop over the copies of a straight run needs; and that it is a run.
use Rattle.std.proofs.Common.{◌≡◌, ◌+◌, ◌-◌, ◌≤◌, ℕ, zero, suc, true, length, refl, subst, inl, arith, ◌⊎◌, false, inr}
use Rattle.bac_apdu.specs.Apdu.{Limits}
use Rattle.bac_service.specs.Values.{Request}
use Rattle.bac_transaction.specs.Keys.{PeerKey}
use Rattle.bac_world.specs.World.{World, WorldStep, WorldRun, IsAsked}
use Rattle.bac_world.specs.World.Event.{Deliver}
use Rattle.bac_liveness.specs.StraightRuns.{is_open, DeliverEach, deliveries, IsRunOfDeliveries, DeliveriesGoOn, IsStraight, key_of_ask, ending_in}

module _ (overtake client : ℕ) (key : PeerKey) where
  goes_on : (count number : ℕ) (w u v : World) → DeliverEach overtake client key count number w u → is_open u client key ≡ true
      → WorldStep overtake u (Deliver (number + count)) v → DeliverEach overtake client key (suc count) number w v
  goes_on zero number w u v h going step =
      let at : number + 0 ≡ number = omega arith in (
        subst (λ (y : World). is_open y client key ≡ true) h going,
        v,
        subst (λ (y : World). WorldStep overtake y (Deliver number) v) h (subst (λ (k : ℕ). WorldStep overtake u (Deliver k) v) at step),
        refl,
      )
  goes_on (suc count) number w u v h going step =
      let at : number + suc count ≡ suc number + count = omega arith in
      (h.0, h.1, h.2, goes_on count (suc number) h.1 u v h.3 going (subst (λ (k : ℕ). WorldStep overtake u (Deliver k) v) at step))

  next : (first number : ℕ) (w u v : World) → first ≤ number → DeliverEach overtake client key (number - first) first w u → is_open u client key ≡ true
      → WorldStep overtake u (Deliver number) v → DeliverEach overtake client key (number + 1 - first) first w v
  next first number w u v le h going step =
      let a : suc (number - first) ≡ number + 1 - first = omega arith in
      let b : number ≡ first + (number - first) = omega arith in
      subst (λ (k : ℕ). DeliverEach overtake client key k first w v) a
      (goes_on (number - first) first w u v h going (subst (λ (k : ℕ). WorldStep overtake u (Deliver k) v) b step))

  none : (first : ℕ) (w : World) → DeliverEach overtake client key (first - first) first w w
  none first w =
      let a : 0 ≡ first - first = omega arith in
      subst (λ (k : ℕ). DeliverEach overtake client key k first w w) a refl

  run_of : (count number : ℕ) (w v : World) → DeliverEach overtake client key count number w v → WorldRun overtake w (deliveries count number) v
  run_of zero number w v h = h
  run_of (suc count) number w v h = (h.1, h.2, run_of count (suc number) h.1 v h.3)

pub deliveries_go_on : DeliveriesGoOn
deliveries_go_on = record { first = none; next = next; ends = ends }
  where
    ends : (overtake : ℕ) (old : World) (client server : ℕ) (limits : Limits) (r : Request) (asked : World)
        → (asks : IsAsked old client server limits r asked) (number : ℕ) (new : World) → length old.copies ≤ number
        → DeliverEach overtake client (key_of_ask old client server limits r asked asks) (number - length old.copies) (length old.copies) asked new
        → (is_open new client (key_of_ask old client server limits r asked asks) ≡ false) ⊎ (length new.copies ≤ number)
        → IsStraight overtake old client server limits r (ending_in (length old.notes) new.log) (number - length old.copies) new
    ends overtake old client server limits r asked asks number new le delivers stops =
        record { asked = asked; asks = asks; delivers = delivers; stops = go stops; ending_is = refl }
      where
        go : ((is_open new client (key_of_ask old client server limits r asked asks) ≡ false) ⊎ (length new.copies ≤ number))
            → (is_open new client (key_of_ask old client server limits r asked asks) ≡ false)
            ⊎ (length new.copies ≤ length old.copies + (number - length old.copies))
        go (inl closed) = inl closed
        go (inr none) = inr (omega arith)

pub is_run : (overtake : ℕ) (old : World) → IsRunOfDeliveries overtake old
is_run overtake old client server limits r ending count new run =
    (run.asked, inl run.asks, run_of overtake client _ count (length old.copies) run.asked new run.delivers)
