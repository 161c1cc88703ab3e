-- Rounds of one station, one after the other.
use Rattle.std.proofs.Common.{inl, inr, ◌≡◌, ◌≤◌, ℕ, max, List, [], ◌∷◌, ◌++◌, length, refl, sym, ap, subst, ◌∙◌, arith, length-append}
use Rattle.bac_store.specs.Stores.{Store}
use Rattle.bac_driver.specs.BoundNodes.{BoundNode}
use Rattle.bac_driver.specs.Moments.{with_moment}
use Rattle.bac_driver.specs.Observed.{Observed, observed}
use Rattle.bac_driver.specs.Rounds.{BreaksOff, HoldsEarlyTurn, HoldsSeenTurn, HoldsSome, HoldsTurnAtOnce, HoldsTurnFrom, LinkFails, ROUND, RoundFails}
use Rattle.bac_driver.specs.Rounds.{ServesRounds, TakesRound, in_order, sends_of_all}
use Rattle.bac_driver.specs.Runs.{Run, Timed, timed}
use Rattle.bac_driver.specs.Seen.{Watcher}
use Rattle.bac_driver.specs.Serving.{performed_in}
use Rattle.bac_driver.specs.Turns.{IsCarried, Turn}
use Rattle.bac_driver.specs.Waits.{AT_ONCE}
use Rattle.bac_driver.specs.declared.fault.RoundFault.{RoundFault}
use Rattle.bac_driver.specs.declared.fault.RoundFault.TheVariants as fault
use Rattle.bac_driver.specs.declared.wait_limit.WaitLimit.{WaitLimit}
use Rattle.bac_plant.specs.Rounds.{FailsOnce, HasStopped, HeldChain, HoldsTurnOnce, IsAsHeldInChain, RoundChain, RoundInChain, ServesRoundsInChain}
use Rattle.bac_plant.specs.Rounds.{StopsInRound, StopsRoundsInChain}

-- Lists of turns.

in_order_length : (turns : List Turn) → length (in_order turns) ≡ length turns
in_order_length [] = refl
in_order_length (turn ∷ before) =
    let all = length-append (in_order before) (turn ∷ []) in
    let shorter = in_order_length before in
    omega (arith, all, shorter)

in_order_last : (turns : List Turn) (first : Turn) → in_order (turns ++ first ∷ []) ≡ first ∷ in_order turns
in_order_last [] first = refl
in_order_last (turn ∷ before) first = ap (λ (ts : List Turn). ts ++ turn ∷ []) (in_order_last before first)

-- a run after another one
pub run_after : {S T : Type 0} (step : S → T → S → Type 0) (earlier later : List T) (a b c : S) → Run step earlier a b → Run step later b c
    → Run step (later ++ earlier) a c
run_after step earlier [] a b c first second = subst (λ x. Run step earlier a x) (sym second) first
run_after step earlier (given ∷ later) a b c first second =
    record { middle = second.middle; so_far = run_after step earlier later a b second.middle first second.so_far; last = second.last }

-- the same run of what is seen of each
run_of : {S T U : Type 0} (step : S → T → S → Type 0) (seen : U → T → U → Type 0) (of : S → U)
    → ((old : S) (given : T) (new : S) → step old given new → seen (of old) given (of new)) → (all : List T) (old new : S) → Run step all old new
    → Run seen all (of old) (of new)
run_of step seen of each [] old new run = ap of run
run_of step seen of each (given ∷ before) old new run = record {
  middle = of run.middle;
  so_far = run_of step seen of each before old run.middle run.so_far;
  last = each run.middle given new run.last;
}

-- The turns of a round.

held_once : (began : ℕ) (p : WaitLimit) (old : Timed) (turn : Turn) (new : Timed) → HoldsTurnFrom began p old turn new
    → HoldsTurnOnce old.bound_node turn new.bound_node
held_once began p old turn new h = record {
  now = max h.looked began;
  is = record { limit = p; began = began; middle = h.middle; receives = h.receives; takes = h.takes };
}

held_at_once : (old : Timed) (turn : Turn) (new : Timed) → HoldsTurnAtOnce old turn new → HoldsTurnOnce old.bound_node turn new.bound_node
held_at_once old turn new h = held_once old.bound_node.node.latest AT_ONCE old turn new h

early_chain : (p : WaitLimit) (old : Timed) (first : Turn) (new : Timed) → HoldsEarlyTurn p old first new
    → HeldChain (first ∷ []) old.bound_node new.bound_node
early_chain p old first new h = record {
  middle = old.bound_node;
  so_far = refl;
  last = held_once h.began p (timed old.bound_node (with_moment old.told h.began)) first new h.holds;
}

-- The turns of a round that stopped.

none_held : (before after : BoundNode) → HasStopped before after → StopsInRound before after
none_held before after stopped =
    record {
      as_held = record { turns = []; held = before; chain = refl; most = omega arith; ends = inl stopped };
      stopped = stopped;
    }

some_held : (p : WaitLimit) (turns : List Turn) (old held : Timed) (after : BoundNode) → HoldsSome p turns old held → HasStopped held.bound_node after
    → StopsInRound old.bound_node after
some_held p turns old held after h stopped =
    let more = h.others.more in
    let all : List Turn = more ++ h.first ∷ [] in
    let order : turns ≡ in_order all = h.others.are ∙ sym (in_order_last more h.first) in
    record {
      as_held =
          record {
            turns = all;
            held = held.bound_node;
            chain = run_after HoldsTurnOnce (h.first ∷ []) more old.bound_node h.begun.bound_node held.bound_node
                (early_chain p old h.first h.begun h.begins)
                (run_of HoldsTurnAtOnce HoldsTurnOnce (λ (t : Timed). t.bound_node) held_at_once more h.begun held h.others.goes_on);
            most = subst (λ (n : ℕ). n ≤ ROUND) (ap length order ∙ in_order_length all) h.others.most;
            ends = inl stopped;
          };
      stopped = stopped;
    }

fails_once : (old new : Timed) → LinkFails old new → FailsOnce old.bound_node new.bound_node
fails_once old new f = record { node = f.node; count = f.count; calls = f.calls; rules = f.rules }

pub stops_in_round : (why : RoundFault) (p : WaitLimit) (old new : Timed) → RoundFails why p old new → StopsInRound old.bound_node new.bound_node
stops_in_round fault.Link p old new (inl f) =
    none_held old.bound_node new.bound_node (inr (record { node = f.node; count = f.count; calls = f.calls; rules = f.rules }))
stops_in_round fault.Link p old new (inr f) =
    some_held p f.turns old f.middle new.bound_node f.holds (inr (fails_once f.middle new f.fails))
stops_in_round fault.ClockBack p old new f = none_held old.bound_node new.bound_node (inl f.same)
stops_in_round (fault.Keep what) p old new f = some_held p f.turns old new new.bound_node f.holds (inl refl)

pub round_held : (before : BoundNode) (effects : ℕ) (after : BoundNode) → RoundInChain before effects after → IsAsHeldInChain before after
round_held before effects after r = record { turns = r.turns; held = r.middle; chain = r.held; most = r.most; ends = inr r.sent }

module _ {S : Type 0} (Sees : Watcher S) where
  more_chain : (turns : List Turn) (old new : Observed S) → Run (HoldsSeenTurn Sees HoldsTurnAtOnce) turns old new
      → HeldChain turns old.timed.bound_node new.timed.bound_node
  more_chain turns old new run =
      run_of (HoldsSeenTurn Sees HoldsTurnAtOnce) HoldsTurnOnce (λ (o : Observed S). o.timed.bound_node)
      (λ o turn n h. held_at_once o.timed turn n.timed h.is) turns old new run

  module _ (p : WaitLimit) where
    first_chain : (old : Observed S) (first : Turn) (new : Observed S) → HoldsSeenTurn Sees (HoldsEarlyTurn p) old first new
        → HeldChain (first ∷ []) old.timed.bound_node new.timed.bound_node
    first_chain old first new h = early_chain p old.timed first new.timed h.is

    pub round_in_chain : (old : Observed S) (effects : ℕ) (new : Observed S) → TakesRound Sees p old effects new
        → RoundInChain old.timed.bound_node effects new.timed.bound_node
    round_in_chain old effects new t =
        let r = t.round in
        let h = r.holds in
        let all : List Turn = h.more ++ h.first ∷ [] in
        let order : t.turns ≡ in_order all = h.are ∙ sym (in_order_last h.more h.first) in
        record {
          turns = all;
          middle = r.middle.bound_node;
          held = run_after HoldsTurnOnce (h.first ∷ []) h.more old.timed.bound_node h.begun.timed.bound_node r.middle.bound_node
              (first_chain old h.first h.begun h.begins) (more_chain h.more h.begun (observed r.middle new.state) h.goes_on);
          sent = record {
            lost = r.lost;
            carried = subst (λ (ts : List Turn). IsCarried (sends_of_all ts) r.lost r.middle.bound_node new.timed.bound_node) order r.carried;
            node = r.node;
            buffer = r.buffer;
            rules = r.rules;
          };
          most = subst (λ (n : ℕ). n ≤ ROUND) (ap length order ∙ in_order_length all) h.most;
          counted = t.counted ∙ ap performed_in order;
        }

    rounds_chain : (counts : List ℕ) (old new : Observed S) → Run (TakesRound Sees p) counts old new
        → RoundChain counts old.timed.bound_node new.timed.bound_node
    rounds_chain counts old new run = run_of (TakesRound Sees p) RoundInChain (λ (o : Observed S). o.timed.bound_node) round_in_chain counts old new run

    pub serves_rounds : (rounds effects : ℕ) (old new : Observed S) → ServesRounds Sees p rounds effects old new
        → ServesRoundsInChain effects old.timed.bound_node new.timed.bound_node
    serves_rounds rounds effects old new (inl all) =
        record { counts = all.counts; chain = rounds_chain all.counts old new all.run; counted = all.counted }
    serves_rounds rounds effects old new (inr some) = record {
      counts = some.takes.counts;
      chain = subst (λ (b : BoundNode). RoundChain some.takes.counts old.timed.bound_node b) (sym some.stopped.over.same)
          (rounds_chain some.takes.counts old some.middle some.takes.run);
      counted = some.takes.counted;
    }

    pub stops_rounds : {K : Type 0} (IsHonest : K → Type 0) (may_find : K → Store → Type 0) (keeper : K) (rounds : ℕ) (old new : Observed S)
        → BreaksOff Sees p rounds IsHonest may_find keeper old new
        → StopsRoundsInChain IsHonest may_find keeper old.timed.bound_node new.timed.bound_node
    stops_rounds IsHonest may_find keeper rounds old new b =
        let s = b.stops in
        record {
          counts = s.takes.counts;
          middle = s.middle.timed.bound_node;
          chain = rounds_chain s.takes.counts old s.middle s.takes.run;
          stops = stops_in_round s.stopped.unsent.why s.stopped.unsent.limit s.middle.timed new.timed s.stopped.unsent.fails;
          unsent = s.stopped.unsent.receives;
          finds = s.stopped.finds;
        }
