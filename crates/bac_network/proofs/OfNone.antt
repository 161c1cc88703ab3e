-- The strangers in the log of a run are none of its nodes.
use Rattle.std.proofs.Common.{◌≡◌, ℕ, Bool, true, false, List, [], ◌∷◌, ◌++◌, Option, Some, None, refl, sym, subst, inl, inr, ◌∙◌}
use Rattle.bac_protocol.specs.Pace.{IsTimely}
use Rattle.bac_transaction.specs.Meanings.{EndedView}
use Rattle.bac_world.specs.Services as service
use Rattle.bac_world.specs.Node.{Node, Outcome}
use Rattle.bac_world.specs.Once.{Fact}
use Rattle.bac_world.specs.Once.Fact.{Asked, Performed, Ended, Changed, Restarted, Served, AskedAway, EndedAway}
use Rattle.bac_world.specs.ReusingLogs.{Reuses}
use Rattle.bac_world.specs.ReusingWorlds.{ActsSo, AreLoggedSo, DeliversIfSo, WorldRunSo, WorldStepSo}
use Rattle.bac_world.specs.World.{World, Event, Copy, Note, AreEnded, IsFresh, IsBounded}
use Rattle.bac_world.specs.World.{ending_fact, is_away, is_deliverable, link_at}
use Rattle.bac_world.specs.World.Event.{Ask, AskAway, Deliver, Noise, Stray, Tick, Advance, Change, Restart, Begin, BeginAgain}
use Rattle.bac_network.specs.Histories.{WorldView, HasRunSo, as_world, reuses_of}
use Rattle.bac_network.specs.OfNone.{HasStrangersOfNone, HasStrangersOfNoneNow}
use Rattle.bac_world.proofs.Steps.{acts_as}
use Rattle.bac_network.proofs.Histories.{links_stay, run_more}

-- where the links are the same
of_none_as : (a b : List Node) → ((i : ℕ) → link_at a i ≡ link_at b i) → (log : List Fact) → HasStrangersOfNone a log → HasStrangersOfNone b log
of_none_as a b same [] h = tt
of_none_as a b same (Asked n c s r ∷ log) h = of_none_as a b same log h
of_none_as a b same (Performed n r p ∷ log) h = of_none_as a b same log h
of_none_as a b same (Ended n how ∷ log) h = of_none_as a b same log h
of_none_as a b same (Changed i c ∷ log) h = of_none_as a b same log h
of_none_as a b same (Restarted i o ∷ log) h = of_none_as a b same log h
of_none_as a b same (Served q i d m r p ∷ log) h = (λ j at. h.0 j (same j ∙ at), of_none_as a b same log h.1)
of_none_as a b same (AskedAway n c q r ∷ log) h = (λ j at. h.0 j (same j ∙ at), of_none_as a b same log h.1)
of_none_as a b same (EndedAway n how ∷ log) h = of_none_as a b same log h

-- What a node's call enters.

module _ (nodes : List Node) (notes : List Note) (node : ℕ) where
  after_ending : (away : Bool) (n : ℕ) (f : EndedView) (log : List Fact) → HasStrangersOfNone nodes log
      → HasStrangersOfNone nodes (ending_fact away n f.how ∷ log)
  after_ending true n f log h = h
  after_ending false n f log h = h

  after_endings : (fs : List EndedView) (old new : List Fact) → AreEnded notes node fs old new → HasStrangersOfNone nodes old → HasStrangersOfNone nodes new
  after_endings [] old new ended h = subst (HasStrangersOfNone nodes) (sym ended) h
  after_endings (f ∷ fs) old new ended h =
      after_endings fs (ending_fact (is_away ended.0 notes) ended.0 f.how ∷ old) new ended.2 (after_ending (is_away ended.0 notes) ended.0 f old h)

  after_performed : (reuse : Bool) (after : Node) (o : Option service.Performed) (old new : List Fact) → AreLoggedSo reuse nodes notes node after o old new
      → HasStrangersOfNone nodes old → HasStrangersOfNone nodes new
  after_performed true after None old new logged h = subst (HasStrangersOfNone nodes) (sym logged) h
  after_performed true after (Some p) old new (inl logged) h = subst (HasStrangersOfNone nodes) (sym logged.log) h
  after_performed true after (Some p) old new (inr logged) h = subst (HasStrangersOfNone nodes) (sym logged.log) (logged.stranger, h)
  after_performed false after None old new logged h = subst (HasStrangersOfNone nodes) (sym logged) h
  after_performed false after (Some p) old new (inl logged) h = subst (HasStrangersOfNone nodes) (sym logged.log) h
  after_performed false after (Some p) old new (inr logged) h = subst (HasStrangersOfNone nodes) (sym logged.log) (logged.stranger, h)

after_acts : (reuse : Bool) (w w' : World) (i : ℕ) (b : Node) (o : Outcome) → ActsSo reuse w i b o w' → HasStrangersOfNone w.nodes w.log
    → HasStrangersOfNone w.nodes w'.log
after_acts reuse w w' i b o acts h =
    after_performed w.nodes w.notes i reuse b o.performed acts.between w'.log acts.logged
    (after_endings w.nodes w.notes i o.ended w.log acts.between acts.ended h)

after_delivery : (b : Bool) (u : Reuses) (w : World) (c : Copy) (w' : World) → DeliversIfSo b u w c w' → HasStrangersOfNone w.nodes w.log
    → HasStrangersOfNone w.nodes w'.log
after_delivery true u w c w' d h = after_acts (u c.to) w w' c.to d.hears.after d.hears.outcome d.hears.acts h
after_delivery false u w c w' same h = subst (λ (u : World). HasStrangersOfNone w.nodes u.log) (sym same) h

-- An event, by the links before it.

after_step : (overtake : ℕ) (u : Reuses) (w w' : World) (e : Event) → WorldStepSo overtake u w e w' → HasStrangersOfNone w.nodes w.log → HasStrangersOfNone w.nodes w'.log
after_step overtake u w w' (Ask client server limits r) (inl s) h = subst (HasStrangersOfNone w.nodes) (sym s.log) h
after_step overtake u w w' (Ask client server limits r) (inr s) h = subst (λ (v : World). HasStrangersOfNone w.nodes v.log) (sym s.same) h
after_step overtake u w w' (AskAway client peer limits r) (inl s) h = subst (HasStrangersOfNone w.nodes) (sym s.log) (s.stranger, h)
after_step overtake u w w' (AskAway client peer limits r) (inr s) h = subst (λ (v : World). HasStrangersOfNone w.nodes v.log) (sym s.same) h
after_step overtake u w w' (Deliver number) s h =
    after_delivery (is_deliverable overtake w.time.pace.life w.time.now number w.copies s.copy) u w s.copy w' s.goes h
after_step overtake u w w' (Noise node from octets) (inl s) h = after_acts (u node) w w' node s.hears.after s.hears.outcome s.hears.acts h
after_step overtake u w w' (Noise node from octets) (inr s) h = subst (λ (v : World). HasStrangersOfNone w.nodes v.log) (sym s.same) h
after_step overtake u w w' (Stray node from octets) (inl s) h = after_acts (u node) w w' node s.hears.after s.hears.outcome s.hears.acts h
after_step overtake u w w' (Stray node from octets) (inr s) h = subst (λ (v : World). HasStrangersOfNone w.nodes v.log) (sym s.same) h
after_step overtake u w w' (Tick node) s h = after_acts false w w' node s.after s.outcome (acts_as w w' node s.after s.outcome s.acts) h
after_step overtake u w w' (Advance by own) s h = subst (λ (v : World). HasStrangersOfNone w.nodes v.log) (sym s) h
after_step overtake u w w' (Change node c) s h = subst (HasStrangersOfNone w.nodes) (sym s.log) h
after_step overtake u w w' (Restart node exact store) s h = subst (HasStrangersOfNone w.nodes) (sym s.log) h
after_step overtake u w w' (Begin node exact) s h = subst (λ (v : World). HasStrangersOfNone w.nodes v.log) (sym s.is) h
after_step overtake u w w' (BeginAgain node exact first_id store) s h = subst (HasStrangersOfNone w.nodes) (sym s.log) h

-- A run, after which each link is as at first.

module _ (W overtake : ℕ) (u : Reuses) (first : World) (fresh : IsFresh first) (timely : IsTimely first.time.pace) (bounded : IsBounded W overtake first) where
  goes_on : (done events : List Event) (mid w : World) → WorldRunSo overtake u first done mid → WorldRunSo overtake u mid events w
      → HasStrangersOfNone mid.nodes mid.log → HasStrangersOfNone w.nodes w.log
  goes_on done [] mid w before run h = subst (λ (v : World). HasStrangersOfNone v.nodes v.log) (sym run) h
  goes_on done (e ∷ es) mid w before run h =
      let more = run_more overtake u done e first mid run.0 before run.1 in
      goes_on (done ++ e ∷ []) es run.0 w more run.2
      (of_none_as mid.nodes run.0.nodes
      (λ i. links_stay W overtake u first mid fresh timely bounded done before i ∙ sym (links_stay W overtake u first run.0 fresh timely bounded (done ++ e ∷ []) more i))
      run.0.log (after_step overtake u mid run.0 e run.1 h))

pub strangers_now : (W : ℕ) (w : WorldView) → HasRunSo W w → HasStrangersOfNoneNow w
strangers_now W w h =
    goes_on W w.overtake (reuses_of w) h.first h.fresh h.timely h.bounded [] h.events h.first (as_world w) refl h.run
    (subst (HasStrangersOfNone h.first.nodes) (sym h.fresh.log) tt)
