-- What is known of a world from how it came to be.
use Rattle.std.proofs.Common.{◌≡◌, ℕ, Bool, List, [], ◌∷◌, ◌++◌, OnOk, Option, Some, Result, Ok, Err, refl, sym, subst, ◌∙◌}
use Rattle.bac_protocol.specs.Pace.{IsTimely}
use Rattle.bac_protocol.specs.World.{net_start}
use Rattle.bac_store.specs.Stores.{Store}
use Rattle.bac_requester.specs.declared.ask_fault.AskFault.{AskFault}
use Rattle.bac_world.specs.Once.{Fact, Stores, IsOnce, HasRequestsAlone}
use Rattle.bac_world.specs.World.{World, Event, MakeNoStray, WorldStep, IsFresh, IsBounded, MakeRequestsAlone, link_at, stores_of}
use Rattle.bac_world.proofs.Claims.{among_nodes, by_requests_alone, ended_so, performed_once, permitted_so, replayed_so}
use Rattle.bac_world.proofs.Quiet.{alone_after_step}
use Rattle.bac_world.proofs.Headline.{apart_in_run, run_over_so, rules_of, rules_bounded, fresh_over, headline, headline_so}
use Rattle.bac_world.proofs.Settings.{always}
use Rattle.bac_world.specs.ReusingLogs.{IsOnceSo, NoneReuses, Reuses}
use Rattle.bac_world.specs.ReusingWorlds.{WorldRunSo, WorldStepSo}
use Rattle.bac_journal.specs.Views.{AreLinks}
use Rattle.bac_journal.proofs.GoingOn.{runs_can_go_on_so}
use Rattle.bac_network.specs.Clocks.{Instant}
use Rattle.bac_network.specs.AsksAlone.{HasAsksAlone, HasAsksAloneNow, IsOnceOfAsksNow}
use Rattle.bac_network.specs.Histories.{HasHistory, HasNoReuse, HasRunSo, IsOnceSoNow, reuses_of}
use Rattle.bac_network.specs.Histories.{WorldView, HasRun, IsKept, IsOnceNow, ArePerformedOnceNow, AreEndedOnceNow, AreReplayedNow}
use Rattle.bac_network.specs.Histories.{AreServedApartNow, HasNoStrangerNow, IsOnceAmongNodesNow}
use Rattle.bac_network.specs.Histories.{AreChangesPermittedNow, HasRequestsAloneNow, IsOnceByRequestsAloneNow}
use Rattle.bac_network.specs.Histories.{as_world, opening_stores, view_of}
use Rattle.bac_network.specs.Networks.{world_of, IsReady, IsReadySo}
use Rattle.bac_network.specs.Rules.{reuses_by}
use Rattle.bac_network.specs.Steps.{HappensTellingSo}
use Rattle.bac_network.specs.Views.{event_view}
use Rattle.bac_network.specs.declared.event.Event as code
use Rattle.bac_network.specs.declared.fault.WorldFault.{WorldFault}
use Rattle.bac_network.specs.declared.network.Network.{Network}
use Rattle.bac_network.proofs.AsksAlone.{asks_alone, no_stranger_after, of_asks, requests_of}
use Rattle.bac_network.proofs.Strictly.{step_strictly}

-- Runs.

pub run_more : (overtake : ℕ) (r : Reuses) (events : List Event) (e : Event) (w u v : World) → WorldRunSo overtake r w events u → WorldStepSo overtake r u e v
    → WorldRunSo overtake r w (events ++ e ∷ []) v
run_more overtake r [] e w u v run step = (v, subst (λ (x : World). WorldStepSo overtake r x e v) run step, refl)
run_more overtake r (d ∷ events) e w u v run step = (run.0, run.1, run_more overtake r events e run.0 u v run.2 step)

pub links_stay : (W overtake : ℕ) (r : Reuses) (w w' : World) → IsFresh w → IsTimely w.time.pace → IsBounded W overtake w → (events : List Event)
    → WorldRunSo overtake r w events w' → (i : ℕ) → link_at w'.nodes i ≡ link_at w.nodes i
links_stay W overtake r w w' f timely b events run =
    (run_over_so (link_at w.nodes) f.apart W (rules_of overtake w) (Some (always r)) (rules_bounded W overtake w b) refl (stores_of w.nodes) events w w'
    (net_start w.time.pace (λ i. (w.time.clocks i).exact)) (fresh_over (Some (always r)) W overtake w f timely b)
    (subst (λ (l : List Fact). IsOnceSo r (stores_of w.nodes) l (stores_of w.nodes)) (sym f.log) (λ node. refl))
    run).1.linked

once_from : (opening other : Stores) (log : List Fact) (stores : Stores) → ((i : ℕ) → opening i ≡ other i) → IsOnce opening log stores
    → IsOnce other log stores
once_from opening other [] stores same h = λ node. h node ∙ same node
once_from opening other (f ∷ log) stores same h = (h.0, h.1, once_from opening other log h.0 same h.2)

once_so_from : (r : Reuses) (opening other : Stores) (log : List Fact) (stores : Stores) → ((i : ℕ) → opening i ≡ other i) → IsOnceSo r opening log stores
    → IsOnceSo r other log stores
once_so_from r opening other [] stores same h = λ node. h node ∙ same node
once_so_from r opening other (f ∷ log) stores same h = (h.0, h.1, once_so_from r opening other log h.0 same h.2)

-- What is known now.

pub once_so_now : (W : ℕ) (w : WorldView) → HasRunSo W w → IsOnceSoNow w
once_so_now W w h = once_so_from (reuses_of w) (stores_of h.first.nodes) (opening_stores w) w.log (stores_of w.nodes) h.opening
    (headline_so (reuses_of w) W w.overtake h.first (as_world w) h.fresh h.timely h.bounded h.events h.run)

-- claim by claim, whichever nodes let invoke IDs be used again
module _ (w : WorldView) (once : IsOnceSoNow w) where
  pub ended_now : AreEndedOnceNow w
  ended_now = ended_so (reuses_of w) (opening_stores w) w.log (stores_of w.nodes) once

  pub permitted_now : AreChangesPermittedNow w
  permitted_now = permitted_so (reuses_of w) (opening_stores w) w.log (stores_of w.nodes) once

  pub replayed_now : AreReplayedNow w
  replayed_now = replayed_so (reuses_of w) (opening_stores w) w.log (stores_of w.nodes) once

-- where none does
pub once_now : (W : ℕ) (w : WorldView) → HasRun W w → IsOnceNow w
once_now W w h = once_from (stores_of h.first.nodes) (opening_stores w) w.log (stores_of w.nodes) h.opening
    (headline W w.overtake h.first (as_world w) h.fresh h.timely h.bounded h.events h.run)

pub apart_now : (W : ℕ) (w : WorldView) → HasRun W w → AreServedApartNow w
apart_now W w h = apart_in_run W w.overtake h.first (as_world w) h.fresh h.timely h.bounded h.events h.run

-- claim by claim
module _ (w : WorldView) (once : IsOnceNow w) where
  pub performed_now : ArePerformedOnceNow w
  performed_now = performed_once (opening_stores w) w.log (stores_of w.nodes) once

  -- where there is nothing of strangers
  pub among_now : HasNoStrangerNow w → IsOnceAmongNodesNow w
  among_now none = among_nodes (opening_stores w) w.log (stores_of w.nodes) none once

  -- where the log has what nodes asked, what was performed and how it ended alone
  pub asks_now : HasAsksAloneNow w → IsOnceOfAsksNow w
  asks_now alone = of_asks (opening_stores w) w.log (stores_of w.nodes) alone once

  -- where no node changed its own store or restarted
  pub requests_now : HasRequestsAloneNow w → IsOnceByRequestsAloneNow w
  requests_now alone = by_requests_alone (opening_stores w) w.log (stores_of w.nodes) alone once

pub ready_so_now : (window overtake : ℕ) (opening : List Store) (reuses : List Bool) (n : Network)
    → IsKept window n.journal.links (view_of overtake opening reuses n) → IsReadySo (reuses_by reuses) window overtake n
ready_so_now window overtake opening reuses n k =
    let h = k.history in
    record {
      can = runs_can_go_on_so (reuses_by reuses) window overtake h.first (world_of n) h.fresh h.timely h.bounded h.events h.run;
      linked = λ i. links_stay window overtake (reuses_by reuses) h.first (world_of n) h.fresh h.timely h.bounded h.events h.run i ∙ k.linked i;
      apart = λ i j l a b. h.fresh.apart i j l (k.linked i ∙ a) (k.linked j ∙ b);
    }

pub ready_now : (window overtake : ℕ) (opening : List Store) (reuses : List Bool) (n : Network)
    → IsKept window n.journal.links (view_of overtake opening reuses n) → IsReady window overtake n
ready_now window overtake opening reuses n k =
    let r = ready_so_now window overtake opening reuses n k in
    record { reuses = reuses_by reuses; can = r.can; linked = r.linked; apart = r.apart }

-- After a step.

pub alone_after : (overtake : ℕ) (r : Reuses) → NoneReuses r → (w w' : World) (e : Event) (result : Result (Option AskFault) WorldFault)
    → HappensTellingSo overtake r w e result w' → MakeRequestsAlone (e ∷ []) → HasRequestsAlone w.log → HasRequestsAlone w'.log
alone_after overtake r none w w' e (Ok told) h alone p = alone_after_step overtake w w' e alone (step_strictly overtake r none w e w' h.0) p
alone_after overtake r none w w' e (Err f) h alone p = subst (λ (u : World). HasRequestsAlone u.log) (sym h.1) p

pub strict_step_is : (overtake : ℕ) (r : Reuses) → NoneReuses r → (w w' : World) (e : Event) (result : Result (Option AskFault) WorldFault)
    → HappensTellingSo overtake r w e result w' → OnOk result (WorldStep overtake w e w')
strict_step_is overtake r none w w' e (Ok told) h = step_strictly overtake r none w e w' h.0
strict_step_is overtake r none w w' e (Err f) h = tt

-- where there is nothing of strangers either
pub asks_after : (w : WorldView) → HasNoReuse w → HasHistory w → (w' : World) (e : Event) (result : Result (Option AskFault) WorldFault)
    → HappensTellingSo w.overtake (reuses_of w) (as_world w) e result w' → HasAsksAlone w.log → MakeRequestsAlone (e ∷ []) → MakeNoStray (e ∷ [])
    → HasAsksAlone w'.log
asks_after w none history w' e (Ok told) h before alone calm =
    let parts = requests_of w.log before in
    let step : WorldStep w.overtake (as_world w) e w' = step_strictly w.overtake (reuses_of w) none (as_world w) e w' h.0 in
    asks_alone w'.log (alone_after_step w.overtake (as_world w) w' e alone step parts.0)
    (no_stranger_after w.overtake history.1.first (as_world w) w' history.1.fresh history.1.events history.1.run (e ∷ []) calm (w', step, refl) parts.1)
asks_after w none history w' e (Err f) h before alone calm = subst (λ (v : World). HasAsksAlone v.log) (sym h.1) before

module _ (window overtake : ℕ) (opening : List Store) (reuses : List Bool) (m n : Network) (links : n.journal.links ≡ m.journal.links)
    (k : IsKept window m.journal.links (view_of overtake opening reuses m)) where
  kept_more : (events : List Event) → WorldRunSo overtake (reuses_by reuses) k.history.first events (world_of n)
      → IsKept window n.journal.links (view_of overtake opening reuses n)
  kept_more events run = record {
    history = record {
      first = k.history.first;
      events = events;
      fresh = k.history.fresh;
      timely = k.history.timely;
      bounded = k.history.bounded;
      opening = k.history.opening;
      run = run;
    };
    linked = subst (AreLinks k.history.first.nodes) (sym links) k.linked;
  }

  pub kept_after : (t : Instant) (e : code.Event) (result : Result (Option AskFault) WorldFault)
      → HappensTellingSo overtake (reuses_by reuses) (world_of m) (event_view t e) result (world_of n)
      → IsKept window n.journal.links (view_of overtake opening reuses n)
  kept_after t e (Ok told) h = kept_more (k.history.events ++ event_view t e ∷ [])
      (run_more overtake (reuses_by reuses) k.history.events (event_view t e) k.history.first (world_of m) (world_of n) k.history.run h.0)
  kept_after t e (Err f) h = kept_more k.history.events (subst (WorldRunSo overtake (reuses_by reuses) k.history.first k.history.events) (sym h.1) k.history.run)

  -- where the world is the same
  pub kept_same : world_of n ≡ world_of m → IsKept window n.journal.links (view_of overtake opening reuses n)
  kept_same same = kept_more k.history.events (subst (WorldRunSo overtake (reuses_by reuses) k.history.first k.history.events) (sym same) k.history.run)
