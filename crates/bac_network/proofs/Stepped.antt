-- What a step of a network makes of its world.
use Rattle.std.proofs.Common.{◌≡◌, ℕ, Bool, List, [], ◌∷◌, IfOk, OnErr, OnOk, Option, Result}
use Rattle.bac_requester.specs.declared.ask_fault.AskFault.{AskFault}
use Rattle.bac_store.specs.Stores.{Store}
use Rattle.bac_world.specs.World.{Event}
use Rattle.bac_network.specs.AsksAlone.{HasAsksAloneNow}
use Rattle.bac_network.specs.Clocks.{instant}
use Rattle.bac_network.specs.Histories.{HasNoReuse, IsKept, WorldView, view_of}
use Rattle.bac_network.specs.Laws.{HasRightLog, IsStrict}
use Rattle.bac_network.specs.Networks.{SameLives, SameTime, world_of}
use Rattle.bac_network.specs.Rules.{reuses_by}
use Rattle.bac_network.specs.Runs.{StepsStrictly, StepsTo, TellsIn, TellsWhyNot}
use Rattle.bac_network.specs.Steps.{HappensTellingSo}
use Rattle.bac_network.specs.Views.{event_view}
use Rattle.bac_network.specs.declared.event.Event as code
use Rattle.bac_network.specs.declared.fault.WorldFault.{WorldFault}
use Rattle.bac_network.specs.declared.network.Network.{Network}
use Rattle.bac_network.proofs.Happening.{by_rules, change_exactly, clock_exactly, copy_exactly, link_exactly, memory_only, node_exactly, same_seen}
use Rattle.bac_network.proofs.Happening.{soon_exactly, step_is, told_is}
use Rattle.bac_network.proofs.Histories.{alone_after, asks_after, kept_after, strict_step_is}
use Rattle.bac_network.proofs.Laws.{right_log, strict}
use Rattle.bac_network.proofs.Strictly.{history_strictly}

-- with the rules that its nodes were given, which are those of the world
module _ (window overtake : ℕ) (opening : List Store) (reuses : List Bool) (m n : Network) (links : n.journal.links ≡ m.journal.links)
    (k : IsKept window m.journal.links (view_of overtake opening reuses m)) (given : List Bool) (same : given ≡ reuses) (e : code.Event)
    (r : Result (Option AskFault) WorldFault)
    (h : HappensTellingSo overtake (reuses_by given) (world_of m) (event_view (instant m.journal) e) r (world_of n)) where
  abbrev old : WorldView
  old = view_of overtake opening reuses m

  abbrev new : WorldView
  new = view_of overtake opening reuses n

  abbrev event : Event
  event = event_view (instant m.journal) e

  so : HappensTellingSo overtake (reuses_by reuses) (world_of m) event r (world_of n)
  so = by_rules overtake given reuses (world_of m) (world_of n) event r same h

  pub still_kept : IsKept window n.journal.links new
  still_kept = kept_after window overtake opening reuses m n links k (instant m.journal) e r so

  pub right_after : HasRightLog new
  right_after = right_log window new still_kept.history

  pub went : OnOk r (StepsTo old e new)
  went = step_is overtake (reuses_by reuses) (world_of m) (world_of n) event r so

  pub told : IfOk r (λ t. TellsIn t old e new)
  told = told_is overtake (reuses_by reuses) (world_of m) (world_of n) event r so

  pub why_not : TellsWhyNot r old e
  why_not = record {
    node = node_exactly overtake (reuses_by reuses) (world_of m) (world_of n) event r so;
    datagram = copy_exactly overtake (reuses_by reuses) (world_of m) (world_of n) event r so;
    link = link_exactly overtake (reuses_by reuses) (world_of m) (world_of n) event r so;
    clock = clock_exactly overtake (reuses_by reuses) (world_of m) (world_of n) event r so;
    soon = soon_exactly overtake (reuses_by reuses) (world_of m) (world_of n) event r so;
    change = change_exactly overtake (reuses_by reuses) (world_of m) (world_of n) event r so;
    memory = memory_only overtake (reuses_by reuses) (world_of m) (world_of n) event r so;
  }

  pub same_after : OnErr r (SameTime m n) → OnErr r (SameLives m n) → OnErr r (new ≡ old)
  same_after stays lived =
      same_seen overtake (reuses_by reuses) (world_of m) (world_of n) event r so (instant n.journal) (instant m.journal) stays n.journal.lives m.journal.lives
      lived overtake opening reuses

  pub strictly : HasNoReuse old → StepsStrictly r old e new
  strictly none =
      let after : IsStrict new = strict window new none still_kept.history in
      record {
        went = strict_step_is overtake (reuses_by reuses) none (world_of m) (world_of n) event r so;
        log = after.log;
        requests_alone = λ before alone.
            after.requests_alone (alone_after overtake (reuses_by reuses) none (world_of m) (world_of n) event r so alone before);
        asks_alone = λ before alone calm.
            (let asks : HasAsksAloneNow new =
            asks_after old none (window, history_strictly window old none k.history) (world_of n) event r so before alone calm in
            (asks, after.asks_alone asks));
      }
