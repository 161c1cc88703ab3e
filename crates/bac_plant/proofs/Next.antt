-- Whatever a call promises after a run can be the next step.
use Rattle.std.proofs.Common.{◌≡◌, ◌≤◌, ℕ, Bool, true, false, List, [], ◌∷◌, ◌++◌, ◌⊎◌, length, take, Option, Some, None, slice_get, slice_set}
use Rattle.std.proofs.Common.{refl, sym, ap, subst, inl, inr, ◌∙◌, arith}
use Rattle.std.proofs.lemmas.Option.{slice_get_within}
use Rattle.bac_apdu.specs.Apdu.{Limits}
use Rattle.bac_service.specs.Values.{Request}
use Rattle.bac_protocol.specs.Service.{Octets}
use Rattle.bac_transaction.specs.Meanings.{EndedView}
use Rattle.bac_transaction.specs.Sends.{Datagram, Pairwise}
use Rattle.bac_world.specs.Node.{Node, Outcome}
use Rattle.bac_world.specs.Once.{Fact}
use Rattle.bac_world.specs.Once.Fact.{Asked, AskedAway, Changed, Performed, Restarted, Served}
use Rattle.bac_world.specs.Services as service
use Rattle.bac_world.specs.ReusingLogs.{Reuses}
use Rattle.bac_world.specs.ReusingNodes.{NodeHears}
use Rattle.bac_world.specs.ReusingWorlds.{AreLoggedSo, WorldRunSo}
use Rattle.bac_world.specs.World.{AreCopied, AreEnded, AreLogged, Copy, IsCopied, IsOfNone, IsOutside, Note, World}
use Rattle.bac_world.specs.World.{ending_fact, is_away, link_at, peer_at, told, with_act, with_ask, with_clock, with_restart}
use Rattle.bac_journal.specs.Entering.{AreOfPeer, AreOfPeerSo, CanBeCopied, CanEnterSo, CanLeave, Every, IsNoted, IsOfClient, IsOfStranger}
use Rattle.bac_journal.proofs.GoingOn.{runs_can_go_on_long}
use Rattle.bac_journal.proofs.Lists.{get_set}
use Rattle.bac_transaction.specs.Views.{read_rule_view, rules_view, share_view}
use Rattle.bac_transaction.specs.declared.rules.Rules.{Rules}
use Rattle.bac_transaction.specs.declared.rules.ReadRule as rule
use Rattle.bac_transaction.specs.declared.rules.ReadRule.TheVariants as rule_case
use Rattle.bac_node.specs.Serving.{AreSetTo, reads_anew, reads_of}
use Rattle.bac_node.proofs.Rules.{hears_in_some}
use Rattle.bac_driver.specs.Asking.{IsBegun}
use Rattle.bac_driver.specs.BoundNodes.{BoundNode}
use Rattle.bac_driver.specs.Turns as turns
use Rattle.bac_driver.specs.Turns.{Turn, ended_of, performed_of, sends_of}
use Rattle.bac_plant.specs.Network.{HandsOver, IsOfStation, Source}
use Rattle.bac_plant.specs.Network.Source.{Noise, Nowhere, Station, Stranger}
use Rattle.bac_plant.specs.LongApdus.{IsReachedLong}
use Rattle.bac_plant.specs.Moves.{AfterStretches, IsReachedIn}
use Rattle.bac_plant.proofs.Anew.{goes_in}
use Rattle.bac_plant.proofs.LongApdus.{run_long}
use Rattle.bac_plant.proofs.TakingCalls.{CanGo, TakesCalls, takes_known}
use Rattle.bac_plant.specs.NextSteps.{AsksGoOn, ChangesGoOn, FailuresGoOn, HeldSendsGoOn, HeldTurnsGoOn, IsReached, LeadsTo, RestartsGoOn, StartsAgainGoOn, StartsGoOn, StrangersAskedGoOn, TurnsGoOn}
use Rattle.bac_plant.specs.Plants.{IsSetTo, Plant, RemembersInFull, nodes_of, settings_of, shows, world_of}
use Rattle.bac_plant.specs.Steps.{HappensAt, HoldsSomeTurn, IsSomeTurn, away_note, heard_lives, note_of, question, turn_lives, with_station}
use Rattle.bac_plant.specs.Steps.Step.{Begins, Holds, Takes}
use Rattle.bac_plant.specs.Events.{events_of, heard_events}
use Rattle.bac_plant.proofs.Runs.{run_by}
use Rattle.bac_plant.proofs.Settings.{run_settings}
use Rattle.bac_plant.proofs.Turned.{after_call, all_copied_on, copied_join, heard_run, hears_link, held_hears, may_arrive, node_at, set_links}
use Rattle.bac_plant.proofs.Turned.{setting_at, turn_hears}

-- What can enter does.

each_copy_of : (nodes : List Node) (notes : List Note) (now i : ℕ) (ds : List Datagram) → Every (CanBeCopied nodes notes now i) ds
    → (cs : List Copy) × Pairwise (IsCopied nodes now i) ds cs
each_copy_of nodes notes now i [] h = ([], tt)
each_copy_of nodes notes now i (d ∷ ds) h =
    let rest = each_copy_of nodes notes now i ds h.1 in
    (h.0.copy ∷ rest.0, (h.0.is, rest.1))

copies_of : (nodes : List Node) (notes : List Note) (now i : ℕ) (ds : List Datagram) → Every (CanLeave nodes notes now i) ds
    → (cs : List Copy) × AreCopied nodes now i ds cs
copies_of nodes notes now i [] h = ([], refl)
copies_of nodes notes now i (d ∷ ds) h = go h.0 (copies_of nodes notes now i ds h.1)
  where
    go : CanLeave nodes notes now i d → (cs : List Copy) × AreCopied nodes now i ds cs → (cs : List Copy) × AreCopied nodes now i (d ∷ ds) cs
    go (inl can) rest =
        (can.copy ∷ rest.0, inl (record { copy = can.copy; rest = rest.0; is = refl; copied = can.is; others = rest.1 }))
    go (inr stranger) rest = (rest.0, inr (stranger, rest.1))

ends_of : (w : World) (i : ℕ) (fs : List EndedView) (log : List Fact) → Every (IsNoted w i) fs → (next : List Fact) × AreEnded w.notes i fs log next
ends_of w i [] log h = (log, refl)
ends_of w i (f ∷ fs) log h =
    let rest = ends_of w i fs (ending_fact (is_away h.0.0 w.notes) h.0.0 f.how ∷ log) h.1 in
    (rest.0, (h.0.0, h.0.1, rest.1))

-- what its node, which is that one then, performed
logs_of : (w : World) (i : ℕ) (b : Node) (p : Option service.Performed) (log : List Fact) → AreOfPeer w i b p
    → (next : List Fact) × AreLogged w.nodes w.notes i b p log next
logs_of w i b None log h = (log, refl)
logs_of w i b (Some p) log h = go h
  where
    go : IsOfClient w i p ⊎ IsOfStranger w b p → (next : List Fact) × AreLogged w.nodes w.notes i b (Some p) log next
    go (inl k) =
        (Performed k.number p.request p.reply ∷ log, inl (record { client = k.client; number = k.number; link = k.link; noted = k.noted; log = refl }))
    go (inr k) = (
      Served p.key.peer i p.key.invoke_id k.entry.begin p.request p.reply ∷ log,
      inr (record { stranger = k.stranger; entry = k.entry; kept = k.kept; log = refl }),
    )

-- the same of a node of either setting
logs_so : (reuse : Bool) (w : World) (i : ℕ) (b : Node) (p : Option service.Performed) (log : List Fact) → AreOfPeerSo reuse w i b p
    → (next : List Fact) × AreLoggedSo reuse w.nodes w.notes i b p log next
logs_so false w i b p log h = logs_of w i b p log h
logs_so true w i b None log h = (log, refl)
logs_so true w i b (Some p) log h = go h
  where
    go : IsOfClient w i p ⊎ IsOfNone w.nodes p.key.peer.link → (next : List Fact) × AreLoggedSo true w.nodes w.notes i b (Some p) log next
    go (inl k) =
        (Performed k.number p.request p.reply ∷ log, inl (record { client = k.client; number = k.number; link = k.link; noted = k.noted; log = refl }))
    go (inr none) = (Served p.key.peer i p.key.invoke_id 0 p.request p.reply ∷ log, inr (record { stranger = none; begin = 0; log = refl }))

-- what a call returned, where it did not fail to allocate, can enter
abbrev MayEnter : (reuse : Bool) → World → ℕ → Node → Option Outcome → Type 0
MayEnter reuse w i b None = Unit {0}
MayEnter reuse w i b (Some o) = CanEnterSo reuse w i b o

may_send : (reuse : Bool) (w : World) (i : ℕ) (b : Node) (o : Option Outcome) → MayEnter reuse w i b o
    → (cs : List Copy) × AreCopied w.nodes w.time.now i (sends_of o) cs
may_send reuse w i b None h = ([], refl)
may_send reuse w i b (Some o) h = copies_of w.nodes w.notes w.time.now i o.sends h.sends

may_end : (reuse : Bool) (w : World) (i : ℕ) (b : Node) (o : Option Outcome) (log : List Fact) → MayEnter reuse w i b o
    → (next : List Fact) × AreEnded w.notes i (ended_of o) log next
may_end reuse w i b None log h = (log, refl)
may_end reuse w i b (Some o) log h = ends_of w i o.ended log h.ended

may_perform : (reuse : Bool) (w : World) (i : ℕ) (b : Node) (o : Option Outcome) (log : List Fact) → MayEnter reuse w i b o
    → (next : List Fact) × AreLoggedSo reuse w.nodes w.notes i b (performed_of o) log next
may_perform true w i b None log h = (log, refl)
may_perform false w i b None log h = (log, refl)
may_perform true w i b (Some o) log h = logs_so true w i b o.performed log h.performed
may_perform false w i b (Some o) log h = logs_so false w i b o.performed log h.performed

-- What a node hears, and what it does at a tick.

module _ (u : Reuses) (overtake : ℕ) (p : Plant) (on : TakesCalls u overtake (world_of p)) (i : ℕ) (a b : Node)
    (at : slice_get (nodes_of p.stations) i ≡ Some a) where
  copy_enters : (number : ℕ) (from octets : Octets) (o : Outcome) → IsOfStation overtake p i number from octets
      → NodeHears (u i) (shows p i) from octets a b o → CanEnterSo (u i) (world_of p) i b o
  copy_enters number from octets o c h = subst (λ k. CanEnterSo (u k) (world_of p) k b o) c.to
      (on.hears number c.copy c.there
      (may_arrive overtake p.time.pace.life p.time.now number p.copies c.copy c.young c.few) from c.sender a b o
      (subst (λ k. slice_get (nodes_of p.stations) k ≡ Some a) (sym c.to) at)
      (subst (λ k. NodeHears (u k) (shows p k) from c.copy.octets a b o) (sym c.to)
      (subst (λ os. NodeHears (u i) (shows p i) from os a b o) (sym c.whole) h)))

  outside_enters : (sender sent from octets : Octets) (o : Outcome) → from ≡ sender → octets ≡ sent → IsOutside (nodes_of p.stations) sender sent
      → NodeHears (u i) (shows p i) from octets a b o → CanEnterSo (u i) (world_of p) i b o
  outside_enters sender sent from octets o link_is whole outside h =
      on.outside i sender sent outside a b o at
      (subst (λ l. NodeHears (u i) (shows p i) l sent a b o) link_is (subst (λ os. NodeHears (u i) (shows p i) from os a b o) whole h))

  came_enters : (rules : Rules) → AreSetTo (u i) (rules_view rules) → (source : Source) (d : Octets × ℕ) (buffer : Octets) (heard : Option Outcome)
      → turns.HearsOne rules (shows p i) d.0 (take d.1 buffer) a b heard
      → HandsOver overtake p i source (Some d) buffer → MayEnter (u i) (world_of p) i b heard
  came_enters rules set source d buffer None h from = tt
  came_enters rules set Nowhere d buffer (Some o) h from = absurd from
  came_enters rules set (Station number) d buffer (Some o) h from =
      copy_enters number d.0 (take d.1 buffer) o from (hears_in_some (shows p i) a b o d.0 (take d.1 buffer) (u i) (rules_view rules) set h)
  came_enters rules set (Stranger sender octets) d buffer (Some o) h from =
      outside_enters sender octets d.0 (take d.1 buffer) o from.link_is from.whole (inl from.stranger)
      (hears_in_some (shows p i) a b o d.0 (take d.1 buffer) (u i) (rules_view rules) set h)
  came_enters rules set (Noise sender octets) d buffer (Some o) h from =
      outside_enters sender octets d.0 (take d.1 buffer) o from.link_is from.whole (inr from.meaningless)
      (hears_in_some (shows p i) a b o d.0 (take d.1 buffer) (u i) (rules_view rules) set h)

  heard_enters : (rules : Rules) → AreSetTo (u i) (rules_view rules) → (source : Source) (came : Option (Octets × ℕ)) (buffer : Octets) (heard : Option Outcome)
      → turns.Hears rules (shows p i) buffer came a b heard → HandsOver overtake p i source came buffer → MayEnter (u i) (world_of p) i b heard
  heard_enters rules set source (Some d) buffer heard h from = came_enters rules set source d buffer heard h from
  heard_enters rules set source None buffer None h from = tt
  heard_enters rules set source None buffer (Some o) h from = absurd (let e = h.0 in cc)

tick_enters : (u : Reuses) (overtake : ℕ) (w : World) → TakesCalls u overtake w → (i : ℕ) (a b : Node) → slice_get w.nodes i ≡ Some a → (ticked : Option Outcome)
    → turns.Ticks (told w i) a b ticked → MayEnter false w i b ticked
tick_enters u overtake w on i a b at None t = tt
tick_enters u overtake w on i a b at (Some o) t = on.ticks i a b o at t

-- Reached plants go on.

-- a run alone, where no station starts with other settings
reached_as : (W overtake : ℕ) (p : Plant) → (r : IsReached W overtake p) → IsReachedIn W overtake (settings_of r.first) r.first p
reached_as W overtake p r = record {
  fresh = r.fresh;
  timely = r.timely;
  bounded = r.bounded;
  led = record { among = λ i is. is; steps = r.steps; middle = p; run = r.run; stretches = []; permitted = tt; later = refl };
}

go_of : (W overtake : ℕ) (p : Plant) → IsReached W overtake p → CanGo overtake p
go_of W overtake p r = goes_in W overtake (settings_of r.first) r.first p (reached_as W overtake p r)

go_long : (W overtake : ℕ) (p : Plant) → IsReachedLong W overtake p → CanGo overtake p
go_long W overtake p r = record {
  u = settings_of r.first;
  now = λ i. run_settings overtake r.steps r.first p r.run i;
  on = λ es w few run. takes_known (settings_of r.first) W overtake w
      (runs_can_go_on_long (settings_of r.first) W overtake (world_of r.first) (world_of p) r.fresh r.timely r.long (events_of r.steps)
      (run_long r.steps r.asks) (run_by overtake (settings_of r.first) r.steps r.first p (λ j. refl) r.run) r.fits es w few run);
}

-- hearing is one event at most
few_heard : (i : ℕ) (source : Source) (heard : Option Outcome) → length (heard_events i source heard) ≤ 1
few_heard i Nowhere heard = omega arith
few_heard i (Station number) None = omega arith
few_heard i (Station number) (Some o) = omega arith
few_heard i (Stranger from octets) None = omega arith
few_heard i (Stranger from octets) (Some o) = omega arith
few_heard i (Noise from octets) None = omega arith
few_heard i (Noise from octets) (Some o) = omega arith

reads_viewed : (r : rule.ReadRule) → read_rule_view r ≡ reads_of (reads_anew (read_rule_view r))
reads_viewed rule_case.Kept = refl
reads_viewed rule_case.Fresh = refl

shares_viewed : (r : rule.ReadRule) (share : Bool) → reads_anew (read_rule_view r) ≡ false → share_view r share ≡ false
shares_viewed rule_case.Kept share off = refl
shares_viewed rule_case.Fresh share off = absurd cc

module _ (overtake : ℕ) (p : Plant) (r : CanGo overtake p) (i : ℕ) (before : BoundNode) (at : slice_get p.stations i ≡ Some before) where
  abbrev first_at : slice_get (nodes_of p.stations) i ≡ Some before.node
  first_at = node_at p.stations i before at

  -- the settings of all stations, and its own
  abbrev u : Reuses
  u = r.u

  set_as : RemembersInFull before → IsSetTo (u i) before
  set_as full = record {
    reads = reads_viewed before.rules.reads ∙ ap reads_of (sym (setting_at p i before at) ∙ r.now i);
    remembers = full;
    shares = λ off. shares_viewed before.rules.reads before.rules.share (sym (setting_at p i before at) ∙ r.now i ∙ off);
  }

  goes_on : TakesCalls u overtake (world_of p)
  goes_on = r.on [] (world_of p) (omega arith) refl

  stands : (after : BoundNode) → slice_get (slice_set p.stations i after) i ≡ Some after
  stands after = get_set p.stations i after (slice_get_within p.stations i before at)

  -- a turn, whose node is the middle one between hearing and the tick
  module _ (turn : Turn) (after : BoundNode) (middle : Node) (set : AreSetTo (u i) (rules_view before.rules)) (hears : turns.Hears before.rules (shows p i) after.buffer turn.received before.node middle turn.heard)
      (ticks : turns.Ticks (shows p i) middle after.node turn.ticked) (source : Source) (from : HandsOver overtake p i source turn.received after.buffer) where
    first : MayEnter (u i) (world_of p) i middle turn.heard
    first = heard_enters u overtake p goes_on i before.node middle first_at before.rules set source turn.received after.buffer turn.heard hears from

    abbrev sends : (cs : List Copy) × AreCopied (nodes_of p.stations) p.time.now i (sends_of turn.heard) cs
    sends = may_send (u i) (world_of p) i middle turn.heard first

    abbrev ends : (next : List Fact) × AreEnded p.notes i (ended_of turn.heard) p.log next
    ends = may_end (u i) (world_of p) i middle turn.heard p.log first

    abbrev performs : (next : List Fact) × AreLoggedSo (u i) (nodes_of p.stations) p.notes i middle (performed_of turn.heard) ends.0 next
    performs = may_perform (u i) (world_of p) i middle turn.heard ends.0 first

    abbrev Middle : World
    Middle = after_call (world_of p) i middle (heard_lives i source turn.heard p.lives) sends.0 performs.0

    went : WorldRunSo overtake u (world_of p) (heard_events i source turn.heard) Middle
    went = heard_run overtake u p i before.node middle first_at sends.0 ends.0 performs.0 before.rules set source turn.received after.buffer turn.heard hears from
        sends.1 ends.1 performs.1

    second_at : slice_get Middle.nodes i ≡ Some middle
    second_at = get_set (nodes_of p.stations) i middle (slice_get_within (nodes_of p.stations) i before.node first_at)

    second : MayEnter false Middle i after.node turn.ticked
    second = tick_enters u overtake Middle (r.on (heard_events i source turn.heard) Middle (few_heard i source turn.heard) went) i middle after.node second_at
        turn.ticked ticks

    linked : (j : ℕ) → link_at (nodes_of p.stations) j ≡ link_at Middle.nodes j
    linked j = sym (set_links (nodes_of p.stations) i before.node middle first_at
        (hears_link before.rules (shows p i) after.buffer turn.received before.node middle turn.heard hears) j)

    abbrev later_sends : (cs : List Copy) × AreCopied Middle.nodes p.time.now i (sends_of turn.ticked) cs
    later_sends = may_send false Middle i after.node turn.ticked second

    abbrev later_ends : (next : List Fact) × AreEnded p.notes i (ended_of turn.ticked) performs.0 next
    later_ends = may_end false Middle i after.node turn.ticked performs.0 second

    may_happen : (new : Plant) × HappensAt (u i) overtake p i source turn middle after new × (slice_get new.stations i ≡ Some after)
    may_happen = (
      record (with_station p i after) { lives = turn_lives i source turn p.lives; copies = p.copies ++ (sends.0 ++ later_sends.0); log = later_ends.0 },
      record {
        comes = from;
        sent = sends.0 ++ later_sends.0;
        copied = copied_join (nodes_of p.stations) p.time.now i (sends_of turn.heard) (sends_of turn.ticked) sends.0 later_sends.0 sends.1
            (all_copied_on Middle.nodes (nodes_of p.stations) linked p.time.now i (sends_of turn.ticked) later_sends.0 later_sends.1);
        log = later_ends.0;
        entered = record { ended = ends.0; performed = performs.0; ends = ends.1; performs = performs.1; gives_up = later_ends.1 };
        is = refl;
      },
      stands after,
    )

  turn_leads : RemembersInFull before → (turn : Turn) (after : BoundNode) → IsSomeTurn (shows p i) before turn after → (source : Source)
      → HandsOver overtake p i source turn.received after.buffer → LeadsTo overtake p (Takes i source turn) i after
  turn_leads full turn after t source from =
      let set : IsSetTo (u i) before = set_as full in
      let m = may_happen turn after t.is.acts.middle set (turn_hears before.rules (shows p i) before turn after t refl) t.is.acts.ticks source from in
      record {
        new = m.0;
        goes = record { before = before; at = at; after = after; takes = t; reuse = u i; set = set; happens = m.1 };
        there = m.2;
      }

  held_leads : RemembersInFull before → (turn : Turn) (after : BoundNode) → HoldsSomeTurn (shows p i) before turn after → (source : Source)
      → HandsOver overtake p i source turn.received after.buffer → LeadsTo overtake p (Holds i source turn) i after
  held_leads full turn after t source from =
      let set : IsSetTo (u i) before = set_as full in
      let m = may_happen turn after t.takes.middle set (held_hears before.rules (shows p i) before turn after t refl) t.takes.ticks source from in
      record {
        new = m.0;
        goes = record { before = before; at = at; after = after; holds = t; reuse = u i; set = set; happens = m.1 };
        there = m.2;
      }

  ask_leads : (server : ℕ) (link : Octets) → link_at (nodes_of p.stations) server ≡ Some link → (limits : Limits) (request : Request) (ticket : ℕ)
      (after : BoundNode) → IsBegun (shows p i) (question (peer_at link) limits request) before ticket after
      → LeadsTo overtake p (Begins i server limits request) i after
  ask_leads server link there limits request ticket after b =
      let can = goes_on.asks i server before.node after.node link limits request b.accepted b.sends first_at there b.asks in
      let sent = each_copy_of (nodes_of p.stations) (note_of i server b.accepted.invoke_id b.accepted.ticket ∷ p.notes) p.time.now i b.sends can in
      record {
        new = record (with_station p i after) {
          lives = with_ask p.time p.lives i;
          copies = p.copies ++ sent.0;
          log = Asked (length p.notes) i server request ∷ p.log;
          notes = note_of i server b.accepted.invoke_id ticket ∷ p.notes;
        };
        goes = record {
          before = before;
          at = at;
          link = link;
          peer = there;
          after = after;
          ticket = ticket;
          begun = b;
          sent = sent.0;
          copied = sent.1;
          is = refl;
        };
        there = stands after;
      }

pub turns_go_on : (W overtake : ℕ) (p : Plant) → IsReached W overtake p → TurnsGoOn overtake p
turns_go_on W overtake p r i before at full turn after t source from = turn_leads overtake p (go_of W overtake p r) i before at full turn after t source from

pub held_turns_go_on : (W overtake : ℕ) (p : Plant) → IsReached W overtake p → HeldTurnsGoOn overtake p
held_turns_go_on W overtake p r i before at full turn after t source from = held_leads overtake p (go_of W overtake p r) i before at full turn after t source from

pub held_sends_go_on : (overtake : ℕ) (p : Plant) → HeldSendsGoOn overtake p
held_sends_go_on overtake p i before at turns after sends = record {
  new = with_station p i after;
  goes = record { before = before; at = at; after = after; sends = sends; is = refl };
  there = get_set p.stations i after (slice_get_within p.stations i before at);
}

pub asks_go_on : (W overtake : ℕ) (p : Plant) → IsReached W overtake p → AsksGoOn overtake p
asks_go_on W overtake p r i server before at link there limits request ticket after b =
    ask_leads overtake p (go_of W overtake p r) i before at server link there limits request ticket after b

pub strangers_asked_go_on : (overtake : ℕ) (p : Plant) → StrangersAskedGoOn overtake p
strangers_asked_go_on overtake p i before at peer stranger limits request ticket after b = record {
  new = record (with_station p i after) {
    lives = with_act p.lives i;
    log = AskedAway (length p.notes) i peer request ∷ p.log;
    notes = away_note i peer b.accepted.invoke_id ticket ∷ p.notes;
  };
  goes = record { before = before; at = at; stranger = stranger; after = after; ticket = ticket; begun = b; is = refl };
  there = get_set p.stations i after (slice_get_within p.stations i before at);
}

pub failures_go_on : (overtake : ℕ) (p : Plant) → FailuresGoOn overtake p
failures_go_on overtake p i old new at failed = record {
  new = with_station p i new.bound_node;
  goes = record {
    before = old.bound_node;
    at = at;
    after = new.bound_node;
    node = failed.node;
    count = failed.count;
    calls = failed.calls;
    rules = failed.rules;
    is = refl;
  };
  there = get_set p.stations i new.bound_node (slice_get_within p.stations i old.bound_node at);
}

pub changes_go_on : (overtake : ℕ) (p : Plant) → ChangesGoOn overtake p
changes_go_on overtake p i before at c after made =
    record {
      new = record (with_station p i after) { log = Changed i c ∷ p.log };
      goes = record {
        before = before;
        at = at;
        may = made.may;
        is = ap (λ (b : BoundNode). record (with_station p i b) { log = Changed i c ∷ p.log }) made.is;
      };
      there = get_set p.stations i after (slice_get_within p.stations i before at);
    }

pub restarts_go_on : (overtake : ℕ) (p : Plant) → RestartsGoOn overtake p
restarts_go_on overtake p i before at exact store after is rules = record {
  new = record (with_station p i after) { time = with_clock p.time i exact; lives = with_restart p.time p.lives i; log = Restarted i store ∷ p.log };
  goes = record { before = before; at = at; after = after; node = is; rules = rules; is = refl };
  there = get_set p.stations i after (slice_get_within p.stations i before at);
}

pub starts_go_on : (overtake : ℕ) (p : Plant) → StartsGoOn overtake p
starts_go_on overtake p i before at first exact after is rules = record {
  new = record (with_station p i after) { time = with_clock p.time i exact };
  goes = record { before = before; at = at; first = first; after = after; node = is; rules = rules; is = refl };
  there = get_set p.stations i after (slice_get_within p.stations i before at);
}

pub starts_again_go_on : (overtake : ℕ) (p : Plant) → StartsAgainGoOn overtake p
starts_again_go_on overtake p i before at quiet exact first_id store after is rules = record {
  new = record (with_station p i after) { time = with_clock p.time i exact; lives = with_act p.lives i; log = Restarted i store ∷ p.log };
  goes = record { before = before; at = at; quiet = quiet; after = after; node = is; rules = rules; is = refl };
  there = get_set p.stations i after (slice_get_within p.stations i before at);
}

-- The same where all stations take APDUs of 480 octets or more.

pub turns_go_on_long : (W overtake : ℕ) (p : Plant) → IsReachedLong W overtake p → TurnsGoOn overtake p
turns_go_on_long W overtake p r i before at full turn after t source from =
    turn_leads overtake p (go_long W overtake p r) i before at full turn after t source from

pub held_turns_go_on_long : (W overtake : ℕ) (p : Plant) → IsReachedLong W overtake p → HeldTurnsGoOn overtake p
held_turns_go_on_long W overtake p r i before at full turn after t source from =
    held_leads overtake p (go_long W overtake p r) i before at full turn after t source from

pub asks_go_on_long : (W overtake : ℕ) (p : Plant) → IsReachedLong W overtake p → AsksGoOn overtake p
asks_go_on_long W overtake p r i server before at link there limits request ticket after b =
    ask_leads overtake p (go_long W overtake p r) i before at server link there limits request ticket after b

-- And after restarts with other settings.

pub turns_go_on_in : AfterStretches TurnsGoOn
turns_go_on_in W overtake ever first p r i before at full turn after t source from =
    turn_leads overtake p (goes_in W overtake ever first p r) i before at full turn after t source from

pub held_turns_go_on_in : AfterStretches HeldTurnsGoOn
held_turns_go_on_in W overtake ever first p r i before at full turn after t source from =
    held_leads overtake p (goes_in W overtake ever first p r) i before at full turn after t source from

pub asks_go_on_in : AfterStretches AsksGoOn
asks_go_on_in W overtake ever first p r i server before at link there limits request ticket after b =
    ask_leads overtake p (goes_in W overtake ever first p r) i before at server link there limits request ticket after b
