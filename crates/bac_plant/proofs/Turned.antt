-- A turn of a station is a run of its world.
use Rattle.std.proofs.Common.{◌≡◌, ℕ, zero, suc, Bool, true, false, List, [], ◌∷◌, ◌++◌, append_assoc, take, Option, Some, None, slice_get, slice_set}
use Rattle.std.proofs.Common.{nat_le, ◌&&◌, ◌≤◌, ◌-◌, refl, sym, ap, subst, inl, inr, ◌∙◌, arith}
use Rattle.std.proofs.lemmas.Bool.Decides.{nat_tests}
use Rattle.std.proofs.lemmas.List.{map-set}
use Rattle.std.proofs.lemmas.Option.{slice_get_within, slice_get-map}
use Rattle.std.specs.Option.{option_map}
use Rattle.bac_protocol.specs.Service.{Octets}
use Rattle.bac_protocol.specs.Wire.{is_from_client}
use Rattle.bac_transaction.specs.Sends.{Datagram}
use Rattle.bac_world.specs.Node.{Node, NodeOn, Outcome, IsHeardBy}
use Rattle.bac_world.specs.ReusingLogs.{Reuses}
use Rattle.bac_node.specs.Serving.{AreSetTo, IsHeardSoBy, NodeHearsBy, NodeServes, is_reusing, reads_anew, reads_of}
use Rattle.bac_transaction.specs.declared.rules.Rules.{Rules}
use Rattle.bac_node.proofs.Rules.{hears_in_some}
use Rattle.bac_transaction.specs.Views.{rules_view}
use Rattle.bac_apdu.specs.Apdu.{Apdu}
use Rattle.bac_npdu.specs.Peers.{PeerView}
use Rattle.bac_world.specs.ReusingWorlds.{ActsSo, AreLoggedSo, DeliversIfSo, DeliversSo, HearsSo, WorldRunSo}
use Rattle.bac_world.specs.Once.{Fact}
use Rattle.bac_world.specs.World.{AreCopied, AreEnded, Copy, Event, IsCopied, IsWithNode, Life, Note, World, with_act}
use Rattle.bac_world.specs.World.{is_deliverable, later, link_at, told}
use Rattle.bac_world.proofs.Bridge.{AreParted, copied_split}
use Rattle.bac_world.proofs.Pairs.{append_none}
use Rattle.bac_world.proofs.Steps.{acts_quiet}
use Rattle.bac_journal.proofs.Grown.{more_become}
use Rattle.bac_journal.proofs.Lists.{get_set, get_set_other}
use Rattle.bac_driver.specs.BoundNodes.{BoundNode}
use Rattle.bac_driver.specs.Turns as turns
use Rattle.bac_driver.specs.Turns.{ended_of, performed_of, sends_of}
use Rattle.bac_plant.specs.Plants.{IsSetTo, Plant, node_of, nodes_of, reuse_of, settings_of, shows, world_of}
use Rattle.bac_plant.specs.Network.{HandsOver, IsOfStation, Source}
use Rattle.bac_plant.specs.Network.Source.{Noise, Nowhere, Station, Stranger}
use Rattle.bac_plant.specs.Steps.{HappensAt, HoldsSomeTurn, HoldsTurnAt, IsSomeTurn, TakesTurnAt, heard_lives, ticked_lives, turn_lives}
use Rattle.bac_plant.specs.Events.{heard_events, ticked_events, turn_events}

-- what is there is one thing
pub one_there : {A : Type 0} (o : Option A) (x y : A) → o ≡ Some x → o ≡ Some y → x ≡ y
one_there o x y e f = let g : Some x ≡ Some y = sym e ∙ f in cc

-- Lists in which one member is set.

pub set_same : {A : Type 0} (xs : List A) (i : ℕ) (x : A) → slice_get xs i ≡ Some x → slice_set xs i x ≡ xs
set_same [] i x e = refl
set_same (y ∷ xs) zero x e = let same : y ≡ x = cc in ap (λ z. z ∷ xs) (sym same)
set_same (y ∷ xs) (suc i) x e = ap (λ l. y ∷ l) (set_same xs i x e)

pub set_twice : {A : Type 0} (xs : List A) (i : ℕ) (x y : A) → slice_set (slice_set xs i x) i y ≡ slice_set xs i y
set_twice [] i x y = refl
set_twice (z ∷ xs) zero x y = refl
set_twice (z ∷ xs) (suc i) x y = ap (λ l. z ∷ l) (set_twice xs i x y)

pub with_node : (xs : List Node) (i : ℕ) (a b : Node) → slice_get xs i ≡ Some a → IsWithNode xs i b (slice_set xs i b)
with_node xs i a b at = record { here = get_set xs i b (slice_get_within xs i a at); others = λ j ne. get_set_other xs i j b ne }

pub node_at : (xs : List BoundNode) (i : ℕ) (b : BoundNode) → slice_get xs i ≡ Some b → slice_get (nodes_of xs) i ≡ Some b.node
node_at xs i b at = slice_get-map node_of xs i ∙ ap (option_map node_of) at

pub nodes_set : (xs : List BoundNode) (i : ℕ) (b : BoundNode) → nodes_of (slice_set xs i b) ≡ slice_set (nodes_of xs) i b.node
nodes_set xs i b = map-set node_of xs i b

-- Links.

pub on_link : (now : ℕ) (from octets : Octets) (a b : Node) (o : Outcome) → NodeOn now from octets a b o → b.link ≡ a.link
on_link now from octets a b o (inl d) = ap (λ (n : Node). n.link) d.node
on_link now from octets a b o (inr d) = go (is_from_client d.apdu) d.heard
  where
    go : (up : Bool) → IsHeardBy up d.peer d.apdu now a b o → b.link ≡ a.link
    go true t = ap (λ (n : Node). n.link) t.node
    go false t = ap (λ (n : Node). n.link) t.node

node_link : (rules : Rules) (now : ℕ) (from octets : Octets) (a b : Node) (o : Outcome) → NodeHearsBy (rules_view rules) now from octets a b o → b.link ≡ a.link
node_link rules now from octets a b o h = go h.serves
  where
    by : (away : Bool) (up : Bool) (peer : PeerView) (apdu : Apdu) → IsHeardSoBy (rules_view rules) away up peer apdu now a b o → b.link ≡ a.link
    by away true peer apdu t = ap (λ (n : Node). n.link) t.turn.node
    by away false peer apdu t = ap (λ (n : Node). n.link) t.0.node

    go : NodeServes (rules_view rules) h.away now from octets a b o → b.link ≡ a.link
    go (inl d) = ap (λ (n : Node). n.link) d.0.node
    go (inr d) = by h.away (is_from_client d.apdu) d.peer d.apdu d.heard

pub hears_link : (rules : Rules) (now : ℕ) (buffer : Octets) (came : Option (Octets × ℕ)) (a b : Node) (heard : Option Outcome)
    → turns.Hears rules now buffer came a b heard → b.link ≡ a.link
hears_link rules now buffer None a b heard h = ap (λ (n : Node). n.link) h.1
hears_link rules now buffer (Some d) a b None h = ap (λ (n : Node). n.link) h.same
hears_link rules now buffer (Some d) a b (Some o) h = node_link rules now d.0 (take d.1 buffer) a b o h

-- a node with that link takes the place of another one
pub set_links : (xs : List Node) (i : ℕ) (a b : Node) → slice_get xs i ≡ Some a → b.link ≡ a.link → (j : ℕ) → link_at (slice_set xs i b) j ≡ link_at xs j
set_links [] i a b at same j = refl
set_links (x ∷ xs) zero a b at same zero = let is : x ≡ a = cc in ap Some same ∙ ap (λ (n : Node). Some n.link) (sym is)
set_links (x ∷ xs) zero a b at same (suc j) = refl
set_links (x ∷ xs) (suc i) a b at same zero = refl
set_links (x ∷ xs) (suc i) a b at same (suc j) = set_links xs i a b at same j

-- a copy is of a datagram by the links of the nodes alone
pub copied_on : (xs ys : List Node) → ((j : ℕ) → link_at ys j ≡ link_at xs j) → (now i : ℕ) (d : Datagram) (c : Copy) → IsCopied xs now i d c
    → IsCopied ys now i d c
copied_on xs ys same now i d c k = record {
  moment = k.moment;
  from = k.from;
  to = same c.to ∙ k.to;
  octets = k.octets;
  transaction = record {
    link = k.transaction.link;
    sender = same c.from ∙ k.transaction.sender;
    peer = k.transaction.peer;
    apdu = k.transaction.apdu;
    means = k.transaction.means;
    key = k.transaction.key;
  };
}

pub all_copied_on : (xs ys : List Node) → ((j : ℕ) → link_at ys j ≡ link_at xs j) → (now i : ℕ) (ds : List Datagram) (cs : List Copy)
    → AreCopied xs now i ds cs → AreCopied ys now i ds cs
all_copied_on xs ys same now i [] cs h = h
all_copied_on xs ys same now i (d ∷ ds) cs (inl h) = inl (record {
  copy = h.copy;
  rest = h.rest;
  is = h.is;
  copied = copied_on xs ys same now i d h.copy h.copied;
  others = all_copied_on xs ys same now i ds h.rest h.others;
})
all_copied_on xs ys same now i (d ∷ ds) cs (inr h) = inr (λ j at. h.0 j (sym (same j) ∙ at), all_copied_on xs ys same now i ds cs h.1)

-- the copies of two lists, one list after the other
pub copied_join : (nodes : List Node) (now i : ℕ) (ds es : List Datagram) (xs ys : List Copy) → AreCopied nodes now i ds xs → AreCopied nodes now i es ys
    → AreCopied nodes now i (ds ++ es) (xs ++ ys)
copied_join nodes now i ds es xs ys h k =
    let both = more_become nodes now i ds es [] xs (xs ++ ys) (record { sent = xs; copies = refl; copied = h })
    (record { sent = ys; copies = refl; copied = k }) in
    subst (AreCopied nodes now i (ds ++ es)) (sym both.copies) both.copied

-- Worlds after a call of one node.

abbrev pub after_call : World → ℕ → Node → (ℕ → Life) → List Copy → List Fact → World
after_call w i b lives cs log = record w { nodes = slice_set w.nodes i b; lives = lives; copies = w.copies ++ cs; log = log }

-- where nothing was performed, the log is as it was
none_logged : (reuse : Bool) (nodes : List Node) (notes : List Note) (i : ℕ) (b : Node) (old new : List Fact) → AreLoggedSo reuse nodes notes i b None old new
    → new ≡ old
none_logged true nodes notes i b old new is = is
none_logged false nodes notes i b old new is = is

-- nothing came of it
pub nothing_called : (w : World) (i : ℕ) (a b : Node) → slice_get w.nodes i ≡ Some a → b ≡ a → (cs : List Copy) → cs ≡ [] → (log : List Fact) → log ≡ w.log
    → after_call w i b w.lives cs log ≡ w
nothing_called w i a b at same cs none log is =
    ap (λ n. record w { nodes = n; copies = w.copies ++ cs; log = log }) (ap (slice_set w.nodes i) same ∙ set_same w.nodes i a at)
    ∙ ap (λ l. record w { copies = l; log = log }) (ap (λ l. w.copies ++ l) none ∙ append_none w.copies) ∙ ap (λ l. record w { log = l }) is

pub acted : (reuse : Bool) (w : World) (i : ℕ) (a b : Node) (o : Outcome) → slice_get w.nodes i ≡ Some a → (cs : List Copy)
    → AreCopied w.nodes w.time.now i o.sends cs
    → (between log : List Fact) → AreEnded w.notes i o.ended w.log between → AreLoggedSo reuse w.nodes w.notes i b o.performed between log
    → ActsSo reuse w i b o (after_call w i b (with_act w.lives i) cs log)
acted reuse w i a b o at cs copied between log ended logged = record {
  nodes = with_node w.nodes i a b at;
  time = refl;
  lives = refl;
  notes = refl;
  sent = cs;
  copies = refl;
  copied = copied;
  between = between;
  ended = ended;
  logged = logged;
}

pub may_arrive : (overtake life now number : ℕ) (copies : List Copy) (c : Copy) → now - c.moment ≤ life → later c.key number copies ≤ overtake
    → is_deliverable overtake life now number copies c ≡ true
may_arrive overtake life now number copies c young few = go (nat_le (now - c.moment) life) (nat_le (later c.key number copies) overtake) refl refl
  where
    go : (e f : Bool) → nat_le (now - c.moment) life ≡ e → nat_le (later c.key number copies) overtake ≡ f → (e && f) ≡ true
    go true true a b = refl
    go true false a b = absurd (grind (arith, nat_tests))
    go false f a b = absurd (grind (arith, nat_tests))

pub delivers_if : (b : Bool) (u : Reuses) (w : World) (c : Copy) (w' : World) → b ≡ true → DeliversSo u w c w' → DeliversIfSo b u w c w'
delivers_if true u w c w' e d = d
delivers_if false u w c w' e d = absurd cc

-- What a node hears.
module _ (overtake : ℕ) (u : Reuses) (p : Plant) (i : ℕ) (a b : Node) (at : slice_get (nodes_of p.stations) i ≡ Some a) (cs : List Copy)
    (between log : List Fact) where
  abbrev pub After : (ℕ → Life) → World
  After lives = after_call (world_of p) i b lives cs log

  -- after it heard something
  abbrev Acted : World
  Acted = After (with_act p.lives i)

  same_log : AreLoggedSo (u i) (nodes_of p.stations) p.notes i b None between log → log ≡ between
  same_log = none_logged (u i) (nodes_of p.stations) p.notes i b between log

  none_heard : b ≡ a → cs ≡ [] → between ≡ p.log → log ≡ between → After p.lives ≡ world_of p
  none_heard same none e f = nothing_called (world_of p) i a b at same cs none log (f ∙ e)

  world_hears : (rules : Rules) → AreSetTo (u i) (rules_view rules) → (from octets : Octets) (o : Outcome)
      → NodeHearsBy (rules_view rules) (shows p i) from octets a b o
      → AreCopied (nodes_of p.stations) p.time.now i o.sends cs → AreEnded p.notes i o.ended p.log between
      → AreLoggedSo (u i) (nodes_of p.stations) p.notes i b o.performed between log → HearsSo (u i) (world_of p) i from octets Acted
  world_hears rules set from octets o on copied ended logged = record {
    before = a;
    at = at;
    after = b;
    outcome = o;
    on = hears_in_some (shows p i) a b o from octets (u i) (rules_view rules) set on;
    acts = acted (u i) (world_of p) i a b o at cs copied between log ended logged;
  }

  arrives : (number : ℕ) (from octets : Octets) → IsOfStation overtake p i number from octets → HearsSo (u i) (world_of p) i from octets Acted
      → WorldRunSo overtake u (world_of p) (Event.Deliver number ∷ []) Acted
  arrives number from octets c h = (
    Acted,
    record {
      copy = c.copy;
      there = c.there;
      goes = delivers_if (is_deliverable overtake p.time.pace.life p.time.now number p.copies c.copy) u (world_of p) c.copy Acted
          (may_arrive overtake p.time.pace.life p.time.now number p.copies c.copy c.young c.few)
          (record {
            link = from;
            sender = c.sender;
            hears = subst (λ k. HearsSo (u k) (world_of p) k from c.copy.octets Acted) (sym c.to)
                (subst (λ os. HearsSo (u i) (world_of p) i from os Acted) (sym c.whole) h);
          });
    },
    refl,
  )

  -- it hears what was sent
  heard_as : (sender sent from octets : Octets) → from ≡ sender → octets ≡ sent → HearsSo (u i) (world_of p) i from octets Acted
      → HearsSo (u i) (world_of p) i sender sent Acted
  heard_as sender sent from octets link_is whole h =
      subst (λ l. HearsSo (u i) (world_of p) i l sent Acted) link_is (subst (λ os. HearsSo (u i) (world_of p) i from os Acted) whole h)

  came_run : (rules : Rules) → AreSetTo (u i) (rules_view rules) → (source : Source) (d : Octets × ℕ) (buffer : Octets) (heard : Option Outcome)
      → turns.HearsOne rules (shows p i) d.0 (take d.1 buffer) a b heard
      → HandsOver overtake p i source (Some d) buffer → AreCopied (nodes_of p.stations) p.time.now i (sends_of heard) cs
      → AreEnded p.notes i (ended_of heard) p.log between → AreLoggedSo (u i) (nodes_of p.stations) p.notes i b (performed_of heard) between log
      → WorldRunSo overtake u (world_of p) (heard_events i source heard) (After (heard_lives i source heard p.lives))
  came_run rules set Nowhere d buffer heard h from copied ended logged = absurd from
  came_run rules set (Station number) d buffer None h from copied ended logged = none_heard h.same copied ended (same_log logged)
  came_run rules set (Stranger sender octets) d buffer None h from copied ended logged = none_heard h.same copied ended (same_log logged)
  came_run rules set (Noise sender octets) d buffer None h from copied ended logged = none_heard h.same copied ended (same_log logged)
  came_run rules set (Station number) d buffer (Some o) h from copied ended logged =
      arrives number d.0 (take d.1 buffer) from (world_hears rules set d.0 (take d.1 buffer) o h copied ended logged)
  came_run rules set (Stranger sender octets) d buffer (Some o) h from copied ended logged = (
    Acted,
    inl (record {
      fit = from.stranger;
      hears = heard_as sender octets d.0 (take d.1 buffer) from.link_is from.whole (world_hears rules set d.0 (take d.1 buffer) o h copied ended logged);
    }),
    refl,
  )
  came_run rules set (Noise sender octets) d buffer (Some o) h from copied ended logged = (
    Acted,
    inl (record {
      fit = from.meaningless;
      hears = heard_as sender octets d.0 (take d.1 buffer) from.link_is from.whole (world_hears rules set d.0 (take d.1 buffer) o h copied ended logged);
    }),
    refl,
  )

  pub heard_run : (rules : Rules) → AreSetTo (u i) (rules_view rules) → (source : Source) (came : Option (Octets × ℕ)) (buffer : Octets) (heard : Option Outcome)
      → turns.Hears rules (shows p i) buffer came a b heard → HandsOver overtake p i source came buffer
      → AreCopied (nodes_of p.stations) p.time.now i (sends_of heard) cs
      → AreEnded p.notes i (ended_of heard) p.log between → AreLoggedSo (u i) (nodes_of p.stations) p.notes i b (performed_of heard) between log
      → WorldRunSo overtake u (world_of p) (heard_events i source heard) (After (heard_lives i source heard p.lives))
  heard_run rules set source (Some d) buffer heard h from copied ended logged = came_run rules set source d buffer heard h from copied ended logged
  heard_run rules set source None buffer None h from copied ended logged =
      subst (λ s. WorldRunSo overtake u (world_of p) (heard_events i s None) (After (heard_lives i s None p.lives))) (sym from)
      (none_heard h.1 copied ended (same_log logged))
  heard_run rules set source None buffer (Some o) h from copied ended logged = absurd (let e = h.0 in cc)

-- What it does at a tick.
pub tick_run : (overtake : ℕ) (u : Reuses) (w : World) (i : ℕ) (a b : Node) → slice_get w.nodes i ≡ Some a → (ticked : Option Outcome)
    → turns.Ticks (told w i) a b ticked
    → (cs : List Copy) → AreCopied w.nodes w.time.now i (sends_of ticked) cs → (log : List Fact) → AreEnded w.notes i (ended_of ticked) w.log log
    → WorldRunSo overtake u w (ticked_events i ticked) (after_call w i b (ticked_lives i ticked w.lives) cs log)
tick_run overtake u w i a b at None t cs copied log ended = nothing_called w i a b at t.same cs copied log ended
tick_run overtake u w i a b at (Some o) t cs copied log ended = (
  after_call w i b (with_act w.lives i) cs log,
  record {
    before = a;
    at = at;
    after = b;
    outcome = o;
    tick = t;
    acts = acts_quiet false w (after_call w i b (with_act w.lives i) cs log) i b o t.performed
        (acted false w i a b o at cs copied log log ended (subst (λ f. AreLoggedSo false w.nodes w.notes i b f log log) (sym t.performed) refl));
  },
  refl,
)

-- Runs.

pub run_join : (overtake : ℕ) (u : Reuses) (es fs : List Event) (w v y : World) → WorldRunSo overtake u w es v → WorldRunSo overtake u v fs y
    → WorldRunSo overtake u w (es ++ fs) y
run_join overtake u [] fs w v y h k = subst (λ (z : World). WorldRunSo overtake u z fs y) h k
run_join overtake u (e ∷ es) fs w v y h k = (h.0, h.1, run_join overtake u es fs h.0 v y h.2 k)

-- The turn.

-- what its node hears, by the buffer that the turn leaves
hears_by : (rules : Rules) (now : ℕ) (first received after : BoundNode) (turn : turns.Turn) (middle : Node) → received.node ≡ first.node
    → after.buffer ≡ received.buffer → received.rules ≡ rules → turns.Hears received.rules now received.buffer turn.received received.node middle turn.heard
    → turns.Hears rules now after.buffer turn.received first.node middle turn.heard
hears_by rules now first received after turn middle node buffer same hears =
    subst (λ n. turns.Hears rules now after.buffer turn.received n middle turn.heard) node
    (subst (λ l. turns.Hears rules now l turn.received received.node middle turn.heard) (sym buffer)
    (subst (λ (r : Rules). turns.Hears r now received.buffer turn.received received.node middle turn.heard) same hears))

pub turn_hears : (rules : Rules) (now : ℕ) (before : BoundNode) (turn : turns.Turn) (after : BoundNode) (t : IsSomeTurn now before turn after)
    → before.rules ≡ rules → turns.Hears rules now after.buffer turn.received before.node t.is.acts.middle turn.heard
turn_hears rules now before turn after t same =
    hears_by rules now before t.is.middle after turn t.is.acts.middle t.is.receives.node t.is.acts.buffer (t.is.receives.rules ∙ same) t.is.acts.hears

pub held_hears : (rules : Rules) (now : ℕ) (before : BoundNode) (turn : turns.Turn) (after : BoundNode) (t : HoldsSomeTurn now before turn after)
    → before.rules ≡ rules → turns.Hears rules now after.buffer turn.received before.node t.takes.middle turn.heard
held_hears rules now before turn after t same =
    hears_by rules now before t.middle after turn t.takes.middle t.receives.node t.takes.buffer (t.receives.rules ∙ same) t.takes.hears

same_setting : (reuse : Bool) → reads_anew (reads_of reuse) ≡ reuse
same_setting true = refl
same_setting false = refl

-- the setting of a station that is there
pub setting_at : (p : Plant) (i : ℕ) (b : BoundNode) → slice_get p.stations i ≡ Some b → settings_of p i ≡ is_reusing (rules_view b.rules)
setting_at p i b at = ap reuse_of at

module _ (overtake : ℕ) (u : Reuses) (old : Plant) (i : ℕ) (before : BoundNode) (at : slice_get old.stations i ≡ Some before) (source : Source)
    (turn : turns.Turn) (middle : Node) (after : BoundNode) (rules : Rules) (set : AreSetTo (u i) (rules_view rules)) (hears : turns.Hears rules (shows old i) after.buffer turn.received before.node middle turn.heard)
    (ticks : turns.Ticks (shows old i) middle after.node turn.ticked) (new : Plant) (t : HappensAt (u i) overtake old i source turn middle after new) where
  first_at : slice_get (nodes_of old.stations) i ≡ Some before.node
  first_at = node_at old.stations i before at

  abbrev split : AreParted (nodes_of old.stations) old.time.now i (sends_of turn.heard) (sends_of turn.ticked) t.sent
  split = copied_split (nodes_of old.stations) old.time.now i (sends_of turn.heard) (sends_of turn.ticked) t.sent t.copied

  abbrev Middle : World
  Middle = after_call (world_of old) i middle (heard_lives i source turn.heard old.lives) split.front t.entered.performed

  second_at : slice_get Middle.nodes i ≡ Some middle
  second_at = get_set (nodes_of old.stations) i middle (slice_get_within (nodes_of old.stations) i before.node first_at)

  linked : (j : ℕ) → link_at Middle.nodes j ≡ link_at (nodes_of old.stations) j
  linked = set_links (nodes_of old.stations) i before.node middle first_at
      (hears_link rules (shows old i) after.buffer turn.received before.node middle turn.heard hears)

  last : after_call Middle i after.node (turn_lives i source turn old.lives) split.rest t.log ≡ world_of new
  last =
      ap (λ n. record Middle { nodes = n; lives = turn_lives i source turn old.lives; copies = Middle.copies ++ split.rest; log = t.log })
      (set_twice (nodes_of old.stations) i middle after.node ∙ sym (nodes_set old.stations i after))
      ∙ ap (λ l. record Middle { nodes = nodes_of (slice_set old.stations i after); lives = turn_lives i source turn old.lives; copies = l; log = t.log })
      (append_assoc old.copies split.front split.rest ∙ ap (λ l. old.copies ++ l) (sym split.is)) ∙ sym (ap world_of t.is)

  happens_run : WorldRunSo overtake u (world_of old) (turn_events i source turn) (world_of new)
  happens_run = run_join overtake u (heard_events i source turn.heard) (ticked_events i turn.ticked) (world_of old) Middle (world_of new)
      (heard_run overtake u old i before.node middle first_at split.front t.entered.ended t.entered.performed rules set source turn.received after.buffer
      turn.heard hears t.comes split.first t.entered.ends t.entered.performs)
      (subst (WorldRunSo overtake u Middle (ticked_events i turn.ticked)) last
      (tick_run overtake u Middle i middle after.node second_at turn.ticked ticks split.rest
      (all_copied_on (nodes_of old.stations) Middle.nodes linked old.time.now i (sends_of turn.ticked) split.rest split.second)
      t.log t.entered.gives_up))

module _ (overtake : ℕ) (u : Reuses) (old : Plant) (settings : (i : ℕ) → settings_of old i ≡ u i) (i : ℕ) (source : Source) (turn : turns.Turn)
    (new : Plant) where
  setting_is : (b : BoundNode) → slice_get old.stations i ≡ Some b → (reuse : Bool) → IsSetTo reuse b → reuse ≡ u i
  setting_is b at reuse set = sym (same_setting reuse) ∙ ap reads_anew (sym set.reads) ∙ sym (setting_at old i b at) ∙ settings i

  set_so : (b : BoundNode) (reuse : Bool) → IsSetTo reuse b → reuse ≡ u i → AreSetTo (u i) (rules_view b.rules)
  set_so b reuse set same = subst (λ (r : Bool). AreSetTo r (rules_view b.rules)) same set

  pub turn_run : TakesTurnAt overtake old i source turn new → WorldRunSo overtake u (world_of old) (turn_events i source turn) (world_of new)
  turn_run t =
      let same : t.reuse ≡ u i = setting_is t.before t.at t.reuse t.set in
      happens_run overtake u old i t.before t.at source turn t.takes.is.acts.middle t.after t.before.rules (set_so t.before t.reuse t.set same)
      (turn_hears t.before.rules (shows old i) t.before turn t.after t.takes refl)
      t.takes.is.acts.ticks new (subst (λ (r : Bool). HappensAt r overtake old i source turn t.takes.is.acts.middle t.after new) same t.happens)

  -- that what it sends is held makes no difference to its world
  pub held_run : HoldsTurnAt overtake old i source turn new → WorldRunSo overtake u (world_of old) (turn_events i source turn) (world_of new)
  held_run t =
      let same : t.reuse ≡ u i = setting_is t.before t.at t.reuse t.set in
      happens_run overtake u old i t.before t.at source turn t.holds.takes.middle t.after t.before.rules (set_so t.before t.reuse t.set same)
      (held_hears t.before.rules (shows old i) t.before turn t.after t.holds refl)
      t.holds.takes.ticks new (subst (λ (r : Bool). HappensAt r overtake old i source turn t.holds.takes.middle t.after new) same t.happens)
