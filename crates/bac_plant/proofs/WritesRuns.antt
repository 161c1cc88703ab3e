-- Runs of a world after a write was performed.
use Rattle.std.proofs.Common.{◌≡◌, ℕ, ◌+◌, ◌≤◌, Bool, true, false, List, [], ◌∷◌, ◌⊎◌, Option, Some, None, slice_get, nat_eq, if◌then◌else◌, refl, sym, ap, subst, inl, inr, ◌∙◌, arith}
use Rattle.std.proofs.lemmas.Bool.Decides.{nat_tests}
use Rattle.bac_apdu.specs.Apdu.{Apdu, Limits, Segment}
use Rattle.bac_apdu.specs.Apdu.Apdu.{ConfirmedRequest}
use Rattle.bac_apdu.specs.Spelling.{SpellsApdu}
use Rattle.bac_apdu.proofs.Apdus.{apdu_one}
use Rattle.bac_npdu.specs.Peers.{PeerView}
use Rattle.bac_npdu.proofs.Datagrams.{means_one}
use Rattle.bac_service.specs.Services.{reads_reply}
use Rattle.bac_protocol.specs.declared.times.TheConstants.{KEEP}
use Rattle.bac_protocol.specs.Claims.{IsBounded as IsBoundedNet}
use Rattle.bac_protocol.specs.Pace.{IsTimely}
use Rattle.bac_protocol.specs.Server.{Effect, Reaction, ServerTransaction}
use Rattle.bac_protocol.specs.Service.{Octets}
use Rattle.bac_protocol.specs.Transaction.{Rules}
use Rattle.bac_protocol.specs.Wire.{is_from_client}
use Rattle.bac_protocol.specs.World.{Net, net_start}
use Rattle.bac_slots.specs.Slots.{IsDistinct, value_at}
use Rattle.bac_transaction.specs.Ends.{act_at, context_of}
use Rattle.bac_transaction.specs.Keys.{PeerKey, same_key}
use Rattle.bac_transaction.specs.Reuse.{is_read}
use Rattle.bac_transaction.specs.Services.{service_of}
use Rattle.bac_world.specs.Node.{IsDropped, Node, Outcome}
use Rattle.bac_world.specs.Once.{Fact, Stores}
use Rattle.bac_world.specs.ReusingLogs.{IsOnceSo, Reuses}
use Rattle.bac_world.specs.ReusingWorlds.{WorldRunSo, WorldStepSo}
use Rattle.bac_world.specs.Services.{ArePerformed, Performed as performed}
use Rattle.bac_world.specs.World.{Event, IsBounded, IsFresh, Life, RunsOn, World, link_at, stores_of, told}
use Rattle.bac_world.specs.World.Event.{Advance, Ask, AskAway, Begin, BeginAgain, Change, Deliver, Noise, Restart, Stray, Tick}
use Rattle.bac_world.proofs.Headline.{fresh_over, rules_bounded, rules_of, run_over_so}
use Rattle.bac_world.proofs.Heard.{IsHeardIn, IsHeardInBy, heard_in}
use Rattle.bac_world.proofs.Settings.{always, free_for}
use Rattle.bac_world.proofs.Steps.{Over}
use Rattle.bac_plant.specs.Writes.{AddsNothingFor, HearsNoOther, KeepsWrite, KeptOctets, PerformsWrite, WritesActOnce, kept_by}
use Rattle.bac_plant.proofs.WritesGathering.{NoneWholeIn}
use Rattle.bac_plant.proofs.WritesKept.{heard, performs_there}
use Rattle.bac_plant.proofs.WritesLogs.{adds_none, adds_then}
use Rattle.bac_plant.proofs.WritesMachine.{IsBegunBy, Performs, hears_performs}
use Rattle.bac_plant.proofs.WritesSteps.{KeptAt, step_active, step_later, step_went}
use Rattle.bac_plant.proofs.WritesTables.{NoneWhole, fresh_none_whole, none_whole_at, run_none_whole}

first_on : (i : ℕ) (e : Event) (es : List Event) → RunsOn i (e ∷ es) → RunsOn i (e ∷ []) × RunsOn i es
first_on i (Ask client server limits r) es h = (tt, h)
first_on i (AskAway client peer limits r) es h = (tt, h)
first_on i (Deliver number) es h = (tt, h)
first_on i (Noise node from octets) es h = (tt, h)
first_on i (Stray node from octets) es h = (tt, h)
first_on i (Tick node) es h = (tt, h)
first_on i (Advance by own) es h = (tt, h)
first_on i (Change node c) es h = (tt, h)
first_on i (Restart node exact store) es h = ((h.0, tt), h.1)
first_on i (Begin node exact) es h = (tt, h)
first_on i (BeginAgain node exact first_id store) es h = ((h.0, tt), h.1)

first_no : (node : ℕ) (key : PeerKey) (choice : ℕ) (request : KeptOctets) (e : Event) (es : List Event) → HearsNoOther node key choice request (e ∷ es)
    → HearsNoOther node key choice request (e ∷ []) × HearsNoOther node key choice request es
first_no node key choice request (Ask client server limits r) es h = (tt, h)
first_no node key choice request (AskAway client peer limits r) es h = (tt, h)
first_no node key choice request (Deliver number) es h = (tt, h)
first_no node key choice request (Noise i from octets) es h = (tt, h)
first_no node key choice request (Stray i from octets) es h = ((h.0, tt), h.1)
first_no node key choice request (Tick i) es h = (tt, h)
first_no node key choice request (Advance by own) es h = (tt, h)
first_no node key choice request (Change i c) es h = (tt, h)
first_no node key choice request (Restart i exact store) es h = (tt, h)
first_no node key choice request (Begin i exact) es h = (tt, h)
first_no node key choice request (BeginAgain i exact first_id store) es h = (tt, h)

module _ (links : ℕ → Option Octets) (apart : (i j : ℕ) (l : Octets) → links i ≡ Some l → links j ≡ Some l → i ≡ j) (W : ℕ) (x : Rules)
    (bound : IsBoundedNet W x) (readable : x.readable ≡ reads_reply) (u : Reuses) (opening : Stores) where
  -- a world that a run leads to
  record Reached (v : World) : Type 0 where
    net : Net
    over : Over links apart W x (Some (always u)) v net
    once : IsOnceSo u opening v.log (stores_of v.nodes)

  reaches : (es : List Event) (v v' : World) → Reached v → WorldRunSo x.overtake u v es v' → Reached v'
  reaches es v v' r run =
      let m = run_over_so links apart W x (Some (always u)) bound readable opening es v v' r.net r.over r.once run in
      record { net = m.0; over = m.1; once = m.2 }

  one_event : (e : Event) (v v' : World) → Reached v → WorldStepSo x.overtake u v e v' → Reached v'
  one_event e v v' r s = reaches (e ∷ []) v v' r (v', s, refl)

  module _ (begin choice : ℕ) (request : KeptOctets) (key : PeerKey) (node : ℕ) (stranger : (i : ℕ) → links i ≡ Some key.peer.link → ⊥) where
    run_later : (es : List Event) (v last : World) → Reached v → (v.lives node).active ≡ true → WorldRunSo x.overtake u v es last → RunsOn node es → told v node ≤ told last node
    run_later [] v last r active run on = subst (λ (y : World). told v node ≤ told y node) (sym run) (omega arith)
    run_later (e ∷ es) v last r active run on =
        let parts = first_on node e es on in
        let first : told v node ≤ told run.0 node =
        step_later begin choice request key links apart W x bound u v r.net r.over node e run.0 active parts.0 run.1 in
        let rest : told run.0 node ≤ told last node = run_later es run.0 last (one_event e v run.0 r run.1)
        (step_active x.overtake u v run.0 node active e run.1) run.2 parts.1 in
        omega arith

    run_adds : (es : List Event) (v last : World) → Reached v → (v.lives node).active ≡ true → KeptAt begin choice request key v.nodes node → WorldRunSo x.overtake u v es last
        → RunsOn node es → HearsNoOther node key choice request es → told last node ≤ begin + KEEP → AddsNothingFor node key v.log last.log
    run_adds [] v last r active kept run on none young = adds_none node key v.log last.log (ap (λ (y : World). y.log) run)
    run_adds (e ∷ es) v last r active kept run on none young =
        let now_on = first_on node e es on in
        let now_none = first_no node key choice request e es none in
        let later : told v node ≤ told last node = run_later (e ∷ es) v last r active run on in
        let went = step_went begin choice request key links apart W x bound u v r.net r.over node (omega arith) kept run.0 e
        (λ j at. stranger j (sym (r.over.linked j) ∙ at)) now_on.0 now_none.0 run.1 in
        adds_then node key v.log run.0.log last.log went.adds
        (run_adds es run.0 last (one_event e v run.0 r run.1) (step_active x.overtake u v run.0 node active e run.1) went.kept run.2 now_on.1 now_none.1 young)

-- The write.

module _ (reuse : Bool) (now : ℕ) (key : PeerKey) (link datagram : Octets) (limits : Limits) (segment : Option Segment) (choice : ℕ) (octets : Octets)
    (a b : Node) (o : Outcome) (d : performed) (done : o.performed ≡ Some d) (distinct : IsDistinct same_key a.servers.slots)
    (write : is_read choice ≡ false) (none_whole : NoneWholeIn (value_at same_key key a.servers.slots)) where
  abbrev apdu : Apdu
  apdu = ConfirmedRequest limits key.invoke_id segment choice octets

  abbrev free : (allowed : Bool) → Bool
  free allowed = free_for allowed reuse now key apdu a.servers

  effect_there : (e : Option Effect) → ArePerformed a.store (act_at key e) o.performed → (x : Effect) × (e ≡ Some x)
  effect_there None are = absurd (subst (λ p. ArePerformed a.store None p) done are)
  effect_there (Some x) are = (x, refl)

  -- the entry that is kept
  record Keeps : Type 0 where
    reaction : Reaction
    performs : Performs now segment choice octets reaction
    there : value_at same_key key b.servers.slots ≡ Some performs.entry

  turn_keeps : IsHeardInBy reuse true key.peer apdu now a b o → Keeps
  turn_keeps turn =
      let x = effect_there (heard now reuse a.settings (service_of a.store) key apdu a.servers.slots distinct (free turn.0)).effect turn.1.performed in
      let p = hears_performs (context_of a.settings now key) (service_of a.store) (free turn.0) limits key.invoke_id choice octets reuse write segment
      (value_at same_key key a.servers.slots) none_whole x.0 x.1 in
      record {
        reaction = heard now reuse a.settings (service_of a.store) key apdu a.servers.slots distinct (free turn.0);
        performs = p;
        there = ap (λ (n : Node). value_at same_key key n.servers.slots) turn.1.node
            ∙ performs_there now reuse a.settings (service_of a.store) key apdu a.servers.slots distinct (free turn.0) segment choice octets p;
      }

  heard_keeps : (up : Bool) (peer : PeerView) (p : Apdu) → peer ≡ key.peer → p ≡ apdu → is_from_client p ≡ up → IsHeardInBy reuse up peer p now a b o → Keeps
  heard_keeps true peer p peer_is p_is up h =
      turn_keeps (subst (λ (q : PeerView). IsHeardInBy reuse true q apdu now a b o) peer_is (subst (λ (y : Apdu). IsHeardInBy reuse true peer y now a b o) p_is h))
  heard_keeps false peer p peer_is p_is up h = absurd (let no : false ≡ true = sym up ∙ ap is_from_client p_is in cc)

begun_whole : (now : ℕ) (segment : Option Segment) (choice : ℕ) (octets : Octets) (e : ServerTransaction) → IsBegunBy now segment choice octets e
    → segment ≡ None → (e.begin ≡ now) × (e.choice ≡ choice) × (e.request ≡ Some octets)
begun_whole now None choice octets e h is = h
begun_whole now (Some g) choice octets e h is = absurd cc

module _ (W overtake : ℕ) (u : Reuses) (first old new : World) (fresh : IsFresh first) (timely : IsTimely first.time.pace)
    (bounded : IsBounded W overtake first) (events : List Event) (run : WorldRunSo overtake u first events old) (node : ℕ) (key : PeerKey)
    (segment : Option Segment) (choice : ℕ) (octets : Octets) (p : PerformsWrite u old node key segment choice octets new) where
  abbrev At : World → Type 0
  At v = Reached (link_at first.nodes) fresh.apart W (rules_of overtake first) (rules_bounded W overtake first bounded) refl u (stores_of first.nodes) v

  started : At first
  started = record {
    net = net_start first.time.pace (λ i. (first.time.clocks i).exact);
    over = fresh_over (Some (always u)) W overtake first fresh timely bounded;
    once = subst (λ (l : List Fact). IsOnceSo u (stores_of first.nodes) l (stores_of first.nodes)) (sym fresh.log) (λ i. refl);
  }

  before : At old
  before = reaches (link_at first.nodes) fresh.apart W (rules_of overtake first) (rules_bounded W overtake first bounded) refl u (stores_of first.nodes)
      events first old started run

  after : At new
  after = one_event (link_at first.nodes) fresh.apart W (rules_of overtake first) (rules_bounded W overtake first bounded) refl u (stores_of first.nodes)
      (Stray node p.link p.datagram) old new before (inl (record { fit = p.stranger; hears = p.hears }))

  none_whole : NoneWhole old.nodes
  none_whole = run_none_whole overtake u events first old (fresh_none_whole first fresh) run

  abbrev apdu_of : Apdu
  apdu_of = ConfirmedRequest p.limits key.invoke_id segment choice octets

  abbrev Keeping : Type 0
  Keeping = Keeps (u node) (told old node) key p.link p.datagram p.limits segment choice octets p.hears.before p.hears.after p.hears.outcome p.performed p.is
      ((before.over.nodes node p.hears.before p.hears.at).servers).distinct p.write
      (none_whole_at key p.hears.before.servers.slots (none_whole node p.hears.before p.hears.at))

  keeping : Keeping
  keeping = go (heard_in (told old node) p.link p.datagram p.hears.before p.hears.after p.hears.outcome (u node) p.hears.on)
    where
      go : IsDropped (told old node) p.link p.datagram p.hears.before p.hears.after p.hears.outcome
          ⊎ IsHeardIn (u node) (told old node) p.link p.datagram p.hears.before p.hears.after p.hears.outcome → Keeping
      go (inl d) = absurd (let none : None ≡ Some p.performed = sym (ap (λ (y : Outcome). y.performed) d.outcome) ∙ p.is in cc)
      go (inr d) =
          let one = means_one SpellsApdu apdu_one p.link p.datagram d.peer key.peer d.apdu apdu_of d.means p.means in
          heard_keeps (u node) (told old node) key p.link p.datagram p.limits segment choice octets p.hears.before p.hears.after p.hears.outcome p.performed p.is
          ((before.over.nodes node p.hears.before p.hears.at).servers).distinct p.write
          (none_whole_at key p.hears.before.servers.slots (none_whole node p.hears.before p.hears.at))
          (is_from_client d.apdu) d.peer d.apdu one.0 one.1 refl d.heard

  abbrev entry : ServerTransaction
  entry = keeping.performs.entry

  is_after : (a : Node) → slice_get new.nodes node ≡ Some a → p.hears.after ≡ a
  is_after a at = let e : Some p.hears.after ≡ Some a = sym p.hears.acts.nodes.here ∙ at in cc

  kept : KeptAt entry.begin entry.choice (kept_by entry) key new.nodes node
  kept a at = record {
    entry = entry;
    there = subst (λ (n : Node). value_at same_key key n.servers.slots ≡ Some entry) (is_after a at) keeping.there;
    kept = record { begin_is = refl; choice_is = refl; request_is = refl; gathered = keeping.performs.gathered; no_read = keeping.performs.no_read };
  }

  -- something happened there
  active : (new.lives node).active ≡ true
  active = subst (λ (f : ℕ → Life). (f node).active ≡ true) (sym p.hears.acts.lives)
      (ap (λ (b : Bool). (if b then record { active = true; sends_until = (old.lives node).sends_until } else old.lives node).active) same)
    where
      same : nat_eq node node ≡ true
      same = grind (arith, nat_tests)

  -- the link of its key is the stranger's
  of_none : (i : ℕ) → link_at first.nodes i ≡ Some key.peer.link → ⊥
  of_none i at = p.stranger i (before.over.linked i ∙ at ∙ ap (λ (q : PeerView). Some q.link) p.means.carries.sender)

  act_once : KeepsWrite overtake u old node key segment choice octets new p
  act_once = record {
    entry = entry;
    there = keeping.there;
    whole = begun_whole (told old node) segment choice octets entry keeping.performs.begun;
    once = λ more last go on none young. run_adds (link_at first.nodes) fresh.apart W (rules_of overtake first) (rules_bounded W overtake first bounded) refl u
        (stores_of first.nodes) entry.begin entry.choice (kept_by entry) key node of_none more new last after active kept go on none young;
  }

pub writes_act_once : WritesActOnce
writes_act_once W overtake u first old new fresh timely bounded events run node key segment choice octets p =
    act_once W overtake u first old new fresh timely bounded events run node key segment choice octets p
