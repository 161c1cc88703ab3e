-- What a world does is a path of its machines.
use Rattle.std.proofs.Common.{◌≡◌, ◌≢◌, ◌⊎◌, ℕ, ◌+◌, ◌-◌, ◌≤◌, Bool, true, false, ◌&&◌, not, List, [], ◌∷◌, length, Option, Some, None, slice_get, nat_le}
use Rattle.std.proofs.Common.{if◌then◌else◌, nat_eq, refl, sym, ap, subst, inl, inr, ◌∙◌, arith}
use Rattle.std.proofs.lemmas.Bool.Decides.{nat_tests}
use Rattle.bac_apdu.specs.Apdu.{Apdu, Limits}
use Rattle.bac_apdu.specs.Spelling.{SpellsApdu, is_confirmed_request}
use Rattle.bac_npdu.specs.Peers.{PeerView}
use Rattle.bac_npdu.proofs.Datagrams.{frame_means}
use Rattle.bac_service.specs.Services.{reads_reply}
use Rattle.bac_service.specs.Values.{Request, choice_of}
use Rattle.bac_protocol.specs.Pace.{Pace, Clock}
use Rattle.bac_protocol.specs.Context.{Settings}
use Rattle.bac_protocol.specs.Service.{Octets}
use Rattle.bac_protocol.specs.Wire.{is_from_client}
use Rattle.bac_protocol.specs.Client.{ClientTransaction}
use Rattle.bac_protocol.specs.Server as server
use Rattle.bac_protocol.specs.Server.{Service, server_ticks}
use Rattle.bac_protocol.specs.Transaction.{Key, Rules, client_context, server_context}
use Rattle.bac_protocol.specs.World.{Net, Post, asked_at, server_acts, notes_change, is_id_held, is_lost, is_key_held, client_now, server_now, client_restarted}
use Rattle.bac_protocol.specs.World as machine
use Rattle.bac_protocol.specs.Moves.{taken_by_client, taken_by_server, ticket_ticked}
use Rattle.bac_protocol.specs.Claims as claims
use Rattle.bac_slots.specs.Slots.{value_at}
use Rattle.bac_transaction.specs.Keys.{same_key}
use Rattle.bac_transaction.specs.Ends.{AskOutcome, act_at, is_free, requester_ask}
use Rattle.bac_transaction.specs.Services.{service_of}
use Rattle.bac_world.specs.Services.{ArePerformed}
use Rattle.bac_world.specs.Node.{Node, Outcome, IsDropped, IsHeard, IsHeardBy, NodeOn}
use Rattle.bac_world.specs.World.{World, Event, Copy, later, is_deliverable, peer_at, Acts, DeliversIf, Delivers, HearsNoise, HearsStranger, IsAsked, WorldStep}
use Rattle.bac_world.specs.World.{WorldRun, RunsOn, told}
use Rattle.bac_world.specs.World.Event.{Ask, AskAway, Deliver, Noise, Stray, Tick, Advance, Change, Restart, Begin, BeginAgain}
use Rattle.bac_world.specs.Laws.{IsMeaningless}
use Rattle.bac_world.proofs.NodeLaws.{drops_exactly}
use Rattle.bac_world.proofs.Pairs.{IsPaired, pairwise_get}
use Rattle.bac_world.proofs.Bridge.{here_at, IsCopyOf, IsBetween, key_of, slot_key, framed_means, later_alike}
use Rattle.bac_world.proofs.Steps.{Over, Goes, acts_as}
use Rattle.bac_world.proofs.Heard.{heard_as}
use Rattle.bac_world.proofs.StrangersHeard.{hears_stranger}
use Rattle.bac_world.proofs.StrangersAsked.{asks_away_over}
use Rattle.bac_protocol.specs.World.{begun, client_acts_away, next_client, server_acts_away, server_begun}
use Rattle.bac_protocol.specs.Client as client
use Rattle.bac_protocol.proofs.Aside.{IsAside, client_aside, server_aside}
use Rattle.bac_liveness.proofs.Paths.{aside_step}
use Rattle.bac_world.proofs.Leads.{Leads}
use Rattle.bac_world.proofs.Machines.{may_arrive}
use Rattle.bac_world.proofs.Serving.{room_is, serves, served_so}
use Rattle.bac_world.proofs.Clients.{hears, quiet}
use Rattle.bac_world.proofs.Asking.{IsAccepted, accepted_is, free_ticket, key_free, asks_with}
use Rattle.bac_world.proofs.Ticking.{tick_over, tick_leads}
use Rattle.bac_world.proofs.Beginning.{begun_over}
use Rattle.bac_world.proofs.Restarting.{asked_earlier, quiet_net, replaced_net, replaced_over, restarted_net, restarted_over}
use Rattle.bac_protocol.proofs.Resting.{not_active}
use Rattle.bac_protocol.proofs.SingleMoves.{reached_stands}
use Rattle.bac_world.proofs.Headline.{advanced_over, changed_over}
use Rattle.bac_liveness.specs.WorldRuns.{Throughout}
use Rattle.bac_liveness.specs.WorldRoundTrip.{MayArrive}
use Rattle.bac_liveness.proofs.Paths.{ask_of, Comes, Step, Path, path_then}
use Rattle.bac_liveness.proofs.Paths.Path.{Here, Then}

-- in the first of these events a node does not restart, nor in the rest
pub first_on : (i : ℕ) (e : Event) (es : List Event) → RunsOn i (e ∷ es) → RunsOn i (e ∷ []) × RunsOn i es
first_on i (Ask c s limits r) es h = (tt, h)
first_on i (AskAway c peer limits r) es h = (tt, h)
first_on i (Deliver number) es h = (tt, h)
first_on i (Noise node from octets) es h = (tt, h)
first_on i (Stray node from octets) es h = (tt, h)
first_on i (Tick node) es h = (tt, h)
first_on i (Advance by own) es h = (tt, h)
first_on i (Change node change) es h = (tt, h)
first_on i (Restart node exact store) es h = ((h.0, tt), h.1)
first_on i (Begin node exact) es h = (tt, h)
first_on i (BeginAgain node exact first_id store) es h = ((h.0, tt), h.1)

module _ (links : ℕ → Option Octets) (apart : (i j : ℕ) (l : Octets) → links i ≡ Some l → links j ≡ Some l → i ≡ j) (W : ℕ) (x : Rules)
    (bound : claims.IsBounded W x) (readable : x.readable ≡ reads_reply) where
  -- An accepted ask.

  -- how a client's end takes it: its pieces, and its invoke ID
  abbrev pub Parts : (w : World) → Net → (c s : ℕ) (limits : Limits) (r : Request) (w' : World) → IsAsked w c s limits r w' → Type 0
  Parts w n c s limits r w' a =
      IsAccepted (x.settings c) (here_at n c) (peer_at a.link) (choice_of r) a.asks.octets a.before.clients a.accepted

  -- the end's outcome, with the net's settings and moment
  pub accepted : (w : World) (n : Net) → Over links apart W x None w n → (c s : ℕ) (limits : Limits) (r : Request) (w' : World) (a : IsAsked w c s limits r w')
      → requester_ask (x.settings c) (here_at n c) (peer_at a.link) limits (choice_of r) a.asks.octets a.before.clients ≡ AskOutcome.Asked a.accepted
  accepted w n h c s limits r w' a =
      let of : Settings → ℕ → AskOutcome = λ y now. requester_ask y now (peer_at a.link) limits (choice_of r) a.asks.octets a.before.clients in
      subst (λ (y : Settings). of y (here_at n c) ≡ AskOutcome.Asked a.accepted) (h.nodes c a.before a.at).settings
      (subst (λ (y : ℕ). of a.before.settings y ≡ AskOutcome.Asked a.accepted) (sym (ap (λ (y : Clock). y.shows) (h.here c))) a.asks.accepted)

  module _ (w : World) (n : Net) (h : Over links apart W x None w n) (c s : ℕ) (limits : Limits) (r : Request) (w' : World) (a : IsAsked w c s limits r w')
      (p : Parts w n c s limits r w' a) where
    abbrev pub asked_key : Key
    asked_key = key_of c s p.id

    asked_unheld : (not (is_lost n (key_of c s p.id)) && is_key_held (here_at n c) (n.tickets (key_of c s p.id))) ≡ false
    asked_unheld = free_ticket (is_lost n (key_of c s p.id)) (here_at n c) w.notes c (n.numbers (key_of c s p.id))
        (value_at same_key (slot_key a.link p.id) a.before.clients.slots)
        (n.tickets (key_of c s p.id)) ((h.nodes c a.before a.at).clients.found s a.link p.id (sym (h.linked s) ∙ a.peer)) p.free

    pub asked_free : is_id_held n (key_of c s p.id) ≡ false
    asked_free = key_free n (key_of c s p.id) a.before.clients (h.nodes c a.before a.at).asks p.awake asked_unheld

    abbrev pub asked_net : Net
    asked_net = asked_at x n (key_of c s p.id) (ask_of (here_at n c) (choice_of r) p.whole p.front p.rest)

    pub asked_over : Over links apart W x None w' asked_net
    asked_over = (asks_with links apart W x None bound w w' n h c s limits r a (sym (h.linked s) ∙ a.peer) p).bridge

  -- A copy that is heard.

  -- what is known of a copy and of its post as it is heard: it may arrive, and a node takes its APDU
  pub record IsTaken (w w' : World) (n : Net) (number : ℕ) (p : Post) (c : Copy) : Type 0 where
    pub at : slice_get n.posts number ≡ Some p
    pub may : MayArrive x.overtake w number c
    pub copied : IsCopyOf links apart p c
    pub young : n.now - p.copy.moment ≤ n.pace.life
    pub few : machine.later p.key number n.posts ≤ x.overtake
    pub before : Node
    pub after : Node
    pub outcome : Outcome
    pub node : slice_get w.nodes c.to ≡ Some before
    pub link : Octets
    pub from : links c.from ≡ Some link
    pub acts : Acts w c.to after outcome w'
    pub heard : IsHeardBy (is_from_client p.copy.apdu) (peer_at link) p.copy.apdu (told w c.to) before after outcome

  module _ (w w' : World) (n : Net) (h : Over links apart W x None w n) (number : ℕ) (p : Post) (c : Copy) (t : IsTaken w w' n number p c) where
    pub comes : Comes x n number p
    comes = record { at = t.at; arrives = may_arrive W x None bound n number p t.young t.few }

    -- what a server makes of it
    abbrev pub served_reaction : server.Reaction
    served_reaction = served_so links apart W x None n p (service_of t.before.store) t.link t.before.servers

    pub record IsServedBy : Type 0 where
      pub node : slice_get w.nodes p.key.server ≡ Some t.before
      pub over : Over links apart W x None w' (server_acts n p.key served_reaction)
      pub performed : ArePerformed t.before.store (act_at (slot_key t.link p.key.invoke_id) served_reaction.effect) t.outcome.performed

    served_by : (up : Bool) → up ≡ true → is_from_client p.copy.apdu ≡ up → IsBetween up p.key c.from c.to
        → IsHeardBy up (peer_at t.link) p.copy.apdu (told w c.to) t.before t.after t.outcome → IsServedBy
    served_by false is up between turn = absurd cc
    served_by true is up between turn =
        let s = serves links apart W x None bound w w' n h number p c t.at t.copied t.young t.few up between.0 between.1 t.before t.after t.outcome t.node
        t.link t.from (service_of t.before.store) turn (acts_as w w' c.to t.after t.outcome t.acts) in
        record { node = subst (λ (i : ℕ). slice_get w.nodes i ≡ Some t.before) between.1 t.node; over = s.0.bridge; performed = s.1 }

    -- by a server
    pub served_over : is_from_client p.copy.apdu ≡ true → IsServedBy
    served_over up = served_by (is_from_client p.copy.apdu) up refl t.copied.between t.heard

    told_by : (up : Bool) → up ≡ false → is_from_client p.copy.apdu ≡ up → IsBetween up p.key c.from c.to
        → IsHeardBy up (peer_at t.link) p.copy.apdu (told w c.to) t.before t.after t.outcome → Over links apart W x None w' (taken_by_client x n p (n.tickets p.key))
    told_by true is down between turn = absurd cc
    told_by false is down between turn =
        (hears links apart W x None bound readable w w' n h number p c t.at t.copied t.young t.few down between.0 between.1 t.before t.after t.outcome t.node
        t.link t.from turn t.acts).bridge

    -- or by a client
    pub told_over : is_from_client p.copy.apdu ≡ false → Over links apart W x None w' (taken_by_client x n p (n.tickets p.key))
    told_over down = told_by (is_from_client p.copy.apdu) down refl t.copied.between t.heard

  module _ (w w' : World) (n : Net) (h : Over links apart W x None w n) (number : ℕ) (c : Copy) (there : slice_get w.copies number ≡ Some c) where
    pub post : IsPaired (IsCopyOf links apart) n.posts number c
    post = pairwise_get (IsCopyOf links apart) n.posts w.copies number c h.posts there

    -- where a node hears it
    taken : w.time.now - c.moment ≤ w.time.pace.life → later c.key number w.copies ≤ x.overtake → (y : Delivers w c w')
        → IsHeard (told w c.to) y.link c.octets y.hears.before y.hears.after y.hears.outcome → IsTaken w w' n number post.other c
    taken young few y z = record {
      at = post.there;
      may = record { at = there; arrives = both (nat_le (w.time.now - c.moment) w.time.pace.life) (nat_le (later c.key number w.copies) x.overtake) refl refl };
      copied = post.goes;
      young = subst (λ (q : Pace). n.now - p.copy.moment ≤ q.life) (sym h.pace) (subst (λ (m : ℕ). m - p.copy.moment ≤ w.time.pace.life) (sym h.now)
          (subst (λ (m : ℕ). w.time.now - m ≤ w.time.pace.life) post.goes.moment young));
      few = subst (λ (m : ℕ). m ≤ x.overtake) (later_alike links apart p.key number n.posts w.copies h.posts)
          (subst (λ (k : Key). later k number w.copies ≤ x.overtake) post.goes.key few);
      before = y.hears.before;
      after = y.hears.after;
      outcome = y.hears.outcome;
      node = y.hears.at;
      link = y.link;
      from = sym (h.linked c.from) ∙ y.sender;
      acts = y.hears.acts;
      heard =
          subst (λ (q : PeerView). IsHeardBy (is_from_client p.copy.apdu) q p.copy.apdu (told w c.to) y.hears.before y.hears.after y.hears.outcome) one.0
          (subst (λ (d : Apdu). IsHeardBy (is_from_client d) z.peer d (told w c.to) y.hears.before y.hears.after y.hears.outcome) one.1 z.heard);
    }
      where
        p : Post
        p = post.other

        both : (e f : Bool) → nat_le (w.time.now - c.moment) w.time.pace.life ≡ e → nat_le (later c.key number w.copies) x.overtake ≡ f → (e && f) ≡ true
        both true true e f = refl
        both true false e f = absurd (grind (arith, nat_tests))
        both false f e g = absurd (grind (arith, nat_tests))

        one : (z.peer ≡ peer_at y.link) × (z.apdu ≡ post.other.copy.apdu)
        one = framed_means y.link post.goes.to_link post.other.copy.apdu z.apdu z.peer c.octets post.goes.frame post.goes.short z.means

    -- it is heard where it is deliverable, and its client is not its server
    pub heard_now : is_deliverable x.overtake w.time.pace.life w.time.now number w.copies c ≡ true → (post.other.key.client ≡ post.other.key.server → ⊥)
        → WorldStep x.overtake w (Deliver number) w' → IsTaken w w' n number post.other c
    heard_now arrives foreign d = go (nat_le (w.time.now - c.moment) w.time.pace.life) (nat_le (later c.key number w.copies) x.overtake) refl refl arrives goes
      where
        same : d.copy ≡ c
        same = let e : Some d.copy ≡ Some c = sym d.there ∙ there in cc

        goes : DeliversIf (is_deliverable x.overtake w.time.pace.life w.time.now number w.copies c) w c w'
        goes = subst (λ (y : Copy). DeliversIf (is_deliverable x.overtake w.time.pace.life w.time.now number w.copies y) w y w') same d.goes

        away : (up : Bool) → IsBetween up post.other.key c.from c.to → c.from ≡ c.to → ⊥
        away true between e = foreign (sym between.0 ∙ e ∙ between.1)
        away false between e = foreign (sym between.1 ∙ sym e ∙ between.0)

        on : w.time.now - c.moment ≤ w.time.pace.life → later c.key number w.copies ≤ x.overtake → (y : Delivers w c w')
            → NodeOn (told w c.to) y.link c.octets y.hears.before y.hears.after y.hears.outcome → IsTaken w w' n number post.other c
        on young few y (inr z) = taken young few y z
        on young few y (inl z) = absurd (none (drops_exactly.only (told w c.to) y.link c.octets y.hears.before y.hears.after y.hears.outcome z))
          where
            none : (y.link ≡ y.hears.before.link) ⊎ IsMeaningless y.link c.octets → ⊥
            none (inl own) = away (is_from_client post.other.copy.apdu) post.goes.between
                (apart c.from c.to y.link (sym (h.linked c.from) ∙ y.sender) ((h.nodes c.to y.hears.before y.hears.at).link ∙ ap Some (sym own)))
            none (inr nothing) = nothing (peer_at y.link) post.other.copy.apdu
                (frame_means SpellsApdu is_confirmed_request y.link post.goes.to_link c.octets post.other.copy.apdu
                (λ text s. subst (λ (l : Octets). length l ≤ 1476) (sym s.is) post.goes.short) post.goes.frame)

        go : (e f : Bool) → nat_le (w.time.now - c.moment) w.time.pace.life ≡ e → nat_le (later c.key number w.copies) x.overtake ≡ f → (e && f) ≡ true
            → DeliversIf (e && f) w c w' → IsTaken w w' n number post.other c
        go true true e f all y = on (grind (arith, nat_tests)) (grind (arith, nat_tests)) y y.hears.on
        go true false e f all y = absurd cc
        go false f e g all y = absurd cc

  -- Every step, where a premise says of each delivery at a server with which service it comes, and whether a slot is free.
  module _ (Q : Net → ℕ → Bool → Service → Type 0) where
    abbrev pub Gives : World → Net → Event → Type 0
    Gives w n (Deliver number) = (w' : World) (p : Post) (c : Copy) (t : IsTaken w w' n number p c) → is_from_client p.copy.apdu ≡ true
        → Q n number (is_free (server_now n p.key) t.before.servers) (service_of t.before.store)
    Gives w n _ = Unit {0}

    -- these events lead there; a client that does not restart in them has restarted as long ago as before
    pub record Followed (events : List Event) (w : World) (n : Net) : Type 0 where
      pub net : Net
      pub over : Over links apart W x None w net
      pub path : Path x Q n net
      pub lives : (i : ℕ) → RunsOn i events → net.restarted i ≡ n.restarted i

    same_followed : (events : List Event) (w w' : World) (n : Net) → Over links apart W x None w n → w' ≡ w → Followed events w' n
    same_followed events w w' n h is =
        record { net = n; over = subst (λ (u : World). Over links apart W x None u n) (sym is) h; path = Here; lives = λ i on. refl }

    leads_path : (n m : Net) → Leads x n m → Path x Q n m
    leads_path n _ Leads.Here = Here
    leads_path n _ (Leads.Hears m number p t before at arrives down there) =
        Then m (taken_by_client x m p (Some t)) (leads_path n m before) (Step.Hears number p t (record { at = at; arrives = arrives }) down there)
    leads_path n _ (Leads.TicksTicket m key t before there) =
        Then m (ticket_ticked x m key (Some t)) (leads_path n m before) (Step.TicksTicket key t there)
    leads_path n _ (Leads.TicksEntry m key before) =
        Then m (server_acts m key (server_ticks (server_context x key (server_now m key)) (m.entries key))) (leads_path n m before) (Step.TicksEntry key)
    leads_path n _ (Leads.TicksEntryAway m key before) =
        let v = server_ticks (server_context x key (server_now m key)) (m.far.entries key) in
        Then m (server_acts_away m key v) (leads_path n m before) (aside_step x Q m (server_acts_away m key v) (server_aside m key v))
    leads_path n _ (Leads.StraysToClient m key t a before down there) =
        let r = client.client_on_apdu (client_context x key (client_now m key)) x.readable t a in
        Then m (client_acts_away m key t r) (leads_path n m before) (aside_step x Q m (client_acts_away m key t r) (client_aside m key t r))
    leads_path n _ (Leads.TicksTicketAway m key t before there) =
        let r = client.client_ticks (client_context x key (client_now m key)) t in
        Then m (client_acts_away m key t r) (leads_path n m before) (aside_step x Q m (client_acts_away m key t r) (client_aside m key t r))

    leads_lives : (n m : Net) → Leads x n m → (i : ℕ) → m.restarted i ≡ n.restarted i
    leads_lives n _ Leads.Here i = refl
    leads_lives n _ (Leads.Hears m number p t before at arrives down there) i = leads_lives n m before i
    leads_lives n _ (Leads.TicksTicket m key t before there) i = leads_lives n m before i
    leads_lives n _ (Leads.TicksEntry m key before) i = leads_lives n m before i
    leads_lives n _ (Leads.TicksEntryAway m key before) i = leads_lives n m before i
    leads_lives n _ (Leads.StraysToClient m key t a before down there) i = leads_lives n m before i
    leads_lives n _ (Leads.TicksTicketAway m key t before there) i = leads_lives n m before i

    -- what a node does with strangers
    aside : (events : List Event) (w w' : World) (n : Net) → (m : Net) × Goes links apart W x None w w' m × IsAside n m → Followed events w' n
    aside events w w' n h = record {
      net = h.0;
      over = h.1.bridge;
      path = Then n h.0 Here (aside_step x Q n h.0 h.2);
      lives = λ i on. ap (λ (k : Net). k.restarted i) h.2.is;
    }

    dropped : (events : List Event) (w w' : World) (n : Net) → Over links apart W x None w n → (i : ℕ) (a b : Node) (o : Outcome) → slice_get w.nodes i ≡ Some a
        → Acts w i b o w' → (from octets : Octets) → IsDropped (told w i) from octets a b o → Followed events w' n
    dropped events w w' n h i a b o at acts from octets d = record {
      net = n;
      over = (quiet links apart W x None w w' n h i a b o at acts (ap (λ (y : Outcome). y.performed) d.outcome)
          (ap (λ (y : Outcome). y.sends) d.outcome) (ap (λ (y : Outcome). y.ended) d.outcome) d.node).bridge;
      path = Here;
      lives = λ j on. refl;
    }

    told_path : (n : Net) (number : ℕ) (p : Post) → Comes x n number p → is_from_client p.copy.apdu ≡ false → (t : Option ClientTransaction)
        → n.tickets p.key ≡ t
        → Path x Q n (taken_by_client x n p t)
    told_path n number p comes_now down None there = Here
    told_path n number p comes_now down (Some t) there =
        Then n (taken_by_client x n p (Some t)) Here (Step.Hears number p t comes_now down there)

    told_lives : (n : Net) (p : Post) (t : Option ClientTransaction) (i : ℕ) → (taken_by_client x n p t).restarted i ≡ n.restarted i
    told_lives n p None i = refl
    told_lives n p (Some t) i = refl

    heard : (events : List Event) (w w' : World) (n : Net) (h : Over links apart W x None w n) (number : ℕ) → Gives w n (Deliver number) → (p : Post) (c : Copy)
        → IsTaken w w' n number p c → Followed events w' n
    heard events w w' n h number gives p c t = go (is_from_client p.copy.apdu) refl
      where
        go : (up : Bool) → is_from_client p.copy.apdu ≡ up → Followed events w' n
        go true up =
            let s = served_over w w' n h number p c t up in
            let comes_now = comes w w' n h number p c t in
            record {
              net = server_acts n p.key (served_so links apart W x None n p (service_of t.before.store) t.link t.before.servers);
              over = s.over;
              path = subst (λ (b : Bool). Path x Q n (server_acts n p.key (server.server_on_apdu (server_context x p.key (server_now n p.key))
                  (service_of t.before.store) (n.entries p.key) b p.copy.apdu)))
                  (room_is n p.key t.before.servers (h.nodes p.key.server t.before s.node).serves)
                  (Then n (taken_by_server x n p (is_free (server_now n p.key) t.before.servers) (service_of t.before.store)) Here
                  (Step.Serves number p (is_free (server_now n p.key) t.before.servers) (service_of t.before.store) comes_now up (gives w' p c t up)));
              lives = λ i on. refl;
            }
        go false down = record {
          net = taken_by_client x n p (n.tickets p.key);
          over = told_over w w' n h number p c t down;
          path = told_path n number p (comes w w' n h number p c t) down (n.tickets p.key) refl;
          lives = λ i on. told_lives n p (n.tickets p.key) i;
        }

    module _ (events : List Event) (w w' : World) (n : Net) (h : Over links apart W x None w n) (number : ℕ) (gives : Gives w n (Deliver number)) (c : Copy)
        (there : slice_get w.copies number ≡ Some c) where
      arrives : w.time.now - c.moment ≤ w.time.pace.life → later c.key number w.copies ≤ x.overtake → Delivers w c w' → Followed events w' n
      arrives young few y = on y.hears.on
        where
          on : NodeOn (told w c.to) y.link c.octets y.hears.before y.hears.after y.hears.outcome → Followed events w' n
          on (inl z) = dropped events w w' n h c.to y.hears.before y.hears.after y.hears.outcome y.hears.at y.hears.acts y.link c.octets z
          on (inr z) = heard events w w' n h number gives (post w w' n h number c there).other c (taken w w' n h number c there young few y z)

      delivered : (e f : Bool) → nat_le (w.time.now - c.moment) w.time.pace.life ≡ e → nat_le (later c.key number w.copies) x.overtake ≡ f
          → DeliversIf (e && f) w c w' → Followed events w' n
      delivered false f young few same = same_followed events w w' n h same
      delivered true false young few same = same_followed events w w' n h same
      delivered true true young few y = arrives (grind (arith, nat_tests)) (grind (arith, nat_tests)) y

    noise : (events : List Event) (w w' : World) (n : Net) → Over links apart W x None w n → (i : ℕ) (from octets : Octets) → HearsNoise w i from octets w'
        → Followed events w' n
    noise events w w' n h i from octets d = on d.hears.on
      where
        on : NodeOn (told w i) from octets d.hears.before d.hears.after d.hears.outcome → Followed events w' n
        on (inl z) = dropped events w w' n h i d.hears.before d.hears.after d.hears.outcome d.hears.at d.hears.acts from octets z
        on (inr z) = absurd (d.meaningless z.peer z.apdu z.means)

    stray : (events : List Event) (w w' : World) (n : Net) → Over links apart W x None w n → (i : ℕ) (from octets : Octets) → HearsStranger w i from octets w'
        → Followed events w' n
    stray events w w' n h i from octets d = on d.hears.on
      where
        on : NodeOn (told w i) from octets d.hears.before d.hears.after d.hears.outcome → Followed events w' n
        on (inl z) = dropped events w w' n h i d.hears.before d.hears.after d.hears.outcome d.hears.at d.hears.acts from octets z
        on (inr z) = aside events w w' n (hears_stranger links apart W x None bound readable w w' n h i from d.stranger d.hears.before d.hears.after
            d.hears.outcome d.hears.at (acts_as w w' i d.hears.after d.hears.outcome d.hears.acts) octets
            (heard_as (told w i) from octets d.hears.before d.hears.after d.hears.outcome z))

    asks : (events : List Event) (w w' : World) (n : Net) → Over links apart W x None w n → (c s : ℕ) (limits : Limits) (r : Request) → IsAsked w c s limits r w'
        → Followed events w' n
    asks events w w' n h c s limits r a =
        let p = accepted_is (x.settings c) (here_at n c) (peer_at a.link) (choice_of r) a.asks.octets a.before.clients a.accepted limits
        (accepted w n h c s limits r w' a) in
        record {
          net = asked_net w n h c s limits r w' a p;
          over = asked_over w n h c s limits r w' a p;
          path = Then n (asked_net w n h c s limits r w' a p) Here
              (Step.Asks (key_of c s p.id) (choice_of r) p.whole p.front p.rest (asked_free w n h c s limits r w' a p));
          lives = λ i on. refl;
        }

    -- another node's restart
    elsewhere : (at old node i : ℕ) → node ≢ i → (if nat_eq i node then at else old) ≡ old
    elsewhere at old node i other = go (nat_eq i node) refl
      where
        go : (b : Bool) → nat_eq i node ≡ b → (if b then at else old) ≡ old
        go true e = let same : node ≡ i = grind (arith, nat_tests) in absurd (other same)
        go false e = refl

    pub step_followed : (w w' : World) (n : Net) → Over links apart W x None w n → (e : Event) → Gives w n e → WorldStep x.overtake w e w' → Followed (e ∷ []) w' n
    step_followed w w' n h (Ask c s limits r) gives (inl a) = asks (Ask c s limits r ∷ []) w w' n h c s limits r a
    step_followed w w' n h (Ask c s limits r) gives (inr a) = same_followed (Ask c s limits r ∷ []) w w' n h a.same
    step_followed w w' n h (AskAway c peer limits r) gives (inl a) =
        aside (AskAway c peer limits r ∷ []) w w' n (asks_away_over links apart W x None bound w w' n h c peer limits r a)
    step_followed w w' n h (AskAway c peer limits r) gives (inr a) = same_followed (AskAway c peer limits r ∷ []) w w' n h a.same
    step_followed w w' n h (Deliver number) gives d = delivered (Deliver number ∷ []) w w' n h number gives d.copy d.there
        (nat_le (w.time.now - d.copy.moment) w.time.pace.life) (nat_le (later d.copy.key number w.copies) x.overtake) refl refl d.goes
    step_followed w w' n h (Noise node from octets) gives (inl d) = noise (Noise node from octets ∷ []) w w' n h node from octets d
    step_followed w w' n h (Noise node from octets) gives (inr d) = same_followed (Noise node from octets ∷ []) w w' n h d.same
    step_followed w w' n h (Stray node from octets) gives (inl d) = stray (Stray node from octets ∷ []) w w' n h node from octets d
    step_followed w w' n h (Stray node from octets) gives (inr d) = same_followed (Stray node from octets ∷ []) w w' n h d.same
    step_followed w w' n h (Tick node) gives d = record {
      net = (tick_over links apart W x None bound w w' n h node d).0;
      over = (tick_over links apart W x None bound w w' n h node d).1.bridge;
      path = leads_path n (tick_over links apart W x None bound w w' n h node d).0 (tick_leads links apart W x None bound w w' n h node d);
      lives = λ i on. leads_lives n (tick_over links apart W x None bound w w' n h node d).0 (tick_leads links apart W x None bound w w' n h node d) i;
    }
    step_followed w w' n h (Advance by own) gives is = record {
      net = machine.passes n by own own;
      over = subst (λ (u : World). Over links apart W x None u (machine.passes n by own own)) (sym is)
          (advanced_over links apart W x None bound readable w n h by own);
      path = Then n (machine.passes n by own own) Here (Step.Passes by own own);
      lives = λ i on. refl;
    }
    step_followed w w' n h (Change node change) gives s = record {
      net = notes_change n node [];
      over = changed_over links apart W x None bound readable w w' n h node change s;
      path = Then n (notes_change n node []) Here (Step.Changes node []);
      lives = λ i on. refl;
    }
    step_followed w w' n h (Restart node exact store) gives s = record {
      net = restarted_net n node exact;
      over = restarted_over links apart W x None bound w w' n h node exact store s;
      path = Then (client_restarted n node exact) (restarted_net n node exact) (Then n (client_restarted n node exact) Here (Step.RestartsClient node exact))
          (Step.RestartsServer node exact None);
      lives = λ i on. elsewhere (n.now + 1) (n.restarted i) node i on.0;
    }
    step_followed w w' n h (Begin node exact) gives s = record {
      net = begun n node exact;
      over = subst (λ (u : World). Over links apart W x None u (begun n node exact)) (sym s.is)
          (begun_over links apart W x None bound w w' n h node exact s);
      path =
          let off = not_active n node ((h.lives node).active s.first) in
          let stands = reached_stands W x bound h.sound.0 h.sound.2 h.sound.1 n h.sound.3 in
          Then (server_begun n node exact) (begun n node exact)
          (Then n (server_begun n node exact) Here (Step.BeginsServer node exact (stands.unserved node off.1)))
          (Step.BeginsClient node exact (stands.unasked node off.0));
      lives = λ i on. refl;
    }
    step_followed w w' n h (BeginAgain node exact first_id store) gives s = record {
      net = replaced_net n node exact;
      over = replaced_over links apart W x None bound w w' n h node exact first_id store s;
      path = Then (next_client n node exact) (replaced_net n node exact) (Then n (next_client n node exact) Here
          (Step.BeginsNext node exact (quiet_net links apart W x None bound w w' n h node exact s.quiet) (λ key t its is. asked_earlier links apart W x None bound w w' n h node exact s.quiet key t is its)))
          (Step.RestartsServer node exact None);
      lives = λ i on. elsewhere n.now (n.restarted i) node i on.0;
    }

    -- and every run, where what is said of its events gives that
    module _ (P : World → Event → Type 0) (so : (w : World) (n : Net) → Over links apart W x None w n → (e : Event) → P w e → Gives w n e) where
      pub run_followed : (events : List Event) (w w' : World) (n : Net) → Over links apart W x None w n → (run : WorldRun x.overtake w events w')
          → Throughout x.overtake P w events w' run → Followed events w' n
      run_followed [] w w' n h run each = same_followed [] w w' n h run
      run_followed (e ∷ es) w w' n h run each =
          let f = step_followed w run.0 n h e (so w n h e each.0) run.1 in
          let g = run_followed es run.0 w' f.net f.over run.2 each.1 in
          record {
            net = g.net;
            over = g.over;
            path = path_then x Q n f.net g.net f.path g.path;
            lives = λ i on. let parts = first_on i e es on in g.lives i parts.1 ∙ f.lives i parts.0;
          }
