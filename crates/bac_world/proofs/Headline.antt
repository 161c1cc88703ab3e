-- After every run of a fresh world the log of values is right with the stores.
use Rattle.std.proofs.Common.{◌⊎◌, ◌≡◌, ℕ, ◌+◌, ◌-◌, ◌*◌, ◌≤◌, ◌<◌, Bool, true, false, ◌&&◌, List, [], ◌∷◌, length, Option, Some, None, slice_get}
use Rattle.std.proofs.Common.{nat_le, nat_eq, if◌then◌else◌, refl, sym, ap, subst, inl, inr, ◌∙◌, arith}
use Rattle.std.proofs.lemmas.Bool.Decides.{nat_tests}
use Rattle.std.specs.Option.{option_map}
use Rattle.bac_apdu.specs.Apdu.{Apdu}
use Rattle.bac_npdu.specs.Peers.{PeerView}
use Rattle.bac_service.specs.Services.{reads_reply}
use Rattle.bac_store.specs.Stores.{Store}
use Rattle.bac_store.specs.AtNode as at_node
use Rattle.bac_store.specs.AtNode.{changed}
use Rattle.bac_protocol.specs.Context.{Settings}
use Rattle.bac_protocol.specs.Service.{Octets}
use Rattle.bac_protocol.specs.Wire.{is_from_client}
use Rattle.bac_protocol.specs.Client as client
use Rattle.bac_protocol.specs.Client.{ClientTransaction}
use Rattle.bac_protocol.specs.Server.{ServerTransaction, live_entry}
use Rattle.bac_protocol.specs.Transaction.{Key, Rules}
use Rattle.bac_protocol.specs.World.{Net, Post, notes_change, net_start}
use Rattle.bac_protocol.specs.World as machine
use Rattle.bac_protocol.specs.Claims as claims
use Rattle.bac_protocol.proofs.Dead.{dead_is_none, ended_is_silent}
use Rattle.bac_slots.specs.Slots.{value_at, IsDistinct}
use Rattle.bac_transaction.specs.Keys.{same_key}
use Rattle.bac_transaction.specs.Sends.{Pairwise}
use Rattle.bac_transaction.specs.Ends.{Client}
use Rattle.bac_transaction.specs.Services.{service_of}
use Rattle.bac_world.specs.Node.{Node, Outcome, IsDropped, with_change}
use Rattle.bac_world.specs.ReusingLogs.{IsOnceSo, Reuses}
use Rattle.bac_world.specs.ReusingWorlds.{ActsSo, DeliversIfSo, DeliversSo, HearsSo, WorldRunSo, WorldStepSo}
use Rattle.bac_world.specs.Once.{Fact, Stores, IsOnce, MayChange, with_changed}
use Rattle.bac_world.specs.World.{World, IsFreshNode, Life, Time, passes, Event, Copy, Note, link_at, stores_of, newest, later, peer_at, IsOfNone, IsChanged, WorldRun, IsFresh, IsBounded}
use Rattle.bac_world.specs.Laws.{IsMeaningless}
use Rattle.bac_world.specs.World.Event.{Ask, AskAway, Deliver, Noise, Stray, Tick, Advance, Change, Restart, Begin, BeginAgain}
use Rattle.bac_transaction.proofs.KeyedSlots.{EachSlot}
use Rattle.bac_protocol.specs.World.{is_lost}
use Rattle.bac_world.specs.World.{told}
use Rattle.bac_world.proofs.Bridge.{here_at, there_at}
use Rattle.bac_protocol.specs.Pace.{Pace, IsTimely, clock_at, goes_on}
use Rattle.std.proofs.Common.{not}
use Rattle.bac_world.proofs.Machines.{passed, changes, starts, client_later, server_later, served_apart_of, own_of, may_arrive, short_may_arrive}
use Rattle.bac_world.proofs.Pairs.{IsPaired, pairwise_get}
use Rattle.bac_world.proofs.Logs.{FactMeans}
use Rattle.bac_world.proofs.Bridge.{IsKnown, IsStranger, NodeFits, IsCopyOf, IsBetween, IsGone, TicketFits, EntryFits, AwayNoted, key_of, slot_key, stranger_key, out_key}
use Rattle.bac_world.proofs.Bridge.{AreIdle, LifeFits, changed_fresh, lives_as, framed_means, later_alike}
use Rattle.bac_world.proofs.Steps.{Over, Goes, acts_quiet, each_with, linked_with}
use Rattle.bac_world.proofs.AsEver.{once_as, once_ever, run_as}
use Rattle.bac_world.proofs.Heard.{IsHeardIn, IsHeardInBy, heard_in}
use Rattle.bac_world.proofs.Settings.{Setting, always, ever_in, free_for, reuses_in}
use Rattle.bac_world.proofs.Serving.{serves_post, served_if}
use Rattle.bac_world.proofs.StrangersHeard.{hears_stranger}
use Rattle.bac_world.proofs.Clients.{hears_post, quiet}
use Rattle.bac_world.proofs.Asking.{asks_over}
use Rattle.bac_world.specs.Claims.{AreServedApart}
use Rattle.bac_world.proofs.StrangersApart.{spaced, served_as}
use Rattle.bac_world.proofs.Numbers.{number}
use Rattle.bac_world.proofs.StrangersAsked.{asks_away_over}
use Rattle.bac_world.proofs.Ticking.{tick_over, tick_leads}
use Rattle.bac_world.proofs.Restarting.{restarted_net, restarted_goes, replaced_net, replaced_goes}
use Rattle.bac_world.proofs.Beginning.{begun_over}
use Rattle.bac_world.proofs.Reused.{hears_own}
use Rattle.bac_world.proofs.ReplyLengths.{acts_fit, effect_fits, run_fits}
use Rattle.bac_world.proofs.Leads.{aside_short, leads_short}
use Rattle.bac_world.specs.LongApdus.{AllAskLong, AsksLong, RepliesFit, TakeLongApdus}
use Rattle.bac_world.specs.Services.{ArePerformed}
use Rattle.bac_transaction.specs.Ends.{act_at}
use Rattle.bac_transaction.specs.Keys.{PeerKey}
use Rattle.bac_transaction.specs.Reuse.{is_read}
use Rattle.bac_protocol.specs.LongApdus.{AllTakeLong, TakesLong}
use Rattle.bac_protocol.specs.Moves.{taken_by_client}
use Rattle.bac_protocol.specs.Own.{IsOwnEntry}
use Rattle.bac_protocol.specs.Server as server
use Rattle.bac_protocol.specs.Transaction.{server_context}
use Rattle.bac_protocol.specs.World.{begun, client_restarted, next_client, server_acts, server_now}
use Rattle.bac_protocol.proofs.Keys.{set_same}
use Rattle.bac_protocol.proofs.ShortNets.{IsShortNet, all_replies, all_short, client_takes_short, keeps_replies, restarted_short, same_short, server_gets_short, start_short}

module _ (links : ℕ → Option Octets) (apart : (i j : ℕ) (l : Octets) → links i ≡ Some l → links j ≡ Some l → i ≡ j) (W : ℕ) (x : Rules)
    (set : Setting) (bound : claims.IsBounded W x) (readable : x.readable ≡ reads_reply) where
  -- the world goes on, and the net with it, in which transfers stay short where all ends take long APDUs
  abbrev pub Follows : Event → World → World → Net → Type 0
  Follows e w w' n =
      (m : Net) × Goes links apart W x set w w' m × (AllTakeLong x → AsksLong e → RepliesFit w'.log → IsShortNet n → IsShortNet m)

  same_over : (e : Event) (w w' : World) (n : Net) → Over links apart W x set w n → w' ≡ w → Follows e w w' n
  same_over e w w' n h is = subst (λ (u : World). Follows e w u n) (sym is)
      (n, record { bridge = h; once = λ opening once. once }, λ long asks fits short. short)

  -- Datagrams.

  dropped : (e : Event) (reuse : Bool) (w w' : World) (n : Net) → Over links apart W x set w n → (i : ℕ) (a b : Node) (o : Outcome)
      → slice_get w.nodes i ≡ Some a → ActsSo reuse w i b o w'
      → (from octets : Octets) → IsDropped (told w i) from octets a b o → Follows e w w' n
  dropped e reuse w w' n h i a b o at acts from octets d = (
    n,
    quiet links apart W x set w w' n h i a b o at (acts_quiet reuse w w' i b o (ap (λ (y : Outcome). y.performed) d.outcome) acts)
        (ap (λ (y : Outcome). y.performed) d.outcome) (ap (λ (y : Outcome). y.sends) d.outcome) (ap (λ (y : Outcome). y.ended) d.outcome) d.node,
    λ long asks fits short. short,
  )

  -- a copy that may arrive is heard
  module _ (e : Event) (w w' : World) (n : Net) (h : Over links apart W x set w n) (number : ℕ) (p : Post) (c : Copy)
      (at : slice_get n.posts number ≡ Some p) (copied : IsCopyOf links apart p c) (may : machine.is_deliverable x n number p ≡ true)
      (a b : Node) (o : Outcome) (node : slice_get w.nodes c.to ≡ Some a) (l : Octets) (link : links c.from ≡ Some l)
      (acts : ActsSo (reuses_in set c.to) w c.to b o w') where
    -- what its server makes of it
    abbrev served : Bool → server.Reaction
    served allowed = served_if links apart W x set allowed n p (service_of a.store) l a.servers

    abbrev Serves : Bool → Type 0
    Serves allowed = Goes links apart W x set w w' (server_acts n p.key (served allowed))
        × ArePerformed a.store (act_at (slot_key l p.key.invoke_id) (served allowed).effect) o.performed

    served_short : (allowed : Bool) → Serves allowed → AllTakeLong x → RepliesFit w'.log → IsShortNet n → IsShortNet (server_acts n p.key (served allowed))
    served_short allowed s long fits short =
        let key : PeerKey = slot_key l p.key.invoke_id in
        let free : Bool = free_for allowed (reuses_in set p.key.server) (server_now n p.key) key p.copy.apdu a.servers in
        server_gets_short x long n short number p at (service_of a.store) is_read (reuses_in set p.key.server) free
        (effect_fits a.store key (served allowed).effect o.performed s.1 (acts_fit (reuses_in set c.to) w w' c.to b o acts fits).0)
        (keeps_replies p.key.invoke_id (served allowed).entry (subst (IsOwnEntry p.key.invoke_id) (set_same n.entries p.key (served allowed).entry)
        (own_of W x set bound (server_acts n p.key (served allowed)) s.0.bridge.sound p.key)))
        (all_replies p.key.invoke_id (served allowed).sends (hears_own (server_context x p.key (server_now n p.key)) (service_of a.store) free
        (reuses_in set p.key.server) (n.entries p.key) (own_of W x set bound n h.sound p.key) p.copy.apdu))

    heard_by : (up : Bool) → is_from_client p.copy.apdu ≡ up → IsBetween up p.key c.from c.to
        → IsHeardInBy (reuses_in set c.to) up (peer_at l) p.copy.apdu (told w c.to) a b o
        → Follows e w w' n
    heard_by true up between turn =
        let s : Serves turn.0 =
        serves_post links apart W x set bound w w' n h number p c at copied may up between.0 between.1 a b o node l link (service_of a.store) turn.0 turn.1 acts in
        (server_acts n p.key (served turn.0), s.0, λ long asks fits short. served_short turn.0 s long fits short)
    heard_by false down between turn = (
      taken_by_client x n p (n.tickets p.key),
      hears_post links apart W x set bound readable w w' n h number p c at copied may down between.0 between.1 a b o node l link turn
          (acts_quiet (reuses_in set c.to) w w' c.to b o turn.performed acts),
      λ long asks fits short. client_takes_short x long n short p (n.tickets p.key),
    )

    heard : IsHeardIn (reuses_in set c.to) (told w c.to) l c.octets a b o → Follows e w w' n
    heard y =
        let one = framed_means l copied.to_link p.copy.apdu y.apdu y.peer c.octets copied.frame copied.short y.means in
        heard_by (is_from_client p.copy.apdu) refl copied.between
        (subst (λ (q : PeerView). IsHeardInBy (reuses_in set c.to) (is_from_client p.copy.apdu) q p.copy.apdu (told w c.to) a b o) one.0
        (subst (λ (d : Apdu). IsHeardInBy (reuses_in set c.to) (is_from_client d) y.peer d (told w c.to) a b o) one.1 y.heard))

  module _ (e : Event) (V : ℕ) (w w' : World) (n : Net) (h : Over links apart W x set w n) (near : (V ≤ x.overtake) ⊎ IsShortNet n) (number : ℕ) (c : Copy)
      (there : slice_get w.copies number ≡ Some c) where
    post : IsPaired (IsCopyOf links apart) n.posts number c
    post = pairwise_get (IsCopyOf links apart) n.posts w.copies number c h.posts there

    arrives : w.time.now - c.moment ≤ w.time.pace.life → later c.key number w.copies ≤ V → DeliversSo (reuses_in set) w c w' → Follows e w w' n
    arrives young few y =
        on (heard_in (told w c.to) y.link c.octets y.hears.before y.hears.after y.hears.outcome (reuses_in set c.to) y.hears.on)
      where
        p : Post
        p = post.other

        link : links c.from ≡ Some y.link
        link = sym (h.linked c.from) ∙ y.sender

        is_young : n.now - p.copy.moment ≤ n.pace.life
        is_young = subst (λ (q : Pace). n.now - p.copy.moment ≤ q.life) (sym h.pace)
            (subst (λ (m : ℕ). m - p.copy.moment ≤ w.time.pace.life) (sym h.now)
            (subst (λ (m : ℕ). w.time.now - m ≤ w.time.pace.life) post.goes.moment young))

        are_few : machine.later p.key number n.posts ≤ V
        are_few = subst (λ (m : ℕ). m ≤ V) (later_alike links apart p.key number n.posts w.copies h.posts)
            (subst (λ (k : Key). later k number w.copies ≤ V) post.goes.key few)

        may : (V ≤ x.overtake) ⊎ IsShortNet n → machine.is_deliverable x n number p ≡ true
        may (inl few_enough) = may_arrive W x set bound n number p is_young (let less = are_few in omega arith)
        may (inr short) = short_may_arrive W x set bound n number p is_young (all_short n short p.key)

        on : IsDropped (told w c.to) y.link c.octets y.hears.before y.hears.after y.hears.outcome
            ⊎ IsHeardIn (reuses_in set c.to) (told w c.to) y.link c.octets y.hears.before y.hears.after y.hears.outcome → Follows e w w' n
        on (inl z) = dropped e (reuses_in set c.to) w w' n h c.to y.hears.before y.hears.after y.hears.outcome y.hears.at y.hears.acts y.link c.octets z
        on (inr z) = heard e w w' n h number p c post.there post.goes (may near) y.hears.before y.hears.after y.hears.outcome y.hears.at y.link link
            y.hears.acts z

    delivered : (a b : Bool) → nat_le (w.time.now - c.moment) w.time.pace.life ≡ a → nat_le (later c.key number w.copies) V ≡ b
        → DeliversIfSo (a && b) (reuses_in set) w c w' → Follows e w w' n
    delivered false b young few same = same_over e w w' n h same
    delivered true false young few same = same_over e w w' n h same
    delivered true true young few y = arrives (grind (arith, nat_tests)) (grind (arith, nat_tests)) y

  -- octets from outside: noise, or what a stranger sends
  outside : (e : Event) (w w' : World) (n : Net) → Over links apart W x set w n → (i : ℕ) (from octets : Octets)
      → IsMeaningless from octets ⊎ IsOfNone w.nodes from → HearsSo (reuses_in set i) w i from octets w' → Follows e w w' n
  outside e w w' n h i from octets fit d = on (heard_in (told w i) from octets d.before d.after d.outcome (reuses_in set i) d.on) fit
    where
      on : IsDropped (told w i) from octets d.before d.after d.outcome ⊎ IsHeardIn (reuses_in set i) (told w i) from octets d.before d.after d.outcome
          → IsMeaningless from octets ⊎ IsOfNone w.nodes from → Follows e w w' n
      on (inl z) fit = dropped e (reuses_in set i) w w' n h i d.before d.after d.outcome d.at d.acts from octets z
      on (inr z) (inl meaningless) = absurd (meaningless z.peer z.apdu z.means)
      on (inr z) (inr stranger) =
          let next = hears_stranger links apart W x set bound readable w w' n h i from stranger d.before d.after d.outcome d.at d.acts octets z in
          (next.0, next.1, λ long asks fits short. aside_short n next.0 next.2 short)

  -- Time.

  gone_later : (gone : Bool) (now after : ℕ) → now ≤ after → (o : Option ClientTransaction) → IsGone gone now o → IsGone gone after o
  gone_later gone now after le None h = record { over = refl; free = h.free }
  gone_later gone now after le (Some t) h = record { over = h.over; free = go gone h.free }
    where
      go : (b : Bool) → (not b && client.is_held now t) ≡ false → (not b && client.is_held after t) ≡ false
      go false unheld = ended_is_silent.later now after t le unheld
      go true unheld = refl

  ticket_later : (gone : Bool) (now after : ℕ) → now ≤ after → (notes : List Note) (i number : ℕ) (o : Option Client) (t : Option ClientTransaction)
      → TicketFits gone now notes i number o t → TicketFits gone after notes i number o t
  ticket_later gone now after le notes i number None t h = gone_later gone now after le t h
  ticket_later gone now after le notes i number (Some s) None h = absurd h
  ticket_later gone now after le notes i number (Some s) (Some t) h = h

  entry_later : (now after : ℕ) → now ≤ after → (a b : Option ServerTransaction) → EntryFits now a b → EntryFits after a b
  entry_later now after le a b h = sym (dead_is_none.later now after a le) ∙ ap (live_entry after) h ∙ dead_is_none.later now after b le

  pub advanced_over : (w : World) (n : Net) → Over links apart W x set w n → (by : ℕ) (own : ℕ → ℕ)
      → Over links apart W x set (record w { time = passes w.time by own }) (machine.passes n by own own)
  advanced_over w n h by own = record {
    now = ap (λ (t : ℕ). t + by) h.now;
    pace = h.pace;
    here = λ i. λ k. goes_on (h.pace k) by (own i) (h.here i k);
    there = λ i. λ k. goes_on (h.pace k) by (own i) (h.there i k);
    lives = λ i. lives_as n (machine.passes n by own own) i (w.lives i) refl refl refl refl refl (h.lives i);
    idle = h.idle;
    asks = h.asks;
    linked = h.linked;
    nodes = λ i a at. let f = h.nodes i a at in record {
      settings = f.settings;
      link = f.link;
      asks = f.asks;
      serves = f.serves;
      clients = record {
        distinct = f.clients.distinct;
        known = f.clients.known;
        found = λ s l id at'. ticket_later (is_lost n (key_of i s id)) (here_at n i) (goes_on n.pace by (own i) (n.client_clocks i)).shows
            (client_later W x set bound n h.sound (key_of i s id) by (own i)) w.notes i (n.numbers (key_of i s id))
            (value_at same_key (slot_key l id) a.clients.slots) (n.tickets (key_of i s id)) (f.clients.found s l id at');
        strangers = λ p g. ticket_later false (here_at n i) (goes_on n.pace by (own i) (n.client_clocks i)).shows
            (client_later W x set bound n h.sound (out_key i p) by (own i)) w.notes i (n.far.numbers (out_key i p))
            (value_at same_key p a.clients.slots) (n.far.tickets (out_key i p)) (f.clients.strangers p g);
      };
      servers = record {
        distinct = f.servers.distinct;
        known = f.servers.known;
        found = λ c l id at'. entry_later (there_at n i) (goes_on n.pace by (own i) (n.server_clocks i)).shows
            (server_later W x set bound n h.sound (key_of c i id) by (own i)) (value_at same_key (slot_key l id) a.servers.slots) (n.entries (key_of c i id))
            (f.servers.found c l id at');
        strangers = λ p g. entry_later (there_at n i) (goes_on n.pace by (own i) (n.server_clocks i)).shows
            (server_later W x set bound n h.sound (stranger_key i p) by (own i)) (value_at same_key p a.servers.slots) (n.far.entries (stranger_key i p))
            (f.servers.strangers p g);
      };
    };
    noted = h.noted;
    away = h.away;
    posts = h.posts;
    log = h.log;
    sound = passed W x set bound n by own own h.sound;
  }

  advanced : (e : Event) (w : World) (n : Net) → Over links apart W x set w n → (by : ℕ) (own : ℕ → ℕ) → Follows e w (record w { time = passes w.time by own }) n
  advanced e w n h by own = (
    machine.passes n by own own,
    record { bridge = advanced_over w n h by own; once = λ opening once. once },
    λ long asks fits short. same_short n (machine.passes n by own own) refl refl refl short,
  )

  -- A change at a node.

  -- what the net knows of a node is not its store
  other_store : (here there : ℕ) (notes : List Note) (n : Net) (i : ℕ) (o : Octets) (j : ℕ) (a : Node) (store : Store)
      → NodeFits links apart x here there notes n j a → NodeFits links apart x here there notes (notes_change n i o) j (record a { store = store })
  other_store here there notes n i o j a store f = record {
    settings = f.settings;
    link = f.link;
    asks = f.asks;
    serves = f.serves;
    clients = record { distinct = f.clients.distinct; known = f.clients.known; found = f.clients.found; strangers = f.clients.strangers };
    servers = record { distinct = f.servers.distinct; known = f.servers.known; found = f.servers.found; strangers = f.servers.strangers };
  }

  module _ (w w' : World) (n : Net) (h : Over links apart W x set w n) (i : ℕ) (c : at_node.Change) (s : IsChanged w i c w') where
    pub changed_over : Over links apart W x set w' (notes_change n i [])
    changed_over = record {
      now = h.now ∙ sym (ap (λ (t : Time). t.now) s.time);
      pace = h.pace ∙ sym (ap (λ (t : Time). t.pace) s.time);
      here = λ j. h.here j ∙ sym (ap (λ (t : Time). t.clocks j) s.time);
      there = λ j. h.there j ∙ sym (ap (λ (t : Time). t.clocks j) s.time);
      lives = λ j. subst (λ (lives : ℕ → Life). LifeFits (notes_change n i []) j (lives j)) (sym s.lives)
          (lives_as n (notes_change n i []) j (w.lives j) refl refl refl refl refl (h.lives j));
      idle = subst (λ (lives : ℕ → Life). AreIdle w'.nodes lives) (sym s.lives)
          (each_with (λ j b. (w.lives j).active ≡ false → IsFreshNode b) w.nodes w'.nodes i (with_change c s.before) s.nodes
          (λ off. changed_fresh c s.before (h.idle i s.before s.at off)) h.idle);
      asks = h.asks ∙ sym (ap (λ (l : List Note). length l) s.notes);
      linked = linked_with links w.nodes w'.nodes i s.before (with_change c s.before) s.nodes s.at refl h.linked;
      nodes = λ j a at. subst (λ (l : List Note). NodeFits links apart x (here_at n j) (there_at n j) l (notes_change n i []) j a) (sym s.notes)
          (each_with (λ k b. NodeFits links apart x (here_at n k) (there_at n k) w.notes (notes_change n i []) k b) w.nodes w'.nodes i
          (with_change c s.before) s.nodes
          (other_store (here_at n i) (there_at n i) w.notes n i [] i s.before (changed c s.before.store) (h.nodes i s.before s.at))
          (λ k b there. other_store (here_at n k) (there_at n k) w.notes n i [] k b b.store (h.nodes k b there)) j a at);
      noted = λ key t is. ap (newest key) s.notes ∙ h.noted key t is;
      away = subst (λ (l : List Note). AwayNoted l n) (sym s.notes) h.away;
      posts = subst (λ (l : List Copy). Pairwise (IsCopyOf links apart) n.posts l) (sym s.copies) h.posts;
      log = subst (λ (l : List Fact). Pairwise (FactMeans set) (notes_change n i []).log l) (sym s.log) (refl, h.log);
      sound = changes W x set bound n i [] h.sound;
    }

    stores_changed : (node : ℕ) → stores_of w'.nodes node ≡ with_changed i c (stores_of w.nodes) node
    stores_changed node = go (nat_eq node i) refl
      where
        store : Option Node → Option Store
        store o = option_map (λ (a : Node). a.store) o

        go : (b : Bool) → nat_eq node i ≡ b
            → stores_of w'.nodes node ≡ (if b then option_map (changed c) (stores_of w.nodes i) else stores_of w.nodes node)
        go true e =
            let same : node ≡ i = grind (arith, nat_tests) in
            ap (stores_of w'.nodes) same ∙ ap store s.nodes.here ∙ sym (ap (λ o. option_map (changed c) (store o)) s.at)
        go false e = ap store (s.nodes.others node (λ same. grind (arith, nat_tests)))

    may_change : MayChange i c (stores_of w.nodes) (stores_of w'.nodes)
    may_change = record {
      store = s.before.store;
      at = ap (λ (o : Option Node). option_map (λ (a : Node). a.store) o) s.at;
      permitted = s.may;
      stores = stores_changed;
    }

    changed_next : (e : Event) → Follows e w w' n
    changed_next e = (
      notes_change n i [],
      record {
        bridge = changed_over;
        once = λ opening once. subst (λ (l : List Fact). IsOnceSo (ever_in set) opening l (stores_of w'.nodes)) (sym s.log) (stores_of w.nodes, may_change, once);
      },
      λ long asks fits short. same_short n (notes_change n i []) refl refl refl short,
    )

  -- Runs.

  -- copies that few enough others overtook arrive, or all, where transfers are short
  pub step_over : (V : ℕ) (w w' : World) (n : Net) → Over links apart W x set w n → (V ≤ x.overtake) ⊎ IsShortNet n → (e : Event)
      → WorldStepSo V (reuses_in set) w e w' → Follows e w w' n
  step_over V w w' n h near (Ask client server limits r) (inl s) =
      let next = asks_over links apart W x set bound w w' n h client server limits r s in
      (next.0, next.1, λ long asks fits short. next.2 long asks short)
  step_over V w w' n h near (Ask client server limits r) (inr s) = same_over (Ask client server limits r) w w' n h s.same
  step_over V w w' n h near (AskAway client peer limits r) (inl s) =
      let next = asks_away_over links apart W x set bound w w' n h client peer limits r s in
      (next.0, next.1, λ long asks fits short. aside_short n next.0 next.2 short)
  step_over V w w' n h near (AskAway client peer limits r) (inr s) = same_over (AskAway client peer limits r) w w' n h s.same
  step_over V w w' n h near (Deliver number) s = delivered (Deliver number) V w w' n h near number s.copy s.there
      (nat_le (w.time.now - s.copy.moment) w.time.pace.life) (nat_le (later s.copy.key number w.copies) V) refl refl s.goes
  step_over V w w' n h near (Noise node from octets) (inl s) = outside (Noise node from octets) w w' n h node from octets (inl s.fit) s.hears
  step_over V w w' n h near (Noise node from octets) (inr s) = same_over (Noise node from octets) w w' n h s.same
  step_over V w w' n h near (Stray node from octets) (inl s) = outside (Stray node from octets) w w' n h node from octets (inr s.fit) s.hears
  step_over V w w' n h near (Stray node from octets) (inr s) = same_over (Stray node from octets) w w' n h s.same
  step_over V w w' n h near (Tick node) s =
      let next = tick_over links apart W x set bound w w' n h node s in
      (next.0, next.1, λ long asks fits short. leads_short x long n next.0 short (tick_leads links apart W x set bound w w' n h node s))
  step_over V w w' n h near (Advance by own) s = subst (λ (u : World). Follows (Advance by own) w u n) (sym s) (advanced (Advance by own) w n h by own)
  step_over V w w' n h near (Change node change) s = changed_next w w' n h node change s (Change node change)
  step_over V w w' n h near (Restart node exact store) s = (
    restarted_net n node exact,
    restarted_goes links apart W x set bound w w' n h node exact store s,
    λ long asks fits short. restarted_short (client_restarted n node exact) (same_short n (client_restarted n node exact) refl refl refl short)
        node exact None,
  )
  step_over V w w' n h near (Begin node exact) s = (
    begun n node exact,
    subst (λ (u : World). Goes links apart W x set w u (begun n node exact)) (sym s.is)
        (record { bridge = begun_over links apart W x set bound w w' n h node exact s; once = λ opening once. once }),
    λ long asks fits short. same_short n (begun n node exact) refl refl refl short,
  )
  step_over V w w' n h near (BeginAgain node exact first_id store) s = (
    replaced_net n node exact,
    replaced_goes links apart W x set bound w w' n h node exact first_id store s,
    λ long asks fits short. restarted_short (next_client n node exact) (same_short n (next_client n node exact) refl refl refl short) node exact None,
  )

  pub run_over_so : (opening : Stores) (events : List Event) (w w' : World) (n : Net) → Over links apart W x set w n
      → IsOnceSo (ever_in set) opening w.log (stores_of w.nodes) → WorldRunSo x.overtake (reuses_in set) w events w'
      → (m : Net) × Over links apart W x set w' m × IsOnceSo (ever_in set) opening w'.log (stores_of w'.nodes)
  run_over_so opening [] w w' n h once run =
      subst (λ (u : World). (m : Net) × Over links apart W x set u m × IsOnceSo (ever_in set) opening u.log (stores_of u.nodes)) (sym run) (n, h, once)
  run_over_so opening (e ∷ es) w w' n h once run =
      let next = step_over x.overtake w run.0 n h (inl (omega arith)) e run.1 in
      run_over_so opening es run.0 w' next.0 next.1.bridge (next.1.once opening once) run.2

  -- where all ends take long APDUs
  pub run_over_long : AllTakeLong x → (V : ℕ) (opening : Stores) (events : List Event) (w w' : World) (n : Net) → Over links apart W x set w n → IsShortNet n
      → AllAskLong events → RepliesFit w'.log → IsOnceSo (ever_in set) opening w.log (stores_of w.nodes) → WorldRunSo V (reuses_in set) w events w'
      → (m : Net) × Over links apart W x set w' m × IsOnceSo (ever_in set) opening w'.log (stores_of w'.nodes) × IsShortNet m
  run_over_long long V opening [] w w' n h short asks fits once run =
      subst (λ (u : World). (m : Net) × Over links apart W x set u m × IsOnceSo (ever_in set) opening u.log (stores_of u.nodes) × IsShortNet m) (sym run)
      (n, h, once, short)
  run_over_long long V opening (e ∷ es) w w' n h short asks fits once run =
      let next = step_over V w run.0 n h (inr short) e run.1 in
      run_over_long long V opening es run.0 w' next.0 next.1.bridge
      (next.2 long asks.0 (run_fits V (reuses_in set) es run.0 w' run.2 fits) short) asks.1 fits (next.1.once opening once) run.2

  -- and one event more
  pub once_more : (V : ℕ) (w w' : World) (n : Net) → Over links apart W x set w n → IsShortNet n → (e : Event) → WorldStepSo V (reuses_in set) w e w'
      → (m : Net) × Over links apart W x set w' m
  once_more V w w' n h short e s = let next = step_over V w w' n h (inr short) e s in (next.0, next.1.bridge)

-- where no invoke ID is used again
pub run_over : (links : ℕ → Option Octets) (apart : (i j : ℕ) (l : Octets) → links i ≡ Some l → links j ≡ Some l → i ≡ j) (W : ℕ) (x : Rules)
    → claims.IsBounded W x → x.readable ≡ reads_reply → (opening : Stores) (events : List Event) (w w' : World) (n : Net) → Over links apart W x None w n
    → IsOnce opening w.log (stores_of w.nodes) → WorldRun x.overtake w events w'
    → (m : Net) × Over links apart W x None w' m × IsOnce opening w'.log (stores_of w'.nodes)
run_over links apart W x bound readable opening events w w' n h once run =
    let m = run_over_so links apart W x None bound readable opening events w w' n h (once_as (reuses_in None) opening w.log (stores_of w.nodes) once)
    (run_as x.overtake w events w' run) in
    (m.0, m.1, once_ever (reuses_in None) (λ node. refl) opening w'.log (stores_of w'.nodes) m.2)

-- A fresh world.

abbrev pub settings_or : Option Node → Settings
settings_or None = record { limits = record { takes_segments = false; max_segments = 0; max_apdu = 5 }; window = 0 }
settings_or (Some a) = a.settings

abbrev pub rules_of : (overtake : ℕ) → World → Rules
rules_of overtake w = record { settings = λ i. settings_or (slice_get w.nodes i); readable = reads_reply; overtake = overtake }

pub rules_bounded : (W overtake : ℕ) (w : World) → IsBounded W overtake w → claims.IsBounded W (rules_of overtake w)
rules_bounded W overtake w b = record { some = b.some; windows = λ i. go (slice_get w.nodes i) (b.windows i); room = b.room }
  where
    go : (o : Option Node) → ((a : Node) → o ≡ Some a → a.settings.window ≤ W) → (settings_or o).window ≤ W
    go None h = omega arith
    go (Some a) h = h a refl

pub fresh_over : (set : Setting) (W overtake : ℕ) (w : World) → (h : IsFresh w) → IsTimely w.time.pace → (b : IsBounded W overtake w)
    → Over (link_at w.nodes) h.apart W (rules_of overtake w) set w (net_start w.time.pace (λ i. (w.time.clocks i).exact))
fresh_over set W overtake w h timely b = record {
  now = sym h.now;
  pace = refl;
  here = λ i. sym (h.clocks i);
  there = λ i. sym (h.clocks i);
  lives = λ i. subst (λ (l : Life). LifeFits (net_start w.time.pace (λ j. (w.time.clocks j).exact)) i l) (sym (h.lives i)) (record {
    active = λ off. refl;
    sends = refl;
    none = λ off. record { tickets = λ k is. refl; far_tickets = λ k is. refl; entries = λ k is. refl; far_entries = λ k is. refl };
  });
  idle = λ i a at off. h.nodes i a at;
  asks = sym (ap (λ (l : List Note). length l) h.notes);
  linked = λ i. refl;
  nodes = λ i a at. let f = h.nodes i a at in record {
    settings = sym (ap settings_or at);
    link = ap (λ (o : Option Node). option_map (λ (n : Node). n.link) o) at;
    asks = f.asks_from;
    serves = f.serves_from;
    clients = record {
      distinct = subst (IsDistinct same_key) (sym f.slots) tt;
      known = subst (EachSlot Client (λ p s. (IsKnown (link_at w.nodes) h.apart p ⊎ IsStranger (link_at w.nodes) h.apart p) × (s.number < a.clients.asked))) (sym f.slots) tt;
      found = λ s l id at'. subst (λ slots. TicketFits false (clock_at w.time.pace (w.time.clocks i).exact).shows w.notes i 0 (value_at same_key (slot_key l id) slots) None) (sym f.slots)
          (record { over = refl; free = refl });
      strangers = λ p g. subst (λ slots. TicketFits false (clock_at w.time.pace (w.time.clocks i).exact).shows w.notes i 0 (value_at same_key p slots) None) (sym f.slots)
          (record { over = refl; free = refl });
    };
    servers = record {
      distinct = subst (IsDistinct same_key) (sym f.entries) tt;
      known = subst (EachSlot ServerTransaction (λ p d. IsKnown (link_at w.nodes) h.apart p ⊎ IsStranger (link_at w.nodes) h.apart p)) (sym f.entries) tt;
      found = λ c l id at'. subst (λ slots. EntryFits (clock_at w.time.pace (w.time.clocks i).exact).shows (value_at same_key (slot_key l id) slots) None) (sym f.entries) refl;
      strangers = λ p g. subst (λ slots. EntryFits (clock_at w.time.pace (w.time.clocks i).exact).shows (value_at same_key p slots) None) (sym f.entries) refl;
    };
  };
  noted = λ key t at. absurd cc;
  away = λ key t at. absurd cc;
  posts = subst (λ (l : List Copy). Pairwise (IsCopyOf (link_at w.nodes) h.apart) [] l) (sym h.copies) tt;
  log = subst (λ (l : List Fact). Pairwise (FactMeans set) [] l) (sym h.log) tt;
  sound = starts W (rules_of overtake w) set w.time.pace timely (λ i. (w.time.clocks i).exact);
}

pub headline_so : (u : Reuses) (W overtake : ℕ) (w w' : World) → IsFresh w → IsTimely w.time.pace → IsBounded W overtake w → (events : List Event)
    → WorldRunSo overtake u w events w' → IsOnceSo u (stores_of w.nodes) w'.log (stores_of w'.nodes)
headline_so u W overtake w w' h timely b events run =
    (run_over_so (link_at w.nodes) h.apart W (rules_of overtake w) (Some (always u)) (rules_bounded W overtake w b) refl (stores_of w.nodes) events w w'
    (net_start w.time.pace (λ i. (w.time.clocks i).exact)) (fresh_over (Some (always u)) W overtake w h timely b)
    (subst (λ (l : List Fact). IsOnceSo u (stores_of w.nodes) l (stores_of w.nodes)) (sym h.log) (λ node. refl))
    run).2

-- Where no invoke ID is used again.

-- what strangers had performed is apart, since it is in the net
pub apart_as : (links : ℕ → Option Octets) (apart : (i j : ℕ) (l : Octets) → links i ≡ Some l → links j ≡ Some l → i ≡ j) (W : ℕ) (x : Rules) (set : Setting)
    (w' : World) (m : Net) → Over links apart W x set w' m → Pairwise (FactMeans None) m.log w'.log → claims.AreServedApart m → AreServedApart w'
apart_as links apart W x set w' m over log known = record {
  spaced = spaced m.log w'.log log known.spaced;
  waited = λ i node at q d begin request reply has.
      let served = served_as i q i d begin request reply m.log w'.log log has in
      let le = known.waited (number q) i d begin served.request served.reply served.has in
      subst (λ (from : ℕ). from ≤ begin) (sym (over.nodes i node at).serves) le;
}

apart_of : (W : ℕ) (x : Rules) → claims.IsBounded W x → (links : ℕ → Option Octets)
    → (apart : (i j : ℕ) (l : Octets) → links i ≡ Some l → links j ≡ Some l → i ≡ j) (w' : World) (m : Net) → Over links apart W x None w' m → AreServedApart w'
apart_of W x bound links apart w' m over = apart_as links apart W x None w' m over over.log (served_apart_of W x bound m over.sound)

module _ (W overtake : ℕ) (w w' : World) (h : IsFresh w) (timely : IsTimely w.time.pace) (b : IsBounded W overtake w) (events : List Event)
    (run : WorldRun overtake w events w') where
  reached : (m : Net) × Over (link_at w.nodes) h.apart W (rules_of overtake w) None w' m × IsOnce (stores_of w.nodes) w'.log (stores_of w'.nodes)
  reached = run_over (link_at w.nodes) h.apart W (rules_of overtake w) (rules_bounded W overtake w b) refl (stores_of w.nodes) events w w'
      (net_start w.time.pace (λ i. (w.time.clocks i).exact)) (fresh_over None W overtake w h timely b)
      (subst (λ (l : List Fact). IsOnce (stores_of w.nodes) l (stores_of w.nodes)) (sym h.log) (λ node. refl)) run

  pub headline : IsOnce (stores_of w.nodes) w'.log (stores_of w'.nodes)
  headline = reached.2

  pub apart_in_run : AreServedApart w'
  apart_in_run = apart_of W (rules_of overtake w) (rules_bounded W overtake w b) (link_at w.nodes) h.apart w' reached.0 reached.1

-- Where all nodes take long APDUs, whatever overtakes what.

-- the most later copies that may overtake one in a long transfer, of which there are none
abbrev pub room : (W : ℕ) → ℕ
room W = 255 - 2 * W

module _ (W : ℕ) (w : World) (t : TakeLongApdus W w) where
  pub long_bounded : IsBounded W (room W) w
  long_bounded = let twice = t.room in record { some = t.some; windows = t.windows; room = omega arith }

  pub all_take_long : AllTakeLong (rules_of (room W) w)
  all_take_long node = go (slice_get w.nodes node) (t.long node)
    where
      go : (o : Option Node) → ((a : Node) → o ≡ Some a → TakesLong a.settings.limits) → TakesLong (settings_or o).limits
      go None h = omega arith
      go (Some a) h = h a refl

module _ (set : Setting) (W overtake : ℕ) (w w' : World) (h : IsFresh w) (timely : IsTimely w.time.pace) (t : TakeLongApdus W w) (events : List Event)
    (asks : AllAskLong events) (run : WorldRunSo overtake (reuses_in set) w events w') (fits : RepliesFit w'.log) where
  reached_long : (m : Net) × Over (link_at w.nodes) h.apart W (rules_of (room W) w) set w' m
      × IsOnceSo (ever_in set) (stores_of w.nodes) w'.log (stores_of w'.nodes) × IsShortNet m
  reached_long = run_over_long (link_at w.nodes) h.apart W (rules_of (room W) w) set (rules_bounded W (room W) w (long_bounded W w t)) refl
      (all_take_long W w t) overtake (stores_of w.nodes) events w w' (net_start w.time.pace (λ i. (w.time.clocks i).exact))
      (fresh_over set W (room W) w h timely (long_bounded W w t)) (start_short w.time.pace (λ i. (w.time.clocks i).exact)) asks fits
      (subst (λ (l : List Fact). IsOnceSo (ever_in set) (stores_of w.nodes) l (stores_of w.nodes)) (sym h.log) (λ node. refl)) run

  -- with one event more at most, whatever it performs
  pub reached_once_more : (more : List Event) (v : World) → length more ≤ 1 → WorldRunSo overtake (reuses_in set) w' more v
      → (m : Net) × Over (link_at w.nodes) h.apart W (rules_of (room W) w) set v m
  reached_once_more [] v few last =
      subst (λ (y : World). (m : Net) × Over (link_at w.nodes) h.apart W (rules_of (room W) w) set y m) (sym last) (reached_long.0, reached_long.1)
  reached_once_more (e ∷ []) v few last =
      subst (λ (y : World). (m : Net) × Over (link_at w.nodes) h.apart W (rules_of (room W) w) set y m) (sym last.2)
      (once_more (link_at w.nodes) h.apart W (rules_of (room W) w) set (rules_bounded W (room W) w (long_bounded W w t)) refl overtake w' last.0 reached_long.0
      reached_long.1 reached_long.3 e last.1)
  reached_once_more (e ∷ f ∷ more) v few last = absurd (omega arith)

pub headline_long_so : (u : Reuses) (W overtake : ℕ) (w w' : World) → IsFresh w → IsTimely w.time.pace → TakeLongApdus W w → (events : List Event)
    → AllAskLong events → WorldRunSo overtake u w events w' → RepliesFit w'.log → IsOnceSo u (stores_of w.nodes) w'.log (stores_of w'.nodes)
headline_long_so u W overtake w w' h timely t events asks run fits = (reached_long (Some (always u)) W overtake w w' h timely t events asks run fits).2

module _ (W overtake : ℕ) (w w' : World) (h : IsFresh w) (timely : IsTimely w.time.pace) (t : TakeLongApdus W w) (events : List Event) (asks : AllAskLong events)
    (run : WorldRun overtake w events w') (fits : RepliesFit w'.log) where
  reached_long_ever : (m : Net) × Over (link_at w.nodes) h.apart W (rules_of (room W) w) None w' m
      × IsOnceSo (reuses_in None) (stores_of w.nodes) w'.log (stores_of w'.nodes) × IsShortNet m
  reached_long_ever = reached_long None W overtake w w' h timely t events asks (run_as overtake w events w' run) fits

  pub headline_long : IsOnce (stores_of w.nodes) w'.log (stores_of w'.nodes)
  headline_long = once_ever (reuses_in None) (λ node. refl) (stores_of w.nodes) w'.log (stores_of w'.nodes) reached_long_ever.2

  pub apart_long : AreServedApart w'
  apart_long = apart_of W (rules_of (room W) w) (rules_bounded W (room W) w (long_bounded W w t)) (link_at w.nodes) h.apart w' reached_long_ever.0
      reached_long_ever.1
