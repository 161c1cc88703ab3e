-- A copy reaches its server.
use Rattle.std.proofs.Common.{◌≡◌, ℕ, ◌-◌, ◌≤◌, ◌≢◌, ◌⊎◌, Bool, true, false, ◌&&◌, not, List, [], ◌∷◌, map, count_by, Option, Some, None, slice_get}
use Rattle.std.proofs.Common.{if◌then◌else◌, nat_eq, nat_lt, refl, sym, ap, subst, inl, inr, ◌∙◌, arith}
use Rattle.std.proofs.lemmas.Bool.Decides.{nat_tests}
use Rattle.std.specs.Option.{option_map}
use Rattle.bac_apdu.specs.Apdu.{Apdu}
use Rattle.bac_apdu.specs.Apdu.Apdu.{ConfirmedRequest, UnconfirmedRequest, SimpleAck, ComplexAck, SegmentAck, Error, Reject, Abort}
use Rattle.bac_service.specs.Values.{Request, choice_of}
use Rattle.bac_service.proofs.OnlySpelling.{one_request}
use Rattle.bac_store.specs.Changes as change
use Rattle.bac_protocol.specs.Context.{Settings, Context}
use Rattle.bac_protocol.specs.Service.{Octets}
use Rattle.bac_protocol.specs.Wire.{is_from_client, is_from_server, Each}
use Rattle.bac_protocol.specs.Own.{invoke_id_of, IsOfServer}
use Rattle.bac_protocol.specs.Client.{ClientTransaction, request_of}
use Rattle.bac_protocol.specs.Server as server
use Rattle.bac_protocol.specs.Server.{ServerTransaction, Effect, Service, live_entry}
use Rattle.bac_protocol.specs.Reuse.{server_hears}
use Rattle.bac_protocol.specs.Log as octets
use Rattle.bac_protocol.specs.Transaction.{Key, Rules, performed, server_context}
use Rattle.bac_protocol.specs.World.{Net, Post, server_acts, set_at, post_of}
use Rattle.bac_protocol.specs.World as machine
use Rattle.bac_protocol.specs.Claims.{IsBounded}
use Rattle.bac_protocol.specs.Steps.{IsSameReaction}
use Rattle.bac_protocol.proofs.Keys.{set_same, set_other, decide_key}
use Rattle.bac_reuse.specs.Moves.{IsOrderlySo}
use Rattle.bac_slots.specs.Slots.{value_at}
use Rattle.bac_transaction.specs.Keys.{PeerKey, same_key}
use Rattle.bac_transaction.specs.Sends.{Pairwise, IsSent, to_all}
use Rattle.bac_transaction.specs.Ends.{ServerEnd, ServerSlot, act_at, is_free, is_slot_live, put_entry}
use Rattle.bac_transaction.specs.Reuse.{is_read}
use Rattle.bac_world.specs.Services.{Performed, ArePerformed, store_after}
use Rattle.bac_world.specs.Node.{Node, Outcome, IsServerTurn}
use Rattle.bac_world.specs.Once.{Fact, Has, IsUnperformed, Stores}
use Rattle.bac_world.specs.ReusingLogs.{IsOnceSo, MayPerformSo}
use Rattle.bac_world.specs.ReusingWorlds.{ActsSo, AreLoggedSo}
use Rattle.bac_world.specs.World.{World, Note, Copy, stores_of, IsOfNone, IsWithNode, IsLogged, AreEnded, newest, peer_at, AreCopied}
use Rattle.bac_protocol.specs.World.{server_now}
use Rattle.bac_world.specs.World.{told}
use Rattle.bac_world.proofs.Bridge.{here_at, there_at}
use Rattle.bac_protocol.specs.Pace.{Clock}
use Rattle.bac_world.proofs.Machines.{Sound, orderly, asked_of, own_of, gets_at_server, may_arrive, ticket_of}
use Rattle.bac_reuse.proofs.Orderly.{one_ask}
use Rattle.bac_world.proofs.Settings.{Setting, reuses_in, reusing_in, end_heard, free_for, hears_at, ever_in}
use Rattle.bac_world.proofs.Pairs.{pairwise_join}
use Rattle.bac_world.proofs.Logs.{FactMeans, WasAskedAs, asked_as, unperformed}
use Rattle.bac_world.proofs.Bridge.{NodeFits, ServersFit, IsKnown, IsStranger, IsCopyOf, IsWay, EntryFits, key_of, slot_key, stranger_key, copies_of, copied_to}
use Rattle.bac_world.proofs.Steps.{Over, Fits, Goes, served_elsewhere, set_elsewhere, acts_over, once_same, stores_same}
use Rattle.bac_transaction.proofs.Entries.{entry_here, entry_there, entry_distinct, entry_each}
use Rattle.bac_world.proofs.Reused.{AreLeft, alike_by_live, heard_left, heard_none, hears_own, hears_same}

-- what a server sends is no client's
server_is_no_client : (a : Apdu) → is_from_server a ≡ true → is_from_client a ≡ false
server_is_no_client (ConfirmedRequest limits i g choice o) e = absurd cc
server_is_no_client (UnconfirmedRequest choice o) e = absurd cc
server_is_no_client (SimpleAck i choice) e = refl
server_is_no_client (ComplexAck i g choice o) e = refl
server_is_no_client (SegmentAck true i ack) e = refl
server_is_no_client (SegmentAck false i ack) e = absurd cc
server_is_no_client (Error i choice class code) e = refl
server_is_no_client (Reject i r) e = refl
server_is_no_client (Abort true i r) e = refl
server_is_no_client (Abort false i r) e = absurd cc

pub each_of_server : (id : ℕ) (sends : List Apdu) → Each (IsOfServer id) sends → Each (λ y. (is_from_client y ≡ false) × (invoke_id_of y ≡ id)) sends
each_of_server id [] h = tt
each_of_server id (a ∷ sends) h = ((server_is_no_client a h.0.0, h.0.1), each_of_server id sends h.1)

-- where a slot is free its server does not wait
pub room_is : (n : Net) (key : Key) (e : ServerEnd) → e.serves_from ≡ n.serves_from key.server → machine.is_room n key (is_free (server_now n key) e) ≡ is_free (server_now n key) e
room_is n key e from =
    ap (λ (y : ℕ). is_free (server_now n key) e && not (nat_lt (server_now n key) y)) (sym from)
    ∙ twice (nat_lt (count_by (is_slot_live (server_now n key)) e.slots) e.capacity) (not (nat_lt (server_now n key) e.serves_from))
  where
    twice : (a b : Bool) → ((a && b) && b) ≡ (a && b)
    twice true true = refl
    twice true false = refl
    twice false b = refl

-- nor where the end allows one that is free
pub room_for : (n : Net) (key : Key) (allowed : Bool) (e : ServerEnd) → e.serves_from ≡ n.serves_from key.server
    → machine.is_room n key (allowed && is_free (server_now n key) e) ≡ (allowed && is_free (server_now n key) e)
room_for n key true e from = room_is n key e from
room_for n key false e from = refl

module _ (links : ℕ → Option Octets) (apart : (i j : ℕ) (l : Octets) → links i ≡ Some l → links j ≡ Some l → i ≡ j) (W : ℕ) (x : Rules)
    (set : Setting) where
  -- two keys at a server are one where the slots' keys are
  pub one_client : (key : Key) (l : Octets) → links key.client ≡ Some l → (c : ℕ) (m : Octets) (id : ℕ) → links c ≡ Some m
      → slot_key l key.invoke_id ≡ slot_key m id → key ≡ key_of c key.server id
  one_client key l at c m id at' is =
      let link : l ≡ m = ap (λ (q : PeerKey). q.peer.link) is in
      let node : key.client ≡ c = apart key.client c m (at ∙ ap Some link) at' in
      λ i. key_of (node i) key.server (is i).invoke_id

  -- the server end after an entry was put, where the net sets one that is the same while it is live
  module _ (now : ℕ) (n : Net) (key : Key) (l : Octets) (at : links key.client ≡ Some l) (v u : server.Reaction)
      (same : live_entry now v.entry ≡ live_entry now u.entry) (e : ServerEnd) (h : ServersFit links apart now n key.server e) (slots : List ServerSlot)
      (left : AreLeft (slot_key l key.invoke_id) e.slots slots)
      (none : live_entry now v.entry ≡ None → live_entry now (value_at same_key (slot_key l key.invoke_id) slots) ≡ None) where
    abbrev p : PeerKey
    p = slot_key l key.invoke_id

    found : (c : ℕ) (m : Octets) (id : ℕ) → links c ≡ Some m → ((key ≡ key_of c key.server id) ⊎ (key ≡ key_of c key.server id → ⊥))
        → EntryFits now (value_at same_key (slot_key m id) (put_entry now p v.entry slots)) (set_at n.entries key u.entry (key_of c key.server id))
    found c m id at' (inl is) =
        let link : l ≡ m = let f : Some l ≡ Some m = sym at ∙ ap (λ (k : Key). links k.client) is ∙ at' in cc in
        let there : slot_key m id ≡ p = λ i. slot_key (sym link i) (sym is i).invoke_id in
        ap (λ (q : PeerKey). live_entry now (value_at same_key q (put_entry now p v.entry slots))) there
        ∙ entry_here now p slots (left.distinct h.distinct) v.entry none ∙ same
        ∙ ap (live_entry now) (sym (set_same n.entries key u.entry) ∙ ap (set_at n.entries key u.entry) is)
    found c m id at' (inr ne) =
        let away : p ≡ slot_key m id → ⊥ = λ is. ne (one_client key l at c m id at' is) in
        entry_there now p slots (left.distinct h.distinct) v.entry (slot_key m id) away ∙ ap (live_entry now) (left.others (slot_key m id) away)
        ∙ h.found c m id at' ∙ ap (live_entry now) (sym (set_other n.entries key u.entry (key_of c key.server id) ne))

    strangers : (q : PeerKey) → IsStranger links apart q
        → EntryFits now (value_at same_key q (put_entry now p v.entry slots)) (n.far.entries (stranger_key key.server q))
    strangers q g =
        let away : p ≡ q → ⊥ = λ is. g.none key.client (at ∙ ap (λ (y : PeerKey). Some y.peer.link) is) in
        entry_there now p slots (left.distinct h.distinct) v.entry q away ∙ ap (live_entry now) (left.others q away) ∙ h.strangers q g

    pub end_fits : ServersFit links apart now (server_acts n key u) key.server (record e { slots = put_entry now (slot_key l key.invoke_id) v.entry slots })
    end_fits = record {
      distinct = entry_distinct now p slots (left.distinct h.distinct) v.entry;
      known = entry_each now p slots (left.distinct h.distinct) (λ q d. IsKnown links apart q ⊎ IsStranger links apart q) v.entry
          (λ d. inl (record { node = key.client; link = l; at = at; peer = refl })) (left.each (λ q d. IsKnown links apart q ⊎ IsStranger links apart q) h.known);
      found = λ c m id at'. found c m id at' (decide_key key (key_of c key.server id));
      strangers = strangers;
    }

  -- other nodes see nothing of it
  pub others_fit : (here there : ℕ) (notes : List Note) (n : Net) (key : Key) (u : server.Reaction) (j : ℕ) (a : Node) → (j ≡ key.server → ⊥)
      → NodeFits links apart x here there notes n j a → NodeFits links apart x here there notes (server_acts n key u) j a
  others_fit here there notes n key u j a ne h = record {
    settings = h.settings;
    link = h.link;
    asks = h.asks;
    serves = h.serves;
    clients = record { distinct = h.clients.distinct; known = h.clients.known; found = h.clients.found; strangers = h.clients.strangers };
    servers = record {
      distinct = h.servers.distinct;
      known = h.servers.known;
      found = λ c l id at. h.servers.found c l id at
          ∙ ap (live_entry there) (sym (set_other n.entries key u.entry (key_of c j id) (λ is. ne (sym (ap (λ (k : Key). k.server) is)))));
      strangers = h.servers.strangers;
    };
  }

  -- What was performed enters the log as values.

  pub record Logged (w w' : World) (log : List octets.Fact) : Type 0 where
    pub log_means : Pairwise (FactMeans set) log w'.log
    pub once : (opening : Stores) → IsOnceSo (ever_in set) opening w.log (stores_of w.nodes) → IsOnceSo (ever_in set) opening w'.log (stores_of w'.nodes)

  module _ (bound : IsBounded W x) (w w' : World) (n : Net) (h : Over links apart W x set w n) (key : Key) (l : Octets) (at : links key.client ≡ Some l)
      (t : ClientTransaction) (is : n.tickets key ≡ Some t) (a b : Node) (node : slice_get w.nodes key.server ≡ Some a)
      (nodes : IsWithNode w.nodes key.server b w'.nodes) where
    -- a request was performed
    module _ (e : Effect) (d : Performed) (done : ArePerformed a.store (act_at (slot_key l key.invoke_id) (Some e)) (Some d))
        (store : b.store ≡ change.after a.store d.request) (logged : IsLogged w.nodes w.notes key.server d w.log w'.log)
        (right : IsOrderlySo (reusing_in set) (performed (n.numbers key) (Some e) n.log)) where
      client_is : logged.client ≡ key.client
      client_is = apart logged.client key.client l (sym (h.linked logged.client) ∙ logged.link ∙ ap (λ q. Some q.peer.link) done.key) at

      number_is : logged.number ≡ n.numbers key
      number_is =
          let mine : newest key w.notes ≡ Some logged.number =
          ap (λ (k : Key). newest k w.notes) (λ i. key_of (sym client_is i) key.server (sym done.key i).invoke_id) ∙ logged.noted in
          let f : Some (n.numbers key) ≡ Some logged.number = sym (h.noted key t is) ∙ mine in
          cc

      log_is : w'.log ≡ Fact.Performed (n.numbers key) d.request d.reply ∷ w.log
      log_is = logged.log ∙ ap (λ (m : ℕ). Fact.Performed m d.request d.reply ∷ w.log) number_is

      one : (key.server ≡ right.0.1) × (request_of t.ask ≡ e.request)
      one = one_ask (reusing_in set) n.log right.1 (n.numbers key) key.client key.server right.0.0 right.0.1 (request_of t.ask) e.request
          (asked_of W x set bound n h.sound key t is) right.0.2

      asked : WasAskedAs (n.numbers key) key.client key.server e.request w.log
      asked = asked_as set (n.numbers key) key.client key.server e.request n.log w.log h.log
          (subst (λ q. octets.Has (octets.Fact.Asked (n.numbers key) key.client key.server q) n.log) one.1 (asked_of W x set bound n h.sound key t is))

      request_is : asked.request ≡ d.request
      request_is = one_request e.request.choice asked.request d.request e.request.service asked.spelled done.what.request

      stores : (j : ℕ) → stores_of w'.nodes j ≡ (if nat_eq j key.server then Some (change.after a.store d.request) else stores_of w.nodes j)
      stores j = go (nat_eq j key.server) refl
        where
          go : (y : Bool) → nat_eq j key.server ≡ y
              → stores_of w'.nodes j ≡ (if y then Some (change.after a.store d.request) else stores_of w.nodes j)
          go true e =
              let is : j ≡ key.server = grind (arith, nat_tests) in
              ap (stores_of w'.nodes) is ∙ ap (λ (o : Option Node). option_map (λ (m : Node). m.store) o) nodes.here ∙ ap Some store
          go false e =
              let ne : j ≢ key.server = λ is. grind (arith, nat_tests) in
              ap (λ (o : Option Node). option_map (λ (m : Node). m.store) o) (nodes.others j ne)

      -- it was not performed before, or is a read
      first : (IsUnperformed (n.numbers key) w.log) ⊎ ((ever_in set key.server ≡ true) × (is_read (choice_of d.request) ≡ true))
      first = go right.0.3
        where
          go : (octets.IsUnperformed (n.numbers key) n.log ⊎ ((ever_in set right.0.1 ≡ true) × (is_read e.request.choice ≡ true)))
              → (IsUnperformed (n.numbers key) w.log) ⊎ ((ever_in set key.server ≡ true) × (is_read (choice_of d.request) ≡ true))
          go (inl un) = inl (unperformed set (n.numbers key) n.log w.log h.log un)
          go (inr read) = inr (ap (ever_in set) one.0 ∙ read.0, ap is_read (sym done.what.request.choice_is) ∙ read.1)

      performs : MayPerformSo (ever_in set) (n.numbers key) d.request d.reply w.log (stores_of w.nodes) (stores_of w'.nodes)
      performs = record {
        client = key.client;
        server = key.server;
        store = a.store;
        asked = subst (λ (r : Request). Has (Fact.Asked (n.numbers key) key.client key.server r) w.log) request_is asked.has;
        first = first;
        at = ap (λ (o : Option Node). option_map (λ (m : Node). m.store) o) node;
        reply = done.what.reply;
        stores = stores;
      }

      performs_one : Logged w w' (performed (n.numbers key) (Some e) n.log)
      performs_one = record {
        log_means = subst (λ (lg : List Fact). Pairwise (FactMeans set) (octets.Fact.Performed (n.numbers key) e.request e.reply ∷ n.log) lg) (sym log_is)
            ((refl, done.what.request, done.what.means), h.log);
        once = λ opening once. subst (λ (lg : List Fact). IsOnceSo (ever_in set) opening lg (stores_of w'.nodes)) (sym log_is) (stores_of w.nodes, performs, once);
      }

    logs : (reuse : Bool) (e : Option Effect) (d : Option Performed) → ArePerformed a.store (act_at (slot_key l key.invoke_id) e) d
        → b.store ≡ store_after a.store d → AreLoggedSo reuse w.nodes w.notes key.server b d w.log w'.log
        → IsOrderlySo (reusing_in set) (performed (n.numbers key) e n.log) → Logged w w' (performed (n.numbers key) e n.log)
    logs reuse None None done store logged right = same_log (go reuse logged)
      where
        go : (reuse : Bool) → AreLoggedSo reuse w.nodes w.notes key.server b None w.log w'.log → w'.log ≡ w.log
        go true is = is
        go false is = is

        same_log : w'.log ≡ w.log → Logged w w' n.log
        same_log is = record {
          log_means = subst (λ (lg : List Fact). Pairwise (FactMeans set) n.log lg) (sym is) h.log;
          once = λ opening once. subst (λ (lg : List Fact). IsOnceSo (ever_in set) opening lg (stores_of w'.nodes)) (sym is)
              (once_same (ever_in set) opening w.log (stores_of w.nodes) (stores_of w'.nodes) (stores_same w.nodes w'.nodes key.server a b nodes node store) once);
        }
    logs reuse None (Some d) done store logged right = absurd done
    logs reuse (Some e) None done store logged right = absurd done
    logs reuse (Some e) (Some d) done store logged right = go reuse logged
      where
        stranger : IsOfNone w.nodes d.key.peer.link → ⊥
        stranger none = none key.client (h.linked key.client ∙ at ∙ ap (λ (q : PeerKey). Some q.peer.link) (sym done.key))

        go : (reuse : Bool) → AreLoggedSo reuse w.nodes w.notes key.server b (Some d) w.log w'.log → Logged w w' (performed (n.numbers key) (Some e) n.log)
        go false (inl is) = performs_one e d done store is right
        go false (inr away) = absurd (stranger away.stranger)
        go true (inl is) = performs_one e d done store is right
        go true (inr away) = absurd (stranger away.stranger)

  -- An APDU of a client was heard.

  abbrev pub served_if : (allowed : Bool) → Net → Post → Service → Octets → ServerEnd → server.Reaction
  served_if allowed n p service l e =
      server_hears (reuses_in set p.key.server) (server_context x p.key (server_now n p.key)) service is_read (n.entries p.key)
      (free_for allowed (reuses_in set p.key.server) (server_now n p.key) (slot_key l p.key.invoke_id) p.copy.apdu e) p.copy.apdu

  abbrev pub served_so : Net → Post → Service → Octets → ServerEnd → server.Reaction
  served_so n p service l e = served_if true n p service l e

  module _ (bound : IsBounded W x) where
    pub serves_post : (w w' : World) (n : Net) → Over links apart W x set w n → (number : ℕ) (p : Post) (c : Copy) → slice_get n.posts number ≡ Some p
        → IsCopyOf links apart p c → machine.is_deliverable x n number p ≡ true
        → is_from_client p.copy.apdu ≡ true → c.from ≡ p.key.client → c.to ≡ p.key.server
        → (a b : Node) (o : Outcome) → slice_get w.nodes c.to ≡ Some a → (l : Octets) → links c.from ≡ Some l → (service : Service) → (allowed : Bool)
        → IsServerTurn (hears_at allowed (reuses_in set c.to) a.settings (told w c.to) service (slot_key l (invoke_id_of p.copy.apdu)) p.copy.apdu a.servers) (told w c.to) a b o
        → ActsSo (reuses_in set c.to) w c.to b o w'
        → Goes links apart W x set w w' (server_acts n p.key (served_if allowed n p service l a.servers))
        × ArePerformed a.store (act_at (slot_key l p.key.invoke_id) (served_if allowed n p service l a.servers).effect) o.performed
    serves_post w w' n h number p c at copied may up from_is to_is a b o node l link service allowed turn acts =
        (record { bridge = over; once = logged.once }, done)
      where
        key : Key
        key = p.key

        apdu : Apdu
        apdu = p.copy.apdu

        node' : slice_get w.nodes key.server ≡ Some a
        node' = subst (λ (i : ℕ). slice_get w.nodes i ≡ Some a) to_is node

        reuse : Bool
        reuse = reuses_in set key.server

        acts' : ActsSo reuse w key.server b o w'
        acts' = subst (λ (i : ℕ). ActsSo (reuses_in set i) w i b o w') to_is acts

        client_at : links key.client ≡ Some l
        client_at = subst (λ (i : ℕ). links i ≡ Some l) from_is link

        fits : Fits links apart W x set w n n key.server a
        fits = h.nodes key.server a node'

        s : Settings
        s = x.settings key.server

        there_is : there_at n key.server ≡ told w key.server
        there_is = ap (λ (y : Clock). y.shows) (h.there key.server)

        q : PeerKey
        q = slot_key l key.invoke_id

        turn' : IsServerTurn (hears_at allowed reuse s (there_at n key.server) service q apdu a.servers) (there_at n key.server) a b o
        turn' = subst (λ (y : Settings). IsServerTurn (hears_at allowed reuse y (there_at n key.server) service q apdu a.servers) (there_at n key.server) a b o) fits.settings
            (subst (λ (t : ℕ). IsServerTurn (hears_at allowed reuse a.settings t service q apdu a.servers) t a b o) (sym there_is)
            (subst (λ (id : ℕ). IsServerTurn (hears_at allowed reuse a.settings (told w key.server) service (slot_key l id) apdu a.servers) (told w key.server) a b o)
            copied.invoke
            (subst (λ (i : ℕ). IsServerTurn (hears_at allowed (reuses_in set i) a.settings (told w i) service (slot_key l (invoke_id_of apdu)) apdu a.servers) (told w i) a b o)
            to_is turn)))

        context : Context
        context = server_context x key (there_at n key.server)

        end : ServerEnd
        end = end_heard reuse (there_at n key.server) q apdu a.servers

        free : Bool
        free = free_for allowed reuse (there_at n key.server) q apdu a.servers

        gets : Option ServerTransaction → server.Reaction
        gets e = server_hears reuse context service is_read e free apdu

        v : server.Reaction
        v = gets (value_at same_key q a.servers.slots)

        u : server.Reaction
        u = gets (n.entries key)

        same : IsSameReaction (there_at n key.server) v u
        same = alike_by_live (there_at n key.server) gets (λ e. hears_same context service free reuse e apdu)
            (value_at same_key q a.servers.slots) (n.entries key) (fits.servers.found key.client l key.invoke_id client_at)

        m : Net
        m = server_acts n key u

        sound : Sound W x set m
        sound = gets_at_server W x set bound n h.sound number p at may up service free (room_for n key allowed end fits.serves)

        made : Node
        made = record a {
          latest = (there_at n key.server);
          servers = record end { slots = put_entry (there_at n key.server) q v.entry end.slots };
          store = store_after a.store o.performed;
        }

        made_fits : Fits links apart W x set w n m key.server made
        made_fits = record {
          settings = fits.settings;
          link = fits.link;
          asks = fits.asks;
          serves = fits.serves;
          clients = record { distinct = fits.clients.distinct; known = fits.clients.known; found = fits.clients.found; strangers = fits.clients.strangers };
          servers = end_fits (there_at n key.server) n key l client_at v u same.entry a.servers fits.servers end.slots
              (heard_left q reuse (there_at n key.server) apdu a.servers.slots)
              (heard_none q reuse context service free apdu a.servers.slots fits.servers.distinct);
        }

        ticket : (t : ClientTransaction) × (n.tickets key ≡ Some t)
        ticket = ticket_of W x set bound n h.sound number p at

        way : IsWay links apart false key key.server key.client a.link l
        way = record { between = (refl, refl); from = fits.link; to = client_at }

        own : Each (λ y. (is_from_client y ≡ false) × (invoke_id_of y ≡ key.invoke_id)) u.sends
        own = each_of_server key.invoke_id u.sends
            (hears_own context service free reuse (n.entries key) (own_of W x set bound n h.sound key) apdu)

        copies : Pairwise (IsCopyOf links apart) (map (post_of key n.now) u.sends) acts'.sent
        copies = copies_of links apart w.nodes h.linked n.now false key key.server key.client a.link l way u.sends o.sends acts'.sent own
            (subst (λ (l' : List Apdu). Pairwise IsSent (to_all (peer_at l) l') o.sends) same.sends turn'.sends)
            (copied_to links apart w.nodes h.linked n.now key.server key.client (peer_at l) client_at v.sends o.sends acts'.sent turn'.sends
            (subst (λ (t : ℕ). AreCopied w.nodes t key.server o.sends acts'.sent) (sym h.now) acts'.copied))

        done : ArePerformed a.store (act_at q u.effect) o.performed
        done = subst (λ (e : Option Effect). ArePerformed a.store (act_at q e) o.performed) same.effect turn'.performed

        between_is : acts'.between ≡ w.log
        between_is = subst (λ fs. AreEnded w.notes key.server fs w.log acts'.between) turn'.ended acts'.ended

        logged : Logged w w' (performed (n.numbers key) u.effect n.log)
        logged = logs bound w w' n h key l client_at ticket.0 ticket.1 a b node' acts'.nodes reuse u.effect o.performed done
            (ap (λ (d : Node). d.store) turn'.node)
            (subst (λ (lg : List Fact). AreLoggedSo reuse w.nodes w.notes key.server b o.performed lg w'.log) between_is acts'.logged)
            (orderly W x set bound m sound)

        over : Over links apart W x set w' m
        over = acts_over links apart W x set reuse w w' n m h key.server a b o node' acts' (record {
          now = refl;
          pace = refl;
          here = refl;
          there = refl;
          asked = refl;
          served = served_elsewhere key.server n.served;
          sends = refl;
          tickets = λ k ne. refl;
          far_tickets = λ k ne. refl;
          entries = set_elsewhere (λ (k : Key). k.server) n.entries key u.entry;
          far_entries = λ k ne. refl;
        }) refl h.noted h.away (ap (λ (d : Node). d.link) turn'.node)
            (subst (λ (d : Node). Fits links apart W x set w n m key.server d) (sym turn'.node) made_fits)
            (λ j d ne f. others_fit (here_at n j) (there_at n j) w.notes n key u j d ne f)
            (pairwise_join (IsCopyOf links apart) n.posts (map (post_of key n.now) u.sends) w.copies acts'.sent h.posts copies)
            logged.log_means sound

    -- one that few enough overtook
    pub serves : (w w' : World) (n : Net) → Over links apart W x set w n → (number : ℕ) (p : Post) (c : Copy) → slice_get n.posts number ≡ Some p
        → IsCopyOf links apart p c → n.now - p.copy.moment ≤ n.pace.life → machine.later p.key number n.posts ≤ x.overtake
        → is_from_client p.copy.apdu ≡ true → c.from ≡ p.key.client → c.to ≡ p.key.server
        → (a b : Node) (o : Outcome) → slice_get w.nodes c.to ≡ Some a → (l : Octets) → links c.from ≡ Some l → (service : Service)
        → IsServerTurn (hears_at true (reuses_in set c.to) a.settings (told w c.to) service (slot_key l (invoke_id_of p.copy.apdu)) p.copy.apdu a.servers) (told w c.to) a b o
        → ActsSo (reuses_in set c.to) w c.to b o w'
        → Goes links apart W x set w w' (server_acts n p.key (served_so n p service l a.servers))
        × ArePerformed a.store (act_at (slot_key l p.key.invoke_id) (served_so n p service l a.servers).effect) o.performed
    serves w w' n h number p c at copied young few up from_is to_is a b o node l link service turn acts =
        serves_post w w' n h number p c at copied (may_arrive W x set bound n number p young few) up from_is to_is a b o node l link service true turn acts
