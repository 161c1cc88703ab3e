-- A stranger's datagram reaches a node.
use Rattle.std.proofs.Common.{◌≡◌, ℕ, ◌≢◌, ◌<◌, ◌⊎◌, Bool, true, false, List, [], ◌∷◌, ◌++◌, Option, Some, None, slice_get}
use Rattle.std.proofs.Common.{if◌then◌else◌, nat_eq, refl, sym, ap, subst, inl, inr, ◌∙◌, arith}
use Rattle.std.proofs.lemmas.Bool.Decides.{nat_tests}
use Rattle.std.specs.Option.{option_map}
use Rattle.bac_apdu.specs.Apdu.{Apdu}
use Rattle.bac_npdu.specs.Peers.{PeerView}
use Rattle.bac_service.specs.Services.{reads_reply}
use Rattle.bac_store.specs.Changes as change
use Rattle.bac_protocol.specs.Context.{Settings, Context}
use Rattle.bac_protocol.specs.Service.{Octets, Readable}
use Rattle.bac_protocol.specs.Wire.{is_from_client}
use Rattle.bac_protocol.specs.Server as server
use Rattle.bac_protocol.specs.Server.{ServerTransaction, Effect, Service, live_entry}
use Rattle.bac_protocol.specs.Reuse.{server_hears}
use Rattle.bac_protocol.specs.Transaction.{Key, Rules, served, server_context}
use Rattle.bac_protocol.specs.World.{Net, server_acts_away, begin_of, set_at}
use Rattle.bac_protocol.specs.Claims.{IsBounded}
use Rattle.bac_protocol.specs.Steps.{IsSameReaction}
use Rattle.bac_protocol.proofs.Keys.{set_same, set_other, decide_key}
use Rattle.bac_slots.specs.Slots.{value_at, with_value}
use Rattle.bac_transaction.specs.Keys.{PeerKey, same_key}
use Rattle.bac_transaction.specs.Sends.{Pairwise, IsSent}
use Rattle.bac_transaction.specs.Meanings.{IsEndedView}
use Rattle.bac_transaction.specs.Ends.{Client, ClientEnd, ClientTurn, TransactionSlot, client_after, client_goes, requester_on_apdu_in_slot, stays, ServerEnd, ServerSlot, act_at, put_entry, requester_on_apdu_at, key_of as heard_key}
use Rattle.bac_transaction.specs.Reuse.{is_read}
use Rattle.bac_transaction.specs.Ends.TransactionSlot.{Open, Closed}
use Rattle.bac_transaction.proofs.KeyedSlots.{with_same, with_other, with_distinct, each_with, each_at}
use Rattle.bac_protocol.specs.Client as client
use Rattle.bac_protocol.specs.Client.{ClientTransaction, client_on_apdu}
use Rattle.bac_protocol.specs.Transaction.{client_context}
use Rattle.bac_protocol.specs.World.{client_acts_away}
use Rattle.bac_world.proofs.Leads.Leads.{Here, StraysToClient}
use Rattle.bac_world.proofs.Hearing.{Reached, reached_none, reacts_stranger}
use Rattle.bac_transaction.specs.Services.{service_of}
use Rattle.bac_world.specs.Services.{Performed, ArePerformed, store_after}
use Rattle.bac_world.specs.Node.{Node, Outcome, IsServerTurn, IsClientTurn}
use Rattle.bac_world.specs.Once.{Fact}
use Rattle.bac_world.specs.ReusingLogs.{IsOnceSo}
use Rattle.bac_world.specs.ReusingWorlds.{ActsSo, AreLoggedSo}
use Rattle.bac_protocol.specs.Pace.{Clock}
use Rattle.bac_world.specs.World.{World, told, Note, Copy, stores_of, link_at, IsLogged, IsWithNode, Acts, AreEnded}
use Rattle.bac_world.proofs.Machines.{Sound, strays_at_server, strays_at_client}
use Rattle.bac_world.proofs.Numbers.{number, number_one}
use Rattle.bac_protocol.specs.Steps.{IsEntryFor}
use Rattle.bac_protocol.specs.Server.{is_live}
use Rattle.bac_protocol.specs.declared.times.TheConstants.{KEEP}
use Rattle.bac_protocol.proofs.Served.{effects_are_kept}
use Rattle.std.proofs.Common.{◌-◌, nat_le}
use Rattle.bac_world.proofs.Pairs.{pairwise_none, append_none}
use Rattle.bac_world.proofs.Logs.{FactMeans, begun_if}
use Rattle.bac_world.proofs.Bridge.{here_at, there_at, NodeFits, ServersFit, IsKnown, IsStranger, IsCopyOf, EntryFits, key_of, slot_key, stranger_key, out_key, copied_none}
use Rattle.bac_world.proofs.Steps.{Over, Fits, Goes, served_elsewhere, set_elsewhere, acts_over, acts_quiet, once_same, stores_same}
use Rattle.bac_world.proofs.Settings.{Setting, reuses_in, end_heard, free_for, hears_at, ever_in, not_now}
use Rattle.bac_world.proofs.Serving.{Logged, room_for}
use Rattle.bac_world.proofs.Heard.{IsHeardIn, IsHeardInBy}
use Rattle.bac_world.proofs.Clients.{quiet, arrived}
use Rattle.bac_protocol.proofs.Aside.{IsAside, still_aside, client_aside, server_aside}
use Rattle.bac_transaction.proofs.Entries.{entry_here, entry_there, entry_distinct, entry_each}
use Rattle.bac_world.proofs.Reused.{AreLeft, alike_by_live, heard_left, heard_none, hears_same}
use Rattle.bac_world.proofs.Table.{none_left}

-- two keys of strangers are one where the slots' keys are
pub stranger_one : (i : ℕ) (p q : PeerKey) → stranger_key i p ≡ stranger_key i q → p ≡ q
stranger_one i p q is =
    let peer : p.peer ≡ q.peer = number_one p.peer q.peer (ap (λ (k : Key). k.client) is) in
    λ j. record { peer = peer j; invoke_id = (is j).invoke_id }

-- an entry in which a request was performed is live
pub live_for : (now : ℕ) (a : Apdu) (o : Option ServerTransaction) (d : ServerTransaction) → IsEntryFor now (live_entry now o) a d → is_live now d ≡ true
live_for now a None d h = let is = h.begin in grind (arith, nat_tests)
live_for now a (Some e) d h = go (is_live now e) refl h
  where
    go : (b : Bool) → is_live now e ≡ b → IsEntryFor now (if b then Some e else None) a d → is_live now d ≡ true
    go true live h = ap (λ (m : ℕ). nat_le (now - m) KEEP) h.begin ∙ live
    go false dead h = let is = h.begin in grind (arith, nat_tests)

live_one : (now : ℕ) (y d : ServerTransaction) → live_entry now (Some y) ≡ Some d → y ≡ d
live_one now y d e = go (is_live now y) e
  where
    go : (b : Bool) → (if b then Some y else None) ≡ Some d → y ≡ d
    go true e = cc
    go false e = absurd cc

module _ (links : ℕ → Option Octets) (apart : (i j : ℕ) (l : Octets) → links i ≡ Some l → links j ≡ Some l → i ≡ j) (W : ℕ) (x : Rules)
    (set : Setting) where
  -- other nodes see nothing of it
  pub others_fit_away : (here there : ℕ) (notes : List Note) (n : Net) (key : Key) (u : server.Reaction) (j : ℕ) (a : Node) → (j ≡ key.server → ⊥)
      → NodeFits links apart x here there notes n j a → NodeFits links apart x here there notes (server_acts_away n key u) j a
  others_fit_away here there notes n key u j a ne h = record {
    settings = h.settings;
    link = h.link;
    asks = h.asks;
    serves = h.serves;
    clients = record { distinct = h.clients.distinct; known = h.clients.known; found = h.clients.found; strangers = h.clients.strangers };
    servers = record {
      distinct = h.servers.distinct;
      known = h.servers.known;
      found = h.servers.found;
      strangers = λ p g. h.servers.strangers p g
          ∙ ap (live_entry there) (sym (set_other n.far.entries key u.entry (stranger_key j p) (λ is. ne (sym (ap (λ (k : Key). k.server) is)))));
    };
  }

  -- the server end after a stranger's entry was put
  module _ (now : ℕ) (n : Net) (i : ℕ) (p : PeerKey) (g : IsStranger links apart p) (v u : server.Reaction)
      (same : live_entry now v.entry ≡ live_entry now u.entry) (e : ServerEnd) (h : ServersFit links apart now n i e) (slots : List ServerSlot)
      (left : AreLeft p e.slots slots) (none : live_entry now v.entry ≡ None → live_entry now (value_at same_key p slots) ≡ None) where
    found : (c : ℕ) (m : Octets) (id : ℕ) → links c ≡ Some m
        → EntryFits now (value_at same_key (slot_key m id) (put_entry now p v.entry slots)) (n.entries (key_of c i id))
    found c m id at =
        let away : p ≡ slot_key m id → ⊥ = λ is. g.none c (at ∙ ap (λ (y : PeerKey). Some y.peer.link) (sym is)) in
        entry_there now p slots (left.distinct h.distinct) v.entry (slot_key m id) away ∙ ap (live_entry now) (left.others (slot_key m id) away)
        ∙ h.found c m id at

    strangers : (q : PeerKey) → IsStranger links apart q → ((stranger_key i p ≡ stranger_key i q) ⊎ (stranger_key i p ≡ stranger_key i q → ⊥))
        → EntryFits now (value_at same_key q (put_entry now p v.entry slots)) (set_at n.far.entries (stranger_key i p) u.entry (stranger_key i q))
    strangers q f (inl is) =
        ap (λ (y : PeerKey). live_entry now (value_at same_key y (put_entry now p v.entry slots))) (sym (stranger_one i p q is))
        ∙ entry_here now p slots (left.distinct h.distinct) v.entry none ∙ same
        ∙ ap (live_entry now) (sym (set_same n.far.entries (stranger_key i p) u.entry) ∙ ap (set_at n.far.entries (stranger_key i p) u.entry) is)
    strangers q f (inr ne) =
        entry_there now p slots (left.distinct h.distinct) v.entry q (λ is. ne (ap (stranger_key i) is))
        ∙ ap (live_entry now) (left.others q (λ is. ne (ap (stranger_key i) is))) ∙ h.strangers q f ∙ ap (live_entry now) (sym (set_other n.far.entries (stranger_key i p) u.entry (stranger_key i q) ne))

    pub stranger_fits : ServersFit links apart now (server_acts_away n (stranger_key i p) u) i (record e { slots = put_entry now p v.entry slots })
    stranger_fits = record {
      distinct = entry_distinct now p slots (left.distinct h.distinct) v.entry;
      known = entry_each now p slots (left.distinct h.distinct) (λ q d. IsKnown links apart q ⊎ IsStranger links apart q) v.entry (λ d. inr g)
          (left.each (λ q d. IsKnown links apart q ⊎ IsStranger links apart q) h.known);
      found = found;
      strangers = λ q f. strangers q f (decide_key (stranger_key i p) (stranger_key i q));
    }

  -- What was performed for it enters the log.
  module _ (w w' : World) (n : Net) (h : Over links apart W x set w n) (i : ℕ) (p : PeerKey) (g : IsStranger links apart p) (a b : Node)
      (node : slice_get w.nodes i ≡ Some a) (nodes : IsWithNode w.nodes i b w'.nodes) (begin : ℕ) where
    stores : (d : Performed) → b.store ≡ change.after a.store d.request → (j : ℕ)
        → stores_of w'.nodes j ≡ (if nat_eq j i then Some (change.after a.store d.request) else stores_of w.nodes j)
    stores d store j = go (nat_eq j i) refl
      where
        go : (y : Bool) → nat_eq j i ≡ y → stores_of w'.nodes j ≡ (if y then Some (change.after a.store d.request) else stores_of w.nodes j)
        go true e =
            let is : j ≡ i = grind (arith, nat_tests) in
            ap (stores_of w'.nodes) is ∙ ap (λ (o : Option Node). option_map (λ (m : Node). m.store) o) nodes.here ∙ ap Some store
        go false e =
            let ne : j ≢ i = λ is. grind (arith, nat_tests) in
            ap (λ (o : Option Node). option_map (λ (m : Node). m.store) o) (nodes.others j ne)

    -- it does, in an entry that began then, where its server lets no invoke ID be used again
    module _ (e : Effect) (d : Performed) (done : ArePerformed a.store (act_at p (Some e)) (Some d)) (store : b.store ≡ change.after a.store d.request) where
      served_one : (told : ℕ) → (ever_in set i ≡ false → told ≡ begin)
          → w'.log ≡ Fact.Served d.key.peer i d.key.invoke_id told d.request d.reply ∷ w.log
          → Logged links apart W x set w w' (served (stranger_key i p) begin (Some e) n.log)
      served_one told begun log = record {
        log_means = subst (λ (lg : List Fact). Pairwise (FactMeans set) (served (stranger_key i p) begin (Some e) n.log) lg) (sym log) (
          (
            ap (λ (y : PeerKey). number y.peer) done.key,
            refl,
            ap (λ (y : PeerKey). y.invoke_id) done.key,
            begun_if (ever_in set i) begin told begun,
            done.what.request,
            done.what.means,
          ),
          h.log,
        );
        once = λ opening once. subst (λ (lg : List Fact). IsOnceSo (ever_in set) opening lg (stores_of w'.nodes)) (sym log) (
          stores_of w.nodes,
          record {
            store = a.store;
            at = ap (λ (o : Option Node). option_map (λ (m : Node). m.store) o) node;
            reply = done.what.reply;
            stores = stores d store;
          },
          once,
        );
      }

      none_known : IsLogged w.nodes w.notes i d w.log w'.log → ⊥
      none_known known = g.none known.client (sym (h.linked known.client) ∙ known.link ∙ ap (λ (y : PeerKey). Some y.peer.link) done.key)

      served_logs : (reuse : Bool) → reuses_in set i ≡ reuse
          → (reuse ≡ false → (y : ServerTransaction) → value_at same_key p b.servers.slots ≡ Some y → y.begin ≡ begin)
          → AreLoggedSo reuse w.nodes w.notes i b (Some d) w.log w'.log → Logged links apart W x set w w' (served (stranger_key i p) begin (Some e) n.log)
      served_logs false is begun (inl known) = absurd (none_known known)
      served_logs false is begun (inr away) = served_one away.entry.begin
          (λ off. begun refl away.entry (ap (λ (y : PeerKey). value_at same_key y b.servers.slots) (sym done.key) ∙ away.kept)) away.log
      served_logs true is begun (inl known) = absurd (none_known known)
      served_logs true is begun (inr away) = served_one away.begin (λ off. absurd (let never : true ≡ false = sym is ∙ not_now set i off in cc)) away.log

    pub logs_stranger : (e : Option Effect) (d : Option Performed)
        → (reuses_in set i ≡ false → (x : Effect) → e ≡ Some x → (y : ServerTransaction) → value_at same_key p b.servers.slots ≡ Some y → y.begin ≡ begin)
        → ArePerformed a.store (act_at p e) d → b.store ≡ store_after a.store d → AreLoggedSo (reuses_in set i) w.nodes w.notes i b d w.log w'.log
        → Logged links apart W x set w w' (served (stranger_key i p) begin e n.log)
    logs_stranger None None begun done store logged = same_log (go (reuses_in set i) logged)
      where
        go : (reuse : Bool) → AreLoggedSo reuse w.nodes w.notes i b None w.log w'.log → w'.log ≡ w.log
        go true is = is
        go false is = is

        same_log : w'.log ≡ w.log → Logged links apart W x set w w' n.log
        same_log is = record {
          log_means = subst (λ (lg : List Fact). Pairwise (FactMeans set) n.log lg) (sym is) h.log;
          once = λ opening once. subst (λ (lg : List Fact). IsOnceSo (ever_in set) opening lg (stores_of w'.nodes)) (sym is)
              (once_same (ever_in set) opening w.log (stores_of w.nodes) (stores_of w'.nodes) (stores_same w.nodes w'.nodes i a b nodes node store) once);
        }
    logs_stranger None (Some d) begun done store logged = absurd done
    logs_stranger (Some e) None begun done store logged = absurd done
    logs_stranger (Some e) (Some d) begun done store logged =
        served_logs e d done store (reuses_in set i) refl (λ off. begun off e refl) logged

  -- the world goes on, and of the net only what is of strangers
  abbrev pub Aside : World → World → Net → Type 0
  Aside w w' n = (m : Net) × Goes links apart W x set w w' m × IsAside n m

  module _ (bound : IsBounded W x) where
    -- a stranger's request
    serves_stranger : (w w' : World) (n : Net) → Over links apart W x set w n → (i : ℕ) (p : PeerKey) → IsStranger links apart p → (apdu : Apdu)
        → is_from_client apdu ≡ true → (a b : Node) (o : Outcome) → slice_get w.nodes i ≡ Some a
        → (allowed : Bool)
        → IsServerTurn (hears_at allowed (reuses_in set i) a.settings (told w i) (service_of a.store) p apdu a.servers) (told w i) a b o
        → ActsSo (reuses_in set i) w i b o w' → Aside w w' n
    serves_stranger w w' n h i p g apdu up a b o node allowed turn acts = (m, record { bridge = over; once = logged.once }, server_aside n key (u reuse))
      where
        key : Key
        key = stranger_key i p

        fits : Fits links apart W x set w n n i a
        fits = h.nodes i a node

        service : Service
        service = service_of a.store

        reuse : Bool
        reuse = reuses_in set i

        turn' : IsServerTurn (hears_at allowed reuse (x.settings i) (there_at n i) service p apdu a.servers) (there_at n i) a b o
        turn' = subst (λ (y : Settings). IsServerTurn (hears_at allowed reuse y (there_at n i) service p apdu a.servers) (there_at n i) a b o) fits.settings
            (subst (λ (t : ℕ). IsServerTurn (hears_at allowed reuse a.settings t service p apdu a.servers) t a b o) (sym (ap (λ (y : Clock). y.shows) (h.there i))) turn)

        context : Context
        context = server_context x key (there_at n i)

        end : Bool → ServerEnd
        end r = end_heard r (there_at n i) p apdu a.servers

        free : Bool → Bool
        free r = free_for allowed r (there_at n i) p apdu a.servers

        gets : Bool → Option ServerTransaction → server.Reaction
        gets r e = server_hears r context service is_read e (free r) apdu

        v : Bool → server.Reaction
        v r = gets r (value_at same_key p a.servers.slots)

        u : Bool → server.Reaction
        u r = gets r (n.far.entries key)

        same : (r : Bool) → IsSameReaction (there_at n i) (v r) (u r)
        same r = alike_by_live (there_at n i) (gets r) (λ e. hears_same context service (free r) r e apdu)
            (value_at same_key p a.servers.slots) (n.far.entries key) (fits.servers.strangers p g)

        m : Net
        m = server_acts_away n key (u reuse)

        sound : Sound W x set m
        sound = strays_at_server W x set bound n h.sound key (free reuse) (room_for n key allowed (end reuse) fits.serves) service apdu up

        made : Node
        made = record a {
          latest = there_at n i;
          servers = record (end reuse) { slots = put_entry (there_at n i) p (v reuse).entry (end reuse).slots };
          store = store_after a.store o.performed;
        }

        made_fits : Fits links apart W x set w n m i made
        made_fits = record {
          settings = fits.settings;
          link = fits.link;
          asks = fits.asks;
          serves = fits.serves;
          clients = record { distinct = fits.clients.distinct; known = fits.clients.known; found = fits.clients.found; strangers = fits.clients.strangers };
          servers = stranger_fits (there_at n i) n i p g (v reuse) (u reuse) (same reuse).entry a.servers fits.servers (end reuse).slots
              (heard_left p reuse (there_at n i) apdu a.servers.slots)
              (heard_none p reuse context service (free reuse) apdu a.servers.slots fits.servers.distinct);
        }

        sent_is : acts.sent ≡ []
        sent_is = copied_none links apart w.nodes h.linked w.time.now i p g (v reuse).sends o.sends acts.sent turn'.sends acts.copied

        posts : Pairwise (IsCopyOf links apart) n.posts (w.copies ++ acts.sent)
        posts = subst (λ (l : List Copy). Pairwise (IsCopyOf links apart) n.posts l)
            (sym (ap (λ (l : List Copy). w.copies ++ l) sent_is ∙ append_none w.copies)) h.posts

        done : ArePerformed a.store (act_at p (u reuse).effect) o.performed
        done = subst (λ (e : Option Effect). ArePerformed a.store (act_at p e) o.performed) (same reuse).effect turn'.performed

        between_is : acts.between ≡ w.log
        between_is = subst (λ fs. AreEnded w.notes i fs w.log acts.between) turn'.ended acts.ended

        -- where no invoke ID is used again, what was performed is kept in the entry
        begun : (r : Bool) → r ≡ false → b.servers.slots ≡ put_entry (there_at n i) p (v r).entry (end r).slots → (e : Effect) → (u r).effect ≡ Some e
            → (y : ServerTransaction) → value_at same_key p b.servers.slots ≡ Some y → y.begin ≡ begin_of (u r).entry
        begun true off slots e is y at = absurd cc
        begun false off slots e is y at =
            let k = effects_are_kept.gets context service (n.far.entries key) (free false) apdu e is in
            let live : live_entry (there_at n i) (u false).entry ≡ Some k.entry = ap (live_entry (there_at n i)) k.after
            ∙ ap (λ z. if z then Some k.entry else None) (live_for (there_at n i) apdu (n.far.entries key) k.entry k.for) in
            let there : value_at same_key p (put_entry (there_at n i) p (v false).entry a.servers.slots) ≡ Some y =
            ap (value_at same_key p) (sym slots) ∙ at in
            let here : live_entry (there_at n i) (Some y) ≡ live_entry (there_at n i) (v false).entry = ap (live_entry (there_at n i)) (sym there)
            ∙ entry_here (there_at n i) p a.servers.slots fits.servers.distinct (v false).entry
            (none_left context service (value_at same_key p a.servers.slots) (free false) apdu) in
            let one : y ≡ k.entry = live_one (there_at n i) y k.entry (here ∙ (same false).entry ∙ live) in
            ap (λ (d : ServerTransaction). d.begin) one ∙ ap begin_of (sym k.after)

        logged : Logged links apart W x set w w' (served key (begin_of (u reuse).entry) (u reuse).effect n.log)
        logged = logs_stranger w w' n h i p g a b node acts.nodes (begin_of (u reuse).entry) (u reuse).effect o.performed
            (λ off. begun reuse off (ap (λ (d : Node). d.servers.slots) turn'.node)) done (ap (λ (d : Node). d.store) turn'.node)
            (subst (λ (lg : List Fact). AreLoggedSo reuse w.nodes w.notes i b o.performed lg w'.log) between_is acts.logged)

        over : Over links apart W x set w' m
        over = acts_over links apart W x set reuse w w' n m h i a b o node acts (record {
          now = refl;
          pace = refl;
          here = refl;
          there = refl;
          asked = refl;
          served = served_elsewhere i n.served;
          sends = refl;
          tickets = λ k ne. refl;
          far_tickets = λ k ne. refl;
          entries = λ k ne. refl;
          far_entries = set_elsewhere (λ (k : Key). k.server) n.far.entries key (u reuse).entry;
        }) refl h.noted h.away
            (ap (λ (d : Node). d.link) turn'.node)
            (subst (λ (d : Node). Fits links apart W x set w n m i d) (sym turn'.node) made_fits)
            (λ j d ne f. others_fit_away (here_at n j) (there_at n j) w.notes n key (u reuse) j d ne f) posts logged.log_means sound

    -- a stranger's answer: to an open ticket of its own, or it is dropped
    module _ (readable : x.readable ≡ reads_reply) (w w' : World) (n : Net) (h : Over links apart W x set w n) (i : ℕ) (p : PeerKey) (g : IsStranger links apart p)
        (apdu : Apdu) (down : is_from_client apdu ≡ false) (a b : Node) (o : Outcome) (node : slice_get w.nodes i ≡ Some a) (acts : Acts w i b o w') where
      unheard : IsClientTurn (stays a.clients) (told w i) a b o → Aside w w' n
      unheard t = (
        n,
        quiet links apart W x set w w' n h i a b o node acts t.performed (pairwise_none IsSent o.sends t.sends) (pairwise_none IsEndedView o.ended t.ended) t.node,
        still_aside n,
      )

      answers : (k : ℕ) (t : ClientTransaction) → value_at same_key p a.clients.slots ≡ Some (record { number = k; held = Open t })
          → IsClientTurn (client_goes (here_at n i) a.clients p k t (client_on_apdu (client_context x (out_key i p) (here_at n i)) x.readable t apdu)) (told w i) a b o
          → Aside w w' n
      answers k t found turn = (
        client_acts_away n (out_key i p) t (client_on_apdu (client_context x (out_key i p) (here_at n i)) x.readable t apdu),
        arrived links apart W x set w w' n h i a b o node acts turn.performed made turn.node refl
            (with_distinct Client p (client_after (here_at n i) k t r) a.clients.slots fits.clients.distinct)
            (each_with Client Known p (client_after (here_at n i) k t r) a.clients.slots
            (each_at Client Known p (record { number = k; held = Open t }) a.clients.slots fits.clients.known found) fits.clients.known)
            (client_acts_away n key t r)
            (subst (λ (l : List Copy). Reached links apart W x set w i n (λ y. value_at same_key y made.slots) l acts.between (client_acts_away n key t r))
            (sym (ap (λ (l : List Copy). w.copies ++ l) sent_is ∙ append_none w.copies))
            (reacts_stranger links apart W x set bound w n i p g (λ y. value_at same_key y a.clients.slots) (λ y. value_at same_key y made.slots) w.copies w.log n
            (reached_none links apart W x set w n h i a fits) k t found r
            (λ is. (strays_at_client W x set bound n h.sound key t is apdu down, StraysToClient n key t apdu Here down is))
            (with_same Client p (client_after (here_at n i) k t r) (record { number = k; held = Open t }) a.clients.slots found)
            (λ y ne. with_other Client p y (client_after (here_at n i) k t r) a.clients.slots ne)
            o.ended acts.between turn.ended acts.ended)),
        client_aside n (out_key i p) t (client_on_apdu (client_context x (out_key i p) (here_at n i)) x.readable t apdu),
      )
        where
          key : Key
          key = out_key i p

          fits : Fits links apart W x set w n n i a
          fits = h.nodes i a node

          r : client.Reaction
          r = client_on_apdu (client_context x (out_key i p) (here_at n i)) x.readable t apdu

          made : ClientEnd
          made = record (a.clients) { slots = with_value same_key p (client_after (here_at n i) k t r) a.clients.slots }

          Known : PeerKey → Client → Type 0
          Known y z = (IsKnown links apart y ⊎ IsStranger links apart y) × (z.number < a.clients.asked)

          sent_is : acts.sent ≡ []
          sent_is = copied_none links apart w.nodes h.linked w.time.now i p g (client.sends_of r) o.sends acts.sent turn.sends acts.copied

      held : (k : ℕ) (y : TransactionSlot) → value_at same_key p a.clients.slots ≡ Some (record { number = k; held = y })
          → IsClientTurn (requester_on_apdu_in_slot (x.settings i) x.readable (here_at n i) apdu a.clients p k y) (told w i) a b o → Aside w w' n
      held k (Closed first) is turn = unheard turn
      held k (Open t) is turn = answers k t is turn

      found_so : (s : Option Client) → value_at same_key p a.clients.slots ≡ s
          → IsClientTurn (requester_on_apdu_at (x.settings i) x.readable (here_at n i) apdu a.clients p s) (told w i) a b o → Aside w w' n
      found_so None is turn = unheard turn
      found_so (Some s) is turn = held s.number s.held is turn

      to_client : IsClientTurn (requester_on_apdu_at a.settings reads_reply (told w i) apdu a.clients p (value_at same_key p a.clients.slots)) (told w i) a b o
          → Aside w w' n
      to_client turn =
          let fits : Fits links apart W x set w n n i a = h.nodes i a node in
          let heard : Settings → Readable → ℕ → ClientTurn =
          λ c readable now. requester_on_apdu_at c readable now apdu a.clients p (value_at same_key p a.clients.slots) in
          found_so (value_at same_key p a.clients.slots) refl
          (subst (λ (y : Settings). IsClientTurn (heard y x.readable (here_at n i)) (told w i) a b o) fits.settings
          (subst (λ (y : Readable). IsClientTurn (heard a.settings y (here_at n i)) (told w i) a b o) (sym readable)
          (subst (λ (y : ℕ). IsClientTurn (heard a.settings reads_reply y) (told w i) a b o) (sym (ap (λ (y : Clock). y.shows) (h.here i))) turn)))

    pub hears_stranger : x.readable ≡ reads_reply → (w w' : World) (n : Net) → Over links apart W x set w n → (i : ℕ) (from : Octets)
        → ((j : ℕ) → link_at w.nodes j ≡ Some from → ⊥)
        → (a b : Node) (o : Outcome) → slice_get w.nodes i ≡ Some a → ActsSo (reuses_in set i) w i b o w' → (octets : Octets)
        → IsHeardIn (reuses_in set i) (told w i) from octets a b o → Aside w w' n
    hears_stranger readable w w' n h i from foreign a b o node acts octets z = go (is_from_client z.apdu) refl z.heard
      where
        p : PeerKey
        p = heard_key z.peer z.apdu

        g : IsStranger links apart p
        g = record { none = λ k e. foreign k (h.linked k ∙ e ∙ ap (λ (q : PeerView). Some q.link) z.means.carries.sender) }

        go : (up : Bool) → is_from_client z.apdu ≡ up → IsHeardInBy (reuses_in set i) up z.peer z.apdu (told w i) a b o → Aside w w' n
        go true up turn = serves_stranger w w' n h i p g z.apdu up a b o node turn.0 turn.1 acts
        go false down turn = to_client readable w w' n h i p g z.apdu down a b o node (acts_quiet (reuses_in set i) w w' i b o turn.performed acts) turn
