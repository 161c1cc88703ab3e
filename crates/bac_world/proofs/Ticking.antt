-- A node's tick.
use Rattle.std.proofs.Common.{false, ◌≡◌, ℕ, ◌<◌, ◌⊎◌, List, ◌++◌, Option, Some, refl, sym, ap, subst, ◌∙◌, append_assoc}
use Rattle.bac_protocol.specs.Context.{Settings, Context}
use Rattle.bac_protocol.specs.Service.{Octets}
use Rattle.bac_protocol.specs.Client.{ClientTransaction}
use Rattle.bac_protocol.specs.Server.{ServerTransaction, is_live, live_entry}
use Rattle.bac_protocol.specs.Transaction.{Key, Rules}
use Rattle.bac_protocol.specs.World.{Net}
use Rattle.bac_protocol.specs.Claims.{IsBounded}
use Rattle.bac_slots.specs.Slots.{value_at, in_order}
use Rattle.bac_transaction.specs.Keys.{PeerKey, peer_key_cmp, same_key}
use Rattle.bac_transaction.specs.Sends.{Send, Datagram, Pairwise, IsSent}
use Rattle.bac_transaction.specs.Meanings.{IsEndedView}
use Rattle.bac_transaction.specs.Ends.{ClientSlot, ServerSlot, Client, TransactionSlot, held_ticked, client_tick_sends, client_tick_ends, server_tick_sends, from_each}
use Rattle.bac_transaction.specs.Ends.{requester_tick, responder_tick}
use Rattle.bac_transaction.specs.Ends.TransactionSlot.{Open, Closed}
use Rattle.bac_world.specs.Node.{Node, Outcome, NodeTick}
use Rattle.bac_world.specs.Once.{Fact}
use Rattle.bac_world.specs.ReusingLogs.{IsOnceSo}
use Rattle.bac_world.specs.World.{World, Copy, stores_of, AreLogged, Ticks}
use Rattle.bac_transaction.proofs.KeyedSlots.{changed, distinct_changed, distinct_in_order, each_changed, each_in_order, each_passing, each_so, passing, passing_distinct, passing_value}
use Rattle.bac_transaction.proofs.Entries.{live_kept}
use Rattle.bac_world.specs.World.{told}
use Rattle.bac_world.proofs.Bridge.{here_at, there_at}
use Rattle.bac_protocol.specs.Pace.{Clock}
use Rattle.std.proofs.Common.{nat_lt}
use Rattle.bac_world.proofs.Changes.{look, look_all, change_all}
use Rattle.bac_world.proofs.Pairs.{IsSplit, pairwise_split}
use Rattle.bac_world.proofs.Logs.{FactMeans}
use Rattle.bac_world.proofs.Bridge.{IsKnown, IsStranger, IsCopyOf, TicketFits, key_of, slot_key, stranger_key, out_key, AreParted, copied_split}
use Rattle.bac_world.specs.World.{is_away}
use Rattle.bac_world.specs.World.{AreCopied}
use Rattle.bac_world.proofs.Steps.{Over, Fits, Next, acts_as, acts_over, once_same, stores_same}
use Rattle.bac_world.proofs.Leads.{Leads}
use Rattle.bac_world.proofs.Hearing.{Reached, reached_none, reached_alike}
use Rattle.bac_world.proofs.ClientTick.{client_tick, folds}
use Rattle.bac_world.proofs.ServerTick.{Served, entry_tick, serves}
use Rattle.bac_world.proofs.Settings.{Setting, ever_in}

number_kept : (c : Context) (k : ℕ) (y : TransactionSlot) → (held_ticked c k y).number ≡ k
number_kept c k (Open t) = refl
number_kept c k (Closed first) = refl

module _ (links : ℕ → Option Octets) (apart : (i j : ℕ) (l : Octets) → links i ≡ Some l → links j ≡ Some l → i ≡ j) (W : ℕ) (x : Rules)
    (set : Setting)
    (bound : IsBounded W x) (w w' : World) (n : Net) (h : Over links apart W x set w n) (i : ℕ) (step : Ticks w i w') where
  abbrev a : Node
  a = step.before

  abbrev b : Node
  b = step.after

  abbrev o : Outcome
  o = step.outcome

  abbrev c : Settings
  c = x.settings i

  abbrev clients : List ClientSlot
  clients = step.before.clients.slots

  abbrev entries : List ServerSlot
  entries = step.before.servers.slots

  abbrev f : PeerKey → Client → Client
  f = client_tick (x.settings i) (here_at n i)

  abbrev g : PeerKey → ServerTransaction → ServerTransaction
  g = entry_tick (x.settings i) (there_at n i)

  -- the entries that are left
  abbrev left : List ServerSlot
  left = passing ServerTransaction (is_live (there_at n i)) (changed ServerTransaction (entry_tick (x.settings i) (there_at n i)) step.before.servers.slots)

  fits : Fits links apart W x set w n n i step.before
  fits = h.nodes i step.before step.at

  tick' : NodeTick (told w i) step.before step.after step.outcome
  tick' = step.tick

  here_is : here_at n i ≡ told w i
  here_is = ap (λ (y : Clock). y.shows) (h.here i)

  there_is : there_at n i ≡ told w i
  there_is = ap (λ (y : Clock). y.shows) (h.there i)

  -- what is said of a tick at the node's moment, by the two clocks of the net
  by_both : (P : Settings → ℕ → ℕ → Type 0) → P step.before.settings (told w i) (told w i) → P (x.settings i) (here_at n i) (there_at n i)
  by_both P said =
      subst (λ (y : Settings). P y (here_at n i) (there_at n i)) fits.settings
      (subst (λ (t : ℕ). P a.settings t (there_at n i)) (sym here_is) (subst (λ (t : ℕ). P a.settings (told w i) t) (sym there_is) said))

  node_is : step.after ≡ record (step.before) {
    latest = told w i;
    clients = record (step.before.clients) { slots = changed Client f clients };
    servers = record (step.before.servers) { slots = left };
  }
  node_is = by_both (λ y t u. b ≡ record a {
    latest = told w i;
    clients = (requester_tick y t a.clients).end;
    servers = (responder_tick y u a.servers).end;
  }) tick'.node

  abbrev client_sends : Settings → List Send
  client_sends y = from_each (client_tick_sends y (here_at n i)) (in_order peer_key_cmp clients)

  abbrev server_sends : Settings → List Send
  server_sends y = from_each (server_tick_sends y (there_at n i)) (in_order peer_key_cmp entries)

  ds : IsSplit IsSent (client_sends c) (server_sends c) step.outcome.sends
  ds = pairwise_split IsSent (client_sends c) (server_sends c) o.sends
      (by_both (λ y t u. Pairwise IsSent (from_each (client_tick_sends y t) (in_order peer_key_cmp clients)
      ++ from_each (server_tick_sends y u) (in_order peer_key_cmp entries)) o.sends) tick'.sends)

  cs : AreParted w.nodes n.now i ds.front ds.rest step.acts.sent
  cs = copied_split w.nodes n.now i ds.front ds.rest step.acts.sent
      (subst (λ (z : List Datagram). AreCopied w.nodes n.now i z step.acts.sent) ds.is
      (subst (λ (t : ℕ). AreCopied w.nodes t i o.sends step.acts.sent) (sym h.now) step.acts.copied))

  -- first the client's slots
  r : (m : Net) × Reached links apart W x set w i n (λ q. value_at same_key q (changed Client f clients)) (w.copies ++ cs.front) step.acts.between m
  r = folds links apart W x set bound w n h i a.link fits.link (changed Client f clients) (in_order peer_key_cmp clients)
      (distinct_in_order Client clients fits.clients.distinct)
      (each_in_order Client (λ p v. IsKnown links apart p ⊎ IsStranger links apart p) clients
      (each_so Client (λ p v. (IsKnown links apart p ⊎ IsStranger links apart p) × (v.number < a.clients.asked)) (λ p v. IsKnown links apart p ⊎ IsStranger links apart p)
      (λ p v y. y.0) clients fits.clients.known))
      (change_all Client f clients fits.clients.distinct) w.copies w.log n
      (reached_alike links apart W x set w i n (λ q. value_at same_key q clients) (look Client f (changed Client f clients) (in_order peer_key_cmp clients))
      w.copies w.log n (λ q. sym (look_all Client f clients fits.clients.distinct q)) (reached_none links apart W x set w n h i a fits))
      ds.front cs.front o.ended step.acts.between ds.first cs.first
      (by_both (λ y t u. Pairwise IsEndedView (from_each (client_tick_ends y t) (in_order peer_key_cmp clients)) o.ended) tick'.ended)
      step.acts.ended

  start : Served links apart W x set bound w n r.0 h.linked i a.link fits.link
      (look ServerTransaction g (changed ServerTransaction g entries) (in_order peer_key_cmp entries)) (w.copies ++ cs.front) r.0
  start = record {
    alike = r.1.alike;
    made = refl;
    restarted = refl;
    asks = refl;
    numbers = refl;
    tickets = refl;
    far_tickets = refl;
    far_numbers = refl;
    log = refl;
    asks_from = refl;
    serves_from = refl;
    entries = λ c' l id at. ap (live_entry (there_at n i)) (look_all ServerTransaction g entries fits.servers.distinct (slot_key l id)) ∙ fits.servers.found c' l id at
        ∙ ap (λ (e : Key → Option ServerTransaction). live_entry (there_at n i) (e (key_of c' i id))) (sym r.1.entries);
    strangers = λ p y. ap (live_entry (there_at n i)) (look_all ServerTransaction g entries fits.servers.distinct p) ∙ fits.servers.strangers p y
        ∙ ap (λ (e : Key → Option ServerTransaction). live_entry (there_at n i) (e (stranger_key i p))) (sym r.1.far_entries);
    others = λ j d ne y. y;
    posts = r.1.posts;
    sound = r.1.sound;
    leads = r.1.leads;
  }

  -- then the entries
  s : (m : Net) × Served links apart W x set bound w n r.0 h.linked i a.link fits.link (λ q. value_at same_key q (changed ServerTransaction g entries))
      ((w.copies ++ cs.front) ++ cs.rest) m
  s = serves links apart W x set bound w n r.0 h.linked i a.link fits.link (changed ServerTransaction g entries) (in_order peer_key_cmp entries)
      (distinct_in_order ServerTransaction entries fits.servers.distinct) (each_in_order ServerTransaction (λ p v. IsKnown links apart p ⊎ IsStranger links apart p) entries fits.servers.known)
      (change_all ServerTransaction g entries fits.servers.distinct) (w.copies ++ cs.front) r.0 start ds.rest cs.rest ds.second cs.second

  all_copies : (w.copies ++ cs.front) ++ cs.rest ≡ w.copies ++ step.acts.sent
  all_copies = append_assoc w.copies cs.front cs.rest ∙ ap (λ (l : List Copy). w.copies ++ l) (sym cs.is)

  log_is : w'.log ≡ step.acts.between
  log_is = subst (λ d. AreLogged w.nodes w.notes i step.after d step.acts.between w'.log) tick'.performed step.acts.logged

  abbrev TicketFound : (Key → ℕ) → (ℕ → ℕ) → (Key → ℕ) → (Key → Option ClientTransaction) → (s' : ℕ) → Octets → ℕ → Type 0
  TicketFound made restarted numbers tickets s' l id =
      TicketFits (nat_lt (made (key_of i s' id)) (restarted i)) (here_at n i) w.notes i (numbers (key_of i s' id))
      (value_at same_key (slot_key l id) (changed Client f clients)) (tickets (key_of i s' id))

  abbrev StrangerFound : (Key → ℕ) → (Key → Option ClientTransaction) → PeerKey → Type 0
  StrangerFound numbers tickets p =
      TicketFits false (here_at n i) w.notes i (numbers (out_key i p)) (value_at same_key p (changed Client f clients)) (tickets (out_key i p))

  -- those that are not live are none
  left_is : (q : PeerKey) → live_entry (there_at n i) (value_at same_key q left) ≡ live_entry (there_at n i) (value_at same_key q (changed ServerTransaction g entries))
  left_is q = ap (live_entry (there_at n i)) (passing_value ServerTransaction (is_live (there_at n i)) q (changed ServerTransaction g entries)
      (distinct_changed ServerTransaction g entries fits.servers.distinct)) ∙ live_kept (there_at n i) (value_at same_key q (changed ServerTransaction g entries))

  made : Fits links apart W x set w n s.0 i (record (step.before) {
    latest = told w i;
    clients = record (step.before.clients) { slots = changed Client f clients };
    servers = record (step.before.servers) { slots = left };
  })
  made = record {
    settings = fits.settings;
    link = fits.link;
    asks = fits.asks ∙ sym (ap (λ (f : ℕ → ℕ). f i) (s.1.asks_from ∙ r.1.asks_from));
    serves = fits.serves ∙ sym (ap (λ (f : ℕ → ℕ). f i) (s.1.serves_from ∙ r.1.serves_from));
    clients = record {
      distinct = distinct_changed Client f clients fits.clients.distinct;
      known = each_changed Client f (λ p v. (IsKnown links apart p ⊎ IsStranger links apart p) × (v.number < a.clients.asked))
          (λ p v y. (
            y.0,
            subst (λ (z : ℕ). z < a.clients.asked) (sym (number_kept (record { settings = c; invoke_id = p.invoke_id; now = here_at n i })
                v.number v.held)) y.1,
          )) clients fits.clients.known;
      found = λ s' l id at. subst (λ (y : Key → ℕ). TicketFound y s.0.restarted s.0.numbers s.0.tickets s' l id) (sym s.1.made)
          (subst (λ (y : ℕ → ℕ). TicketFound r.0.made y s.0.numbers s.0.tickets s' l id) (sym s.1.restarted)
          (subst (λ (y : Key → ℕ). TicketFound r.0.made r.0.restarted y s.0.tickets s' l id) (sym s.1.numbers)
          (subst (λ (y : Key → Option ClientTransaction). TicketFound r.0.made r.0.restarted r.0.numbers y s' l id) (sym s.1.tickets) (r.1.found s' l id at))));
      strangers = λ p y. subst (λ (z : Key → ℕ). StrangerFound z s.0.far.tickets p) (sym s.1.far_numbers)
          (subst (λ (z : Key → Option ClientTransaction). StrangerFound r.0.far.numbers z p) (sym s.1.far_tickets) (r.1.strangers p y));
    };
    servers = record {
      distinct = passing_distinct ServerTransaction (is_live (there_at n i)) (changed ServerTransaction g entries)
          (distinct_changed ServerTransaction g entries fits.servers.distinct);
      known = each_passing ServerTransaction (λ p v. IsKnown links apart p ⊎ IsStranger links apart p) (is_live (there_at n i)) (changed ServerTransaction g entries)
          (each_changed ServerTransaction g (λ p v. IsKnown links apart p ⊎ IsStranger links apart p) (λ p v y. y) entries fits.servers.known);
      found = λ c' l id at. left_is (slot_key l id) ∙ s.1.entries c' l id at;
      strangers = λ p y. left_is p ∙ s.1.strangers p y;
    };
  }

  pub tick_over : Next links apart W x set w w'
  tick_over = (
    s.0,
    record {
      bridge = acts_over links apart W x set false w w' n s.0 h i a b o step.at (acts_as w w' i b o step.acts) (s.1.alike) (s.1.asks ∙ r.1.asks)
          (λ key t is. r.1.noted key t (ap (λ y. y key) (sym s.1.tickets) ∙ is) ∙ ap Some (ap (λ y. y key) (sym s.1.numbers)))
          (λ key t is. ap (λ y. is_away (y key) w.notes) s.1.far_numbers ∙ r.1.away key t (ap (λ y. y key) (sym s.1.far_tickets) ∙ is))
          (ap (λ (d : Node). d.link) node_is)
          (subst (λ (d : Node). Fits links apart W x set w n s.0 i d) (sym node_is) made)
          (λ j d ne y. s.1.others j d ne (r.1.others j d ne y))
          (subst (λ (l : List Copy). Pairwise (IsCopyOf links apart) s.0.posts l) all_copies s.1.posts)
          (subst (λ (lg : List Fact). Pairwise (FactMeans set) s.0.log lg) (sym log_is)
          (subst (λ lg. Pairwise (FactMeans set) lg step.acts.between) (sym s.1.log) r.1.log))
          s.1.sound;
      once = λ opening once. subst (λ (lg : List Fact). IsOnceSo (ever_in set) opening lg (stores_of w'.nodes)) (sym log_is)
          (once_same (ever_in set) opening step.acts.between (stores_of w.nodes) (stores_of w'.nodes)
          (stores_same w.nodes w'.nodes i a b step.acts.nodes step.at (ap (λ (d : Node). d.store) node_is)) (r.1.once opening (stores_of w.nodes) once));
    },
  )

  -- the net after it comes of ticks alone
  pub tick_leads : Leads x n tick_over.0
  unfolding tick_over s
  tick_leads = s.1.leads
