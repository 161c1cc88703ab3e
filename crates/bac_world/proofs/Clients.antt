-- A copy reaches its client.
use Rattle.std.proofs.Common.{◌≡◌, ℕ, ◌-◌, ◌≤◌, ◌<◌, ◌⊎◌, true, false, List, [], ◌++◌, Option, Some, None, slice_get}
use Rattle.std.proofs.Common.{refl, sym, ap, subst, ◌∙◌}
use Rattle.bac_apdu.specs.Apdu.{Apdu}
use Rattle.bac_service.specs.Services.{reads_reply}
use Rattle.bac_protocol.specs.Context.{Settings, Context}
use Rattle.bac_protocol.specs.Service as machine
use Rattle.bac_protocol.specs.Service.{Octets}
use Rattle.bac_protocol.specs.Wire.{is_from_client}
use Rattle.bac_protocol.specs.Own.{invoke_id_of}
use Rattle.bac_protocol.specs.Client as client
use Rattle.bac_protocol.specs.Client.{ClientTransaction, is_idle, client_on_apdu}
use Rattle.bac_protocol.specs.Server.{ServerTransaction, live_entry}
use Rattle.bac_protocol.specs.Transaction.{Key, Rules, client_context}
use Rattle.bac_protocol.specs.World.{Net, Post, client_acts}
use Rattle.bac_protocol.specs.Straight.{is_ended}
use Rattle.bac_protocol.specs.World as net
use Rattle.bac_protocol.specs.Claims.{IsBounded}
use Rattle.bac_protocol.specs.Moves.{taken_by_client}
use Rattle.bac_protocol.proofs.Keys.{set_nothing}
use Rattle.bac_protocol.proofs.Dead.{ended_is_silent}
use Rattle.bac_protocol.proofs.Own.{client_sends_own}
use Rattle.bac_slots.specs.Slots.{value_at, with_value, IsDistinct}
use Rattle.bac_transaction.specs.Keys.{PeerKey, same_key}
use Rattle.bac_transaction.specs.Sends.{Datagram, Pairwise, IsSent}
use Rattle.bac_transaction.specs.Meanings.{EndedView, IsEndedView}
use Rattle.bac_transaction.specs.Ends.{Client, ClientEnd, ClientTurn, TransactionSlot, client_after, client_goes, requester_on_apdu_at, requester_on_apdu_in_slot, stays}
use Rattle.bac_transaction.specs.Ends.TransactionSlot.{Open, Closed}
use Rattle.bac_world.specs.Node.{Node, Outcome, IsClientTurn}
use Rattle.bac_world.specs.Once.{Fact}
use Rattle.bac_world.specs.ReusingLogs.{IsOnceSo}
use Rattle.bac_world.specs.World.{World, Copy, stores_of, Acts, AreLogged, AreEnded, AreCopied, peer_at}
use Rattle.bac_transaction.proofs.KeyedSlots.{EachSlot, with_same, with_other, with_distinct, each_with, each_at}
use Rattle.bac_protocol.specs.World.{client_now, is_lost}
use Rattle.bac_world.specs.World.{told}
use Rattle.bac_world.proofs.Bridge.{here_at, there_at}
use Rattle.bac_protocol.specs.Pace.{Clock}
use Rattle.bac_world.proofs.Leads.Leads.{Here, Hears}
use Rattle.bac_world.proofs.Machines.{gets_at_client, may_arrive}
use Rattle.bac_world.proofs.Pairs.{pairwise_none, append_none}
use Rattle.bac_world.proofs.Logs.{FactMeans}
use Rattle.bac_world.proofs.Bridge.{IsKnown, IsStranger, IsCopyOf, TicketFits, key_of, slot_key, stranger_key, copied_to}
use Rattle.bac_world.proofs.Steps.{Over, Fits, Goes, acts_as, acts_over, once_same, stores_same}
use Rattle.bac_world.proofs.Hearing.{Reached, reached_none, reacts, ticket_at, closed_idle}
use Rattle.bac_world.proofs.Settings.{Setting, ever_in}

-- a ticket that has ended hears nothing
hears_nothing : (x : Rules) (n : Net) (p : Post) (o : Option ClientTransaction) → n.tickets p.key ≡ o → ((u : ClientTransaction) → o ≡ Some u → is_idle u.phase ≡ true)
    → taken_by_client x n p o ≡ n
hears_nothing x n p None is over = refl
hears_nothing x n p (Some t) is over =
    ap (client_acts n p.key t) (ended_is_silent.gets (client_context x p.key (client_now n p.key)) x.readable t p.copy.apdu (over t refl))
    ∙ (λ i. record n { tickets = set_nothing n.tickets p.key (Some t) is i; posts = append_none n.posts i })

module _ (links : ℕ → Option Octets) (apart : (i j : ℕ) (l : Octets) → links i ≡ Some l → links j ≡ Some l → i ≡ j) (W : ℕ) (x : Rules)
    (set : Setting) where
  -- what was reached is a step of the world
  pub arrived : (w w' : World) (n : Net) → Over links apart W x set w n → (i : ℕ) (a b : Node) (o : Outcome) → slice_get w.nodes i ≡ Some a
      → (acts : Acts w i b o w') → o.performed ≡ None
      → (e : ClientEnd) → b ≡ record a { latest = told w i; clients = e } → e.asks_from ≡ a.clients.asks_from
      → IsDistinct same_key e.slots → EachSlot Client (λ p s. (IsKnown links apart p ⊎ IsStranger links apart p) × (s.number < e.asked)) e.slots
      → (m : Net) → Reached links apart W x set w i n (λ p. value_at same_key p e.slots) (w.copies ++ acts.sent) acts.between m
      → Goes links apart W x set w w' m
  arrived w w' n h i a b o at acts quiet e b_is from distinct known m r = record {
    bridge = acts_over links apart W x set false w w' n m h i a b o at (acts_as w w' i b o acts) r.alike r.asks r.noted r.away (ap (λ (d : Node). d.link) b_is)
        (subst (λ (d : Node). Fits links apart W x set w n m i d) (sym b_is) made)
        r.others r.posts (subst (λ (lg : List Fact). Pairwise (FactMeans set) m.log lg) (sym log_is) r.log) r.sound;
    once = λ opening once. subst (λ (lg : List Fact). IsOnceSo (ever_in set) opening lg (stores_of w'.nodes)) (sym log_is)
        (once_same (ever_in set) opening acts.between (stores_of w.nodes) (stores_of w'.nodes)
        (stores_same w.nodes w'.nodes i a b acts.nodes at (ap (λ (d : Node). d.store) b_is)) (r.once opening (stores_of w.nodes) once));
  }
    where
      fits : Fits links apart W x set w n n i a
      fits = h.nodes i a at

      made : Fits links apart W x set w n m i (record a { latest = told w i; clients = e })
      made = record {
        settings = fits.settings;
        link = fits.link;
        asks = from ∙ fits.asks ∙ sym (ap (λ (f : ℕ → ℕ). f i) r.asks_from);
        serves = fits.serves ∙ sym (ap (λ (f : ℕ → ℕ). f i) r.serves_from);
        clients = record { distinct = distinct; known = known; found = r.found; strangers = r.strangers };
        servers = record {
          distinct = fits.servers.distinct;
          known = fits.servers.known;
          found = λ c l id at'. fits.servers.found c l id at' ∙ ap (λ f. live_entry (there_at n i) (f (key_of c i id))) (sym r.entries);
          strangers = λ p g. fits.servers.strangers p g ∙ ap (λ (f : Key → Option ServerTransaction). live_entry (there_at n i) (f (stranger_key i p))) (sym r.far_entries);
        };
      }

      log_is : w'.log ≡ acts.between
      log_is = subst (λ d. AreLogged w.nodes w.notes i b d acts.between w'.log) quiet acts.logged

  -- a step in which nothing goes out and nothing ends
  pub quiet : (w w' : World) (n : Net) → Over links apart W x set w n → (i : ℕ) (a b : Node) (o : Outcome) → slice_get w.nodes i ≡ Some a
      → Acts w i b o w' → o.performed ≡ None → o.sends ≡ [] → o.ended ≡ [] → b ≡ record a { latest = told w i } → Goes links apart W x set w w' n
  quiet w w' n h i a b o at acts performed sends ends b_is =
      arrived w w' n h i a b o at acts performed a.clients b_is refl fits.clients.distinct fits.clients.known n
      (subst (λ (l : List Copy). Reached links apart W x set w i n look l acts.between n) (sym copies_is)
      (subst (λ (lg : List Fact). Reached links apart W x set w i n look w.copies lg n) (sym between_is) (reached_none links apart W x set w n h i a fits)))
    where
      fits : Fits links apart W x set w n n i a
      fits = h.nodes i a at

      look : PeerKey → Option Client
      look p = value_at same_key p a.clients.slots

      sent_is : acts.sent ≡ []
      sent_is = subst (λ (ds : List Datagram). AreCopied w.nodes w.time.now i ds acts.sent) sends acts.copied

      copies_is : w.copies ++ acts.sent ≡ w.copies
      copies_is = ap (λ (l : List Copy). w.copies ++ l) sent_is ∙ append_none w.copies

      between_is : acts.between ≡ w.log
      between_is = subst (λ (fs : List EndedView). AreEnded w.notes i fs w.log acts.between) ends acts.ended

  -- an APDU of a server was heard
  pub hears_post : (bound : IsBounded W x) → x.readable ≡ reads_reply → (w w' : World) (n : Net) → Over links apart W x set w n → (number : ℕ) (p : Post) (c : Copy)
      → slice_get n.posts number ≡ Some p
      → IsCopyOf links apart p c → net.is_deliverable x n number p ≡ true
      → is_from_client p.copy.apdu ≡ false → c.from ≡ p.key.server → c.to ≡ p.key.client
      → (a b : Node) (o : Outcome) → slice_get w.nodes c.to ≡ Some a → (l : Octets) → links c.from ≡ Some l
      → IsClientTurn (requester_on_apdu_at a.settings reads_reply (told w c.to) p.copy.apdu a.clients (slot_key l (invoke_id_of p.copy.apdu))
      (value_at same_key (slot_key l (invoke_id_of p.copy.apdu)) a.clients.slots)) (told w c.to) a b o
      → Acts w c.to b o w' → Goes links apart W x set w w' (taken_by_client x n p (n.tickets p.key))
  hears_post bound readable w w' n h number p c at copied may down from_is to_is a b o node l link turn acts =
      go (value_at same_key q a.clients.slots) refl turn'
    where
      key : Key
      key = p.key

      apdu : Apdu
      apdu = p.copy.apdu

      node' : slice_get w.nodes key.client ≡ Some a
      node' = subst (λ (i : ℕ). slice_get w.nodes i ≡ Some a) to_is node

      acts' : Acts w key.client b o w'
      acts' = subst (λ (i : ℕ). Acts w i b o w') to_is acts

      server_at : links key.server ≡ Some l
      server_at = subst (λ (i : ℕ). links i ≡ Some l) from_is link

      fits : Fits links apart W x set w n n key.client a
      fits = h.nodes key.client a node'

      q : PeerKey
      q = slot_key l key.invoke_id

      s : Settings
      s = x.settings key.client

      context : Context
      context = client_context x key (client_now n key)

      heard : Settings → machine.Readable → (id now : ℕ) → ClientTurn
      heard c readable id now = requester_on_apdu_at c readable now apdu a.clients (slot_key l id) (value_at same_key (slot_key l id) a.clients.slots)

      here_is : here_at n key.client ≡ told w key.client
      here_is = ap (λ (y : Clock). y.shows) (h.here key.client)

      turn' : IsClientTurn (heard s x.readable key.invoke_id (here_at n key.client)) (told w key.client) a b o
      turn' = subst (λ (y : Settings). IsClientTurn (heard y x.readable key.invoke_id (here_at n key.client)) (told w key.client) a b o) fits.settings
          (subst (λ (y : machine.Readable). IsClientTurn (heard a.settings y key.invoke_id (here_at n key.client)) (told w key.client) a b o) (sym readable)
          (subst (λ (y : ℕ). IsClientTurn (heard a.settings reads_reply y (here_at n key.client)) (told w key.client) a b o) copied.invoke
          (subst (λ (y : ℕ). IsClientTurn (heard a.settings reads_reply (invoke_id_of apdu) y) (told w key.client) a b o) (sym here_is)
          (subst (λ (i : ℕ). IsClientTurn (heard a.settings reads_reply (invoke_id_of apdu) (told w i)) (told w i) a b o) to_is turn))))

      made_net : Net
      made_net = taken_by_client x n p (n.tickets key)

      fit : TicketFits (is_lost n key) (here_at n key.client) w.notes key.client (n.numbers key) (value_at same_key q a.clients.slots) (n.tickets key)
      fit = fits.clients.found key.server l key.invoke_id server_at

      unheard : ((u : ClientTransaction) → n.tickets key ≡ Some u → is_idle u.phase ≡ true) → IsClientTurn (stays a.clients) (told w key.client) a b o
          → Goes links apart W x set w w' made_net
      unheard over t = subst (λ (m : Net). Goes links apart W x set w w' m) (sym (hears_nothing x n p (n.tickets key) refl over))
          (quiet w w' n h key.client a b o node' acts' t.performed (pairwise_none IsSent o.sends t.sends) (pairwise_none IsEndedView o.ended t.ended) t.node)

      goes : (k : ℕ) (t : ClientTransaction) → value_at same_key q a.clients.slots ≡ Some (record { number = k; held = Open t })
          → IsClientTurn (client_goes (here_at n key.client) a.clients q k t (client_on_apdu context x.readable t apdu)) (told w key.client) a b o
          → Goes links apart W x set w w' made_net
      goes k t found turn = subst (λ (m : Net). Goes links apart W x set w w' m) (sym (ap (taken_by_client x n p) open_is))
          (arrived w w' n h key.client a b o node' acts' turn.performed made turn.node refl
          (with_distinct Client q (client_after (here_at n key.client) k t r) a.clients.slots fits.clients.distinct)
          (each_with Client Known q (client_after (here_at n key.client) k t r) a.clients.slots
          (each_at Client Known q (record { number = k; held = Open t }) a.clients.slots fits.clients.known found) fits.clients.known)
          (client_acts n key t r)
          (reacts links apart W x set bound w n key l a.link fits.link server_at (λ y. value_at same_key y a.clients.slots)
          (λ y. value_at same_key y made.slots) w.copies w.log n
          (reached_none links apart W x set w n h key.client a fits) h.linked k t found r
          (λ is. (
            gets_at_client W x set bound n h.sound number p at may down (λ choice octets. machine.Outcome.Rejects 0) t is,
            Hears n number p t Here at may down is,
          ))
          (client_sends_own.gets context x.readable t apdu)
          (with_same Client q (client_after (here_at n key.client) k t r) (record { number = k; held = Open t }) a.clients.slots found)
          (λ y ne. with_other Client q y (client_after (here_at n key.client) k t r) a.clients.slots ne)
          o.sends acts'.sent turn.sends
          (copied_to links apart w.nodes h.linked n.now key.client key.server (peer_at l) server_at (client.sends_of r) o.sends acts'.sent turn.sends
          (subst (λ (tm : ℕ). AreCopied w.nodes tm key.client o.sends acts'.sent) (sym h.now) acts'.copied))
          o.ended acts'.between turn.ended acts'.ended))
        where
          Known : PeerKey → Client → Type 0
          Known y z = (IsKnown links apart y ⊎ IsStranger links apart y) × (z.number < a.clients.asked)

          open_is : n.tickets key ≡ Some t
          open_is = (ticket_at (is_lost n key) (here_at n key.client) w.notes key.client (n.numbers key) k t (n.tickets key)
              (subst (λ (y : Option Client). TicketFits (is_lost n key) (here_at n key.client) w.notes key.client (n.numbers key) y (n.tickets key)) found fit)).0

          r : client.Reaction
          r = client_on_apdu context x.readable t apdu

          made : ClientEnd
          made = record (a.clients) { slots = with_value same_key q (client_after (here_at n key.client) k t r) a.clients.slots }

      held : (k : ℕ) (y : TransactionSlot) → value_at same_key q a.clients.slots ≡ Some (record { number = k; held = y })
          → IsClientTurn (requester_on_apdu_in_slot s x.readable (here_at n key.client) apdu a.clients q k y) (told w key.client) a b o
          → Goes links apart W x set w w' made_net
      held k (Closed first) is turn = unheard
          (λ u at. closed_idle (is_lost n key) (here_at n key.client) w.notes key.client (n.numbers key) k first u (subst (λ (y : Option ClientTransaction).
          TicketFits (is_lost n key) (here_at n key.client) w.notes key.client (n.numbers key) (Some (record { number = k; held = Closed first })) y) at
          (subst (λ (y : Option Client). TicketFits (is_lost n key) (here_at n key.client) w.notes key.client (n.numbers key) y (n.tickets key)) is fit))) turn
      held k (Open t) is turn = goes k t is turn

      go : (found : Option Client) → value_at same_key q a.clients.slots ≡ found
          → IsClientTurn (requester_on_apdu_at s x.readable (here_at n key.client) apdu a.clients q found) (told w key.client) a b o
          → Goes links apart W x set w w' made_net
      go None is turn = unheard
          (λ u at. sym (ap is_ended at)
          ∙ (subst (λ (y : Option Client). TicketFits (is_lost n key) (here_at n key.client) w.notes key.client (n.numbers key) y (n.tickets key)) is fit).over) turn
      go (Some v) is turn = held v.number v.held is turn

  -- one that few enough overtook
  pub hears : (bound : IsBounded W x) → x.readable ≡ reads_reply → (w w' : World) (n : Net) → Over links apart W x set w n → (number : ℕ) (p : Post) (c : Copy)
      → slice_get n.posts number ≡ Some p
      → IsCopyOf links apart p c → n.now - p.copy.moment ≤ n.pace.life → net.later p.key number n.posts ≤ x.overtake
      → is_from_client p.copy.apdu ≡ false → c.from ≡ p.key.server → c.to ≡ p.key.client
      → (a b : Node) (o : Outcome) → slice_get w.nodes c.to ≡ Some a → (l : Octets) → links c.from ≡ Some l
      → IsClientTurn (requester_on_apdu_at a.settings reads_reply (told w c.to) p.copy.apdu a.clients (slot_key l (invoke_id_of p.copy.apdu))
      (value_at same_key (slot_key l (invoke_id_of p.copy.apdu)) a.clients.slots)) (told w c.to) a b o
      → Acts w c.to b o w' → Goes links apart W x set w w' (taken_by_client x n p (n.tickets p.key))
  hears bound readable w w' n h number p c at copied young few =
      hears_post bound readable w w' n h number p c at copied (may_arrive W x set bound n number p young few)
