-- A client's open tickets that go on, one after the other.
use Rattle.std.proofs.Common.{◌≡◌, ℕ, ◌⊎◌, Bool, true, false, List, [], ◌∷◌, ◌++◌, map, Option, Some, None}
use Rattle.std.proofs.Common.{refl, sym, ap, subst, inl, inr, ◌∙◌}
use Rattle.bac_protocol.specs.Service as machine
use Rattle.bac_protocol.specs.Service.{Octets}
use Rattle.bac_protocol.specs.Wire.{Each}
use Rattle.bac_protocol.specs.Own.{IsOfClient}
use Rattle.bac_protocol.specs.Client as client
use Rattle.bac_protocol.specs.Client.{ClientTransaction, request_of, is_idle}
use Rattle.bac_protocol.specs.Log as octets
use Rattle.bac_reuse.specs.Moves.{IsOrderlySo}
use Rattle.bac_protocol.specs.Transaction.{Key, Rules, ended}
use Rattle.bac_protocol.specs.World.{Net, client_acts, set_at, post_of}
use Rattle.bac_protocol.specs.Claims.{IsBounded}
use Rattle.bac_protocol.proofs.Keys.{set_same, set_other, decide_key}
use Rattle.bac_slots.specs.Slots.{value_at}
use Rattle.bac_transaction.specs.Keys.{PeerKey, same_key}
use Rattle.bac_transaction.specs.Sends.{Datagram, Pairwise, IsSent, to_all}
use Rattle.bac_transaction.specs.Meanings.{EndedView, IsEndedView}
use Rattle.bac_transaction.specs.Ends.{Client, kept, open_unless, ended_with, client_after}
use Rattle.bac_transaction.specs.Ends.TransactionSlot.{Open, Closed}
use Rattle.bac_world.specs.Node.{Node}
use Rattle.bac_world.specs.Once.{Fact, Stores, MayEnd}
use Rattle.bac_world.specs.ReusingLogs.{IsOnceSo}
use Rattle.bac_world.specs.World.{World, Note, Copy, link_at, AreEnded, ask_of, newest, peer_at, IsCopied}
use Rattle.bac_protocol.specs.World.{client_now, is_lost}
use Rattle.bac_world.proofs.Bridge.{here_at, there_at}
use Rattle.bac_protocol.specs.Pace.{Clock}
use Rattle.bac_world.proofs.Steps.{IsAlike, set_elsewhere}
use Rattle.bac_world.proofs.Leads.{Leads}
use Rattle.bac_world.proofs.Leads.Leads.{Here}
use Rattle.bac_world.proofs.Machines.{Sound, orderly, asked_of}
use Rattle.bac_world.proofs.Pairs.{pairwise_join}
use Rattle.bac_world.proofs.Logs.{FactMeans, may_end, unended, unended_away, asked_away_as}
use Rattle.bac_world.proofs.Bridge.{NodeFits, IsStranger, IsCopyOf, TicketFits, AwayNoted, key_of, slot_key, out_key, copies_of, newest_near}
use Rattle.bac_world.proofs.Numbers.{number_one}
use Rattle.bac_protocol.specs.World.{client_acts_away}
use Rattle.bac_protocol.specs.Transaction.{ended_away}
use Rattle.bac_world.specs.World.{is_away, ending_fact}
use Rattle.bac_world.proofs.Steps.{Over}
use Rattle.bac_world.proofs.Settings.{Setting, reusing_in, ever_in}

-- two keys of asks of strangers are one where the slots' keys are
pub out_one : (i : ℕ) (p q : PeerKey) → out_key i p ≡ out_key i q → p ≡ q
out_one i p q is =
    let peer : p.peer ≡ q.peer = number_one p.peer q.peer (ap (λ (k : Key). k.server) is) in
    λ j. record { peer = peer j; invoke_id = (is j).invoke_id }

pub ask_after : (now : ℕ) (t : ClientTransaction) (r : client.Reaction) → (client.after now t r).ask ≡ t.ask
ask_after now t client.Reaction.Stays = refl
ask_after now t (client.Reaction.GoesOn phase sends) = refl
ask_after now t (client.Reaction.Repeats phase sends) = refl
ask_after now t (client.Reaction.Ends sends how) = refl

-- A slot and its ticket.

record IsOpen (s u : ClientTransaction) : Type 0 where
  same : s ≡ u
  goes_on : is_idle u.phase ≡ false

open_is : (s u : ClientTransaction) → Open s ≡ kept u → IsOpen s u
open_is s u e = go (is_idle u.phase) refl e
  where
    go : (b : Bool) → is_idle u.phase ≡ b → Open s ≡ open_unless b u → IsOpen s u
    go true is e = absurd cc
    go false is e = record { same = (let same : s ≡ u = cc in same); goes_on = is }

-- the ticket of an open slot
pub ticket_at : (gone : Bool) (now : ℕ) (notes : List Note) (i number k : ℕ) (t : ClientTransaction) (o : Option ClientTransaction)
    → TicketFits gone now notes i number (Some (record { number = k; held = Open t })) o → (o ≡ Some t) × (ask_of i k notes ≡ Some number)
ticket_at gone now notes i number k t None h = absurd h
ticket_at gone now notes i number k t (Some u) h = let is = open_is t u h.held in (ap Some (sym is.same), h.noted is.goes_on)

-- a slot that has closed is of a ticket that has ended
pub closed_idle : (gone : Bool) (now : ℕ) (notes : List Note) (i number k first : ℕ) (u : ClientTransaction)
    → TicketFits gone now notes i number (Some (record { number = k; held = Closed first })) (Some u) → is_idle u.phase ≡ true
closed_idle gone now notes i number k first u h = go (is_idle u.phase) refl h.held
  where
    go : (b : Bool) → is_idle u.phase ≡ b → Closed first ≡ open_unless b u → b ≡ true
    go true is e = refl
    go false is e = absurd cc

-- What a node's client slots and the net have in common, while some have gone on: what is found in them, and all copies and facts by then.

module _ (links : ℕ → Option Octets) (apart : (i j : ℕ) (l : Octets) → links i ≡ Some l → links j ≡ Some l → i ≡ j) (W : ℕ) (x : Rules)
    (set : Setting) where
  pub record Reached (w : World) (i : ℕ) (n : Net) (look : PeerKey → Option Client) (all : List Copy) (facts : List Fact) (m : Net) : Type 0 where
    pub alike : IsAlike i m n
    pub asks : m.asks ≡ n.asks
    pub entries : m.entries ≡ n.entries
    pub far_entries : m.far.entries ≡ n.far.entries
    pub away : AwayNoted w.notes m
    pub asks_from : m.asks_from ≡ n.asks_from
    pub serves_from : m.serves_from ≡ n.serves_from
    pub noted : (key : Key) (t : ClientTransaction) → m.tickets key ≡ Some t → newest key w.notes ≡ Some (m.numbers key)
    pub found : (s : ℕ) (l : Octets) (id : ℕ) → links s ≡ Some l
        → TicketFits (is_lost m (key_of i s id)) (here_at n i) w.notes i (m.numbers (key_of i s id)) (look (slot_key l id)) (m.tickets (key_of i s id))
    pub strangers : (p : PeerKey) → IsStranger links apart p
        → TicketFits false (here_at n i) w.notes i (m.far.numbers (out_key i p)) (look p) (m.far.tickets (out_key i p))
    pub others : (j : ℕ) (a : Node) → (j ≡ i → ⊥) → NodeFits links apart x (here_at n j) (there_at n j) w.notes n j a → NodeFits links apart x (here_at n j) (there_at n j) w.notes m j a
    pub posts : Pairwise (IsCopyOf links apart) m.posts all
    pub log : Pairwise (FactMeans set) m.log facts
    pub once : (opening stores : Stores) → IsOnceSo (ever_in set) opening w.log stores → IsOnceSo (ever_in set) opening facts stores
    pub sound : Sound W x set m
    pub leads : Leads x n m

  pub reached_none : (w : World) (n : Net) → Over links apart W x set w n → (i : ℕ) (a : Node) → NodeFits links apart x (here_at n i) (there_at n i) w.notes n i a
      → Reached w i n (λ p. value_at same_key p a.clients.slots) w.copies w.log n
  reached_none w n h i a fits = record {
    alike = record { now = refl; pace = refl; here = refl; there = refl; asked = refl; served = λ j ne. refl; sends = refl; tickets = λ k ne. refl; far_tickets = λ k ne. refl; entries = λ k ne. refl; far_entries = λ k ne. refl };
    asks = refl;
    entries = refl;
    far_entries = refl;
    away = h.away;
    strangers = fits.clients.strangers;
    asks_from = refl;
    serves_from = refl;
    noted = h.noted;
    found = fits.clients.found;
    others = λ j b ne f. f;
    posts = h.posts;
    log = h.log;
    once = λ opening stores once. once;
    sound = h.sound;
    leads = Here;
  }

  -- the same with what is found alike
  pub reached_alike : (w : World) (i : ℕ) (n : Net) (look look' : PeerKey → Option Client) (copies : List Copy) (log : List Fact) (m : Net)
      → ((q : PeerKey) → look q ≡ look' q) → Reached w i n look copies log m → Reached w i n look' copies log m
  reached_alike w i n look look' copies log m same h = record {
    alike = h.alike;
    asks = h.asks;
    entries = h.entries;
    far_entries = h.far_entries;
    away = h.away;
    strangers = λ p g. subst (λ (o : Option Client). TicketFits false (here_at n i) w.notes i (m.far.numbers (out_key i p)) o (m.far.tickets (out_key i p)))
        (same p) (h.strangers p g);
    asks_from = h.asks_from;
    serves_from = h.serves_from;
    noted = h.noted;
    found = λ s l id at. subst (λ (o : Option Client). TicketFits (is_lost m (key_of i s id)) (here_at n i) w.notes i (m.numbers (key_of i s id)) o (m.tickets (key_of i s id)))
        (same (slot_key l id)) (h.found s l id at);
    others = h.others;
    posts = h.posts;
    log = h.log;
    once = h.once;
    sound = h.sound;
    leads = h.leads;
  }

  -- One open ticket goes on.

  module _ (bound : IsBounded W x) (w : World) (n : Net) (key : Key) (l li : Octets) (from_at : links key.client ≡ Some li) (to_at : links key.server ≡ Some l)
      (look look' : PeerKey → Option Client) (copies : List Copy) (log : List Fact) (m : Net) (h : Reached w key.client n look copies log m)
      (linked : (k : ℕ) → link_at w.nodes k ≡ links k) (number : ℕ) (t : ClientTransaction)
      (there : look (slot_key l key.invoke_id) ≡ Some (record { number = number; held = Open t })) (r : client.Reaction)
      (goes : m.tickets key ≡ Some t → Sound W x set (client_acts m key t r) × Leads x n (client_acts m key t r))
      (own : Each (IsOfClient key.invoke_id) (client.sends_of r))
      (here : look' (slot_key l key.invoke_id) ≡ Some (client_after (here_at n key.client) number t r))
      (away : (q : PeerKey) → (slot_key l key.invoke_id ≡ q → ⊥) → look' q ≡ look q) where
    abbrev q : PeerKey
    q = slot_key l key.invoke_id

    abbrev made : Option ClientTransaction
    made = Some (client.after (client_now m key) t r)

    is : (m.tickets key ≡ Some t) × (ask_of key.client number w.notes ≡ Some (m.numbers key))
    is = ticket_at (is_lost m key) (here_at n key.client) w.notes key.client (m.numbers key) number t (m.tickets key)
        (subst (λ (o : Option Client). TicketFits (is_lost m key) (here_at n key.client) w.notes key.client (m.numbers key) o (m.tickets key)) there
        (h.found key.server l key.invoke_id to_at))

    sound : Sound W x set (client_acts m key t r)
    sound = (goes is.0).0

    noted : (k : Key) (u : ClientTransaction) → set_at m.tickets key made k ≡ Some u → ((key ≡ k) ⊎ (key ≡ k → ⊥)) → newest k w.notes ≡ Some (m.numbers k)
    noted k u at (inl e) = subst (λ (y : Key). newest y w.notes ≡ Some (m.numbers y)) e (h.noted key t is.0)
    noted k u at (inr ne) = h.noted k u (sym (set_other m.tickets key made k ne) ∙ at)

    fit : TicketFits (is_lost m key) (here_at n key.client) w.notes key.client (m.numbers key) (look' q) (set_at m.tickets key made key)
    fit = subst (λ (o : Option Client). TicketFits (is_lost m key) (here_at n key.client) w.notes key.client (m.numbers key) o (set_at m.tickets key made key)) (sym here)
        (subst (λ (o : Option ClientTransaction). TicketFits (is_lost m key) (here_at n key.client) w.notes key.client (m.numbers key) (Some (client_after (here_at n key.client) number t r)) o)
        (sym (set_same m.tickets key made))
        (record { held = ap (λ (tm : ℕ). kept (client.after tm t r)) (sym (ap (λ (f : ℕ → Clock). (f key.client).shows) h.alike.here)); noted = λ f. is.1 }))

    found : (s : ℕ) (l' : Octets) (id : ℕ) → links s ≡ Some l' → ((key ≡ key_of key.client s id) ⊎ (key ≡ key_of key.client s id → ⊥))
        → TicketFits (is_lost m (key_of key.client s id)) (here_at n key.client) w.notes key.client (m.numbers (key_of key.client s id)) (look' (slot_key l' id)) (set_at m.tickets key made (key_of key.client s id))
    found s l' id at (inl e) =
        let link : l ≡ l' = let f : Some l ≡ Some l' = sym to_at ∙ ap (λ (k : Key). links k.server) e ∙ at in cc in
        let moved : TicketFits (is_lost m (key_of key.client s id)) (here_at n key.client) w.notes key.client (m.numbers (key_of key.client s id)) (look' q) (set_at m.tickets key made (key_of key.client s id)) =
        subst (λ (k : Key). TicketFits (is_lost m k) (here_at n key.client) w.notes key.client (m.numbers k) (look' q) (set_at m.tickets key made k)) e fit in
        subst (λ (p : PeerKey). TicketFits (is_lost m (key_of key.client s id)) (here_at n key.client) w.notes key.client (m.numbers (key_of key.client s id)) (look' p)
        (set_at m.tickets key made (key_of key.client s id))) (λ j. slot_key (link j) (e j).invoke_id) moved
    found s l' id at (inr ne) =
        let other : q ≡ slot_key l' id → ⊥ = λ e.
        let link : l ≡ l' = ap (λ (p : PeerKey). p.peer.link) e in
        let node : key.server ≡ s = apart key.server s l' (to_at ∙ ap Some link) at in
        ne (λ j. key_of key.client (node j) (e j).invoke_id) in
        subst (λ (o : Option Client). TicketFits (is_lost m (key_of key.client s id)) (here_at n key.client) w.notes key.client (m.numbers (key_of key.client s id)) o
        (set_at m.tickets key made (key_of key.client s id))) (sym (away (slot_key l' id) other))
        (subst (λ (o : Option ClientTransaction). TicketFits (is_lost m (key_of key.client s id)) (here_at n key.client) w.notes key.client (m.numbers (key_of key.client s id)) (look (slot_key l' id)) o)
        (sym (set_other m.tickets key made (key_of key.client s id) ne)) (h.found s l' id at))

    strangers : (y : PeerKey) → IsStranger links apart y → TicketFits false (here_at n key.client) w.notes key.client (m.far.numbers (out_key key.client y)) (look' y)
        (m.far.tickets (out_key key.client y))
    strangers y g = subst (λ (o : Option Client). TicketFits false (here_at n key.client) w.notes key.client (m.far.numbers (out_key key.client y)) o
        (m.far.tickets (out_key key.client y))) (sym (away y (λ e. g.none key.server (to_at ∙ ap (λ (z : PeerKey). Some z.peer.link) e)))) (h.strangers y g)

    others : (j : ℕ) (a : Node) → (j ≡ key.client → ⊥) → NodeFits links apart x (here_at n j) (there_at n j) w.notes m j a
        → NodeFits links apart x (here_at n j) (there_at n j) w.notes (client_acts m key t r) j a
    others j a ne f = record {
      settings = f.settings;
      link = f.link;
      asks = f.asks;
      serves = f.serves;
      clients = record {
        distinct = f.clients.distinct;
        known = f.clients.known;
        found = λ s l' id at.
            subst (λ (o : Option ClientTransaction). TicketFits (is_lost m (key_of j s id)) (here_at n j) w.notes j (m.numbers (key_of j s id)) (value_at same_key (slot_key l' id) a.clients.slots) o)
            (sym (set_other m.tickets key made (key_of j s id) (λ e. ne (sym (ap (λ (k : Key). k.client) e))))) (f.clients.found s l' id at);
        strangers = f.clients.strangers;
      };
      servers = record { distinct = f.servers.distinct; known = f.servers.known; found = f.servers.found; strangers = f.servers.strangers };
    }

    -- its ending, if any, enters the log
    record Ends (facts : List octets.Fact) (log' : List Fact) : Type 0 where
      means : Pairwise (FactMeans set) facts log'
      once : (opening stores : Stores) → IsOnceSo (ever_in set) opening w.log stores → IsOnceSo (ever_in set) opening log' stores

    ends : (o : Option machine.Ending) (fs : List EndedView) (log' : List Fact) → Pairwise IsEndedView (ended_with number t.ask.choice o) fs
        → AreEnded w.notes key.client fs log log' → IsOrderlySo (reusing_in set) (ended (m.numbers key) o m.log) → Ends (ended (m.numbers key) o m.log) log'
    ends None [] log' finished logged right = record {
      means = subst (λ (lg : List Fact). Pairwise (FactMeans set) m.log lg) (sym logged) h.log;
      once = λ opening stores once. subst (λ (lg : List Fact). IsOnceSo (ever_in set) opening lg stores) (sym logged) (h.once opening stores once);
    }
    ends None (f ∷ fs) log' finished logged right = absurd finished
    ends (Some how) [] log' finished logged right = absurd finished
    ends (Some how) (f ∷ g ∷ fs) log' finished logged right = absurd finished.1
    ends (Some how) (f ∷ []) log' finished logged right =
        let mine : ask_of key.client f.ticket w.notes ≡ Some (m.numbers key) =
        ap (λ (k : ℕ). ask_of key.client k w.notes) finished.0.ticket ∙ is.1 in
        let num : logged.0 ≡ m.numbers key = let e : Some logged.0 ≡ Some (m.numbers key) = sym logged.1 ∙ mine in cc in
        let log_is : log' ≡ Fact.Ended (m.numbers key) f.how ∷ log = logged.2 ∙ ap (λ (k : ℕ). ending_fact (is_away k w.notes) k f.how ∷ log) num
        ∙ ap (λ (z : Bool). ending_fact z (m.numbers key) f.how ∷ log) (newest_near key w.notes (m.numbers key) (h.noted key t is.0)) in
        let may : MayEnd (m.numbers key) f.how log =
        may_end set (m.numbers key) key.client key.server (request_of t.ask) m.log log h.log right.2 (asked_of W x set bound m h.sound key t is.0)
        how f.how finished.0.how right.0 in
        record {
          means = subst (λ (lg : List Fact). Pairwise (FactMeans set) (octets.Fact.Ended (m.numbers key) how ∷ m.log) lg) (sym log_is)
              ((refl, (t.ask.choice, finished.0.how)), h.log);
          once = λ opening stores once. subst (λ (lg : List Fact). IsOnceSo (ever_in set) opening lg stores) (sym log_is)
              (stores, (may, unended set (m.numbers key) m.log log h.log right.1, λ node. refl), h.once opening stores once);
        }

    pub reacts : (ds : List Datagram) (cs : List Copy) → Pairwise IsSent (to_all (peer_at l) (client.sends_of r)) ds
        → Pairwise (IsCopied w.nodes n.now key.client) ds cs
        → (fs : List EndedView) (log' : List Fact) → Pairwise IsEndedView (ended_with number t.ask.choice (client.ending_of r)) fs
        → AreEnded w.notes key.client fs log log'
        → Reached w key.client n look' (copies ++ cs) log' (client_acts m key t r)
    reacts ds cs sent copied fs log' finished logged =
        let end = ends (client.ending_of r) fs log' finished logged (orderly W x set bound (client_acts m key t r) sound) in
        record {
          alike = record {
            now = h.alike.now;
            pace = h.alike.pace;
            here = h.alike.here;
            there = h.alike.there;
            asked = h.alike.asked;
            served = h.alike.served;
            sends = h.alike.sends;
            tickets = λ k ne. set_elsewhere (λ (y : Key). y.client) m.tickets key (Some (client.after (client_now m key) t r)) k ne ∙ h.alike.tickets k ne;
            far_tickets = h.alike.far_tickets;
            entries = h.alike.entries;
            far_entries = h.alike.far_entries;
          };
          asks = h.asks;
          entries = h.entries;
          far_entries = h.far_entries;
          away = h.away;
          strangers = λ y g. strangers y g;
          asks_from = h.asks_from;
          serves_from = h.serves_from;
          noted = λ k u at. noted k u at (decide_key key k);
          found = λ s l' id at. found s l' id at (decide_key key (key_of key.client s id));
          others = λ j a ne f. others j a ne (h.others j a ne f);
          posts = pairwise_join (IsCopyOf links apart) m.posts (map (post_of key m.now) (client.sends_of r)) copies cs h.posts
              (copies_of links apart w.nodes linked m.now true key key.client key.server li l
              (record { between = (refl, refl); from = from_at; to = to_at }) (client.sends_of r) ds cs own sent
              (subst (λ (tm : ℕ). Pairwise (IsCopied w.nodes tm key.client) ds cs) (sym h.alike.now) copied));
          log = end.means;
          once = end.once;
          sound = sound;
          leads = (goes is.0).1;
        }

  -- One open ticket of an ask of a stranger goes on.

  module _ (bound : IsBounded W x) (w : World) (n : Net) (i : ℕ) (p : PeerKey) (g : IsStranger links apart p)
      (look look' : PeerKey → Option Client) (copies : List Copy) (log : List Fact) (m : Net) (h : Reached w i n look copies log m)
      (number : ℕ) (t : ClientTransaction) (there : look p ≡ Some (record { number = number; held = Open t })) (r : client.Reaction)
      (goes : m.far.tickets (out_key i p) ≡ Some t → Sound W x set (client_acts_away m (out_key i p) t r) × Leads x n (client_acts_away m (out_key i p) t r))
      (here : look' p ≡ Some (client_after (here_at n i) number t r))
      (others_look : (q : PeerKey) → (p ≡ q → ⊥) → look' q ≡ look q) where
    abbrev fkey : Key
    fkey = out_key i p

    abbrev fmade : Option ClientTransaction
    fmade = Some (client.after (client_now m (out_key i p)) t r)

    far_is : (m.far.tickets (out_key i p) ≡ Some t) × (ask_of i number w.notes ≡ Some (m.far.numbers (out_key i p)))
    far_is = ticket_at false (here_at n i) w.notes i (m.far.numbers (out_key i p)) number t (m.far.tickets (out_key i p))
        (subst (λ (o : Option Client). TicketFits false (here_at n i) w.notes i (m.far.numbers (out_key i p)) o (m.far.tickets (out_key i p))) there
        (h.strangers p g))

    far_sound : Sound W x set (client_acts_away m (out_key i p) t r)
    far_sound = (goes far_is.0).0

    far_fit : TicketFits false (here_at n i) w.notes i (m.far.numbers (out_key i p)) (look' p) (set_at m.far.tickets (out_key i p) (Some (client.after (client_now m (out_key i p)) t r)) (out_key i p))
    far_fit = subst (λ (o : Option Client). TicketFits false (here_at n i) w.notes i (m.far.numbers (out_key i p)) o (set_at m.far.tickets fkey fmade fkey)) (sym here)
        (subst (λ (o : Option ClientTransaction). TicketFits false (here_at n i) w.notes i (m.far.numbers (out_key i p)) (Some (client_after (here_at n i) number t r)) o)
        (sym (set_same m.far.tickets fkey fmade))
        (record { held = ap (λ (tm : ℕ). kept (client.after tm t r)) (sym (ap (λ (f : ℕ → Clock). (f i).shows) h.alike.here)); noted = λ f. far_is.1 }))

    far_strangers : (q : PeerKey) → IsStranger links apart q → ((out_key i p ≡ out_key i q) ⊎ (out_key i p ≡ out_key i q → ⊥))
        → TicketFits false (here_at n i) w.notes i (m.far.numbers (out_key i q)) (look' q) (set_at m.far.tickets (out_key i p) (Some (client.after (client_now m (out_key i p)) t r)) (out_key i q))
    far_strangers q f (inl e) = subst (λ (y : PeerKey). TicketFits false (here_at n i) w.notes i (m.far.numbers (out_key i y)) (look' y)
        (set_at m.far.tickets (out_key i p) (Some (client.after (client_now m (out_key i p)) t r)) (out_key i y))) (out_one i p q e) far_fit
    far_strangers q f (inr ne) =
        subst (λ (o : Option Client). TicketFits false (here_at n i) w.notes i (m.far.numbers (out_key i q)) o
        (set_at m.far.tickets fkey fmade (out_key i q))) (sym (others_look q (λ e. ne (ap (out_key i) e))))
        (subst (λ (o : Option ClientTransaction). TicketFits false (here_at n i) w.notes i (m.far.numbers (out_key i q)) (look q) o)
        (sym (set_other m.far.tickets fkey fmade (out_key i q) ne)) (h.strangers q f))

    far_found : (s : ℕ) (l : Octets) (id : ℕ) → links s ≡ Some l
        → TicketFits (is_lost m (key_of i s id)) (here_at n i) w.notes i (m.numbers (key_of i s id)) (look' (slot_key l id)) (m.tickets (key_of i s id))
    far_found s l id at = subst (λ (o : Option Client). TicketFits (is_lost m (key_of i s id)) (here_at n i) w.notes i (m.numbers (key_of i s id)) o (m.tickets (key_of i s id)))
        (sym (others_look (slot_key l id) (λ e. g.none s (at ∙ ap (λ (z : PeerKey). Some z.peer.link) (sym e))))) (h.found s l id at)

    far_away : (k : Key) (u : ClientTransaction) → ((out_key i p ≡ k) ⊎ (out_key i p ≡ k → ⊥)) → set_at m.far.tickets (out_key i p) (Some (client.after (client_now m (out_key i p)) t r)) k ≡ Some u
        → is_away (m.far.numbers k) w.notes ≡ true
    far_away k u (inl e) at = subst (λ (y : Key). is_away (m.far.numbers y) w.notes ≡ true) e (h.away fkey t far_is.0)
    far_away k u (inr ne) at = h.away k u (sym (set_other m.far.tickets fkey fmade k ne) ∙ at)

    far_others : (j : ℕ) (a : Node) → (j ≡ i → ⊥) → NodeFits links apart x (here_at n j) (there_at n j) w.notes m j a
        → NodeFits links apart x (here_at n j) (there_at n j) w.notes (client_acts_away m (out_key i p) t r) j a
    far_others j a ne f = record {
      settings = f.settings;
      link = f.link;
      asks = f.asks;
      serves = f.serves;
      clients = record {
        distinct = f.clients.distinct;
        known = f.clients.known;
        found = f.clients.found;
        strangers = λ q k.
            subst (λ (o : Option ClientTransaction). TicketFits false (here_at n j) w.notes j (m.far.numbers (out_key j q)) (value_at same_key q a.clients.slots) o)
            (sym (set_other m.far.tickets fkey fmade (out_key j q) (λ e. ne (sym (ap (λ (y : Key). y.client) e))))) (f.clients.strangers q k);
      };
      servers = record { distinct = f.servers.distinct; known = f.servers.known; found = f.servers.found; strangers = f.servers.strangers };
    }

    record FarEnds (facts : List octets.Fact) (log' : List Fact) : Type 0 where
      means : Pairwise (FactMeans set) facts log'
      once : (opening stores : Stores) → IsOnceSo (ever_in set) opening w.log stores → IsOnceSo (ever_in set) opening log' stores

    far_ends : (o : Option machine.Ending) (fs : List EndedView) (log' : List Fact) → Pairwise IsEndedView (ended_with number t.ask.choice o) fs
        → AreEnded w.notes i fs log log' → IsOrderlySo (reusing_in set) (ended_away (m.far.numbers (out_key i p)) o m.log) → FarEnds (ended_away (m.far.numbers (out_key i p)) o m.log) log'
    far_ends None [] log' finished logged right = record {
      means = subst (λ (lg : List Fact). Pairwise (FactMeans set) m.log lg) (sym logged) h.log;
      once = λ opening stores once. subst (λ (lg : List Fact). IsOnceSo (ever_in set) opening lg stores) (sym logged) (h.once opening stores once);
    }
    far_ends None (f ∷ fs) log' finished logged right = absurd finished
    far_ends (Some how) [] log' finished logged right = absurd finished
    far_ends (Some how) (f ∷ k ∷ fs) log' finished logged right = absurd finished.1
    far_ends (Some how) (f ∷ []) log' finished logged right =
        let mine : ask_of i f.ticket w.notes ≡ Some (m.far.numbers fkey) =
        ap (λ (k : ℕ). ask_of i k w.notes) finished.0.ticket ∙ far_is.1 in
        let num : logged.0 ≡ m.far.numbers fkey = let e : Some logged.0 ≡ Some (m.far.numbers fkey) = sym logged.1 ∙ mine in cc in
        let log_is : log' ≡ Fact.EndedAway (m.far.numbers fkey) f.how ∷ log = logged.2 ∙ ap (λ (k : ℕ). ending_fact (is_away k w.notes) k f.how ∷ log) num
        ∙ ap (λ (z : Bool). ending_fact z (m.far.numbers fkey) f.how ∷ log) (h.away fkey t far_is.0) in
        record {
          means = subst (λ (lg : List Fact). Pairwise (FactMeans set) (octets.Fact.EndedAway (m.far.numbers fkey) how ∷ m.log) lg) (sym log_is) (refl, h.log);
          once = λ opening stores once. subst (λ (lg : List Fact). IsOnceSo (ever_in set) opening lg stores) (sym log_is) (
            stores,
            (
              asked_away_as set (m.far.numbers fkey) right.0.0 right.0.1 right.0.2 m.log log h.log right.0.3,
              unended_away set (m.far.numbers fkey) m.log log h.log right.1,
              λ node. refl,
            ),
            h.once opening stores once,
          );
        }

    pub reacts_stranger : (fs : List EndedView) (log' : List Fact) → Pairwise IsEndedView (ended_with number t.ask.choice (client.ending_of r)) fs
        → AreEnded w.notes i fs log log'
        → Reached w i n look' copies log' (client_acts_away m (out_key i p) t r)
    reacts_stranger fs log' finished logged =
        let end = far_ends (client.ending_of r) fs log' finished logged (orderly W x set bound (client_acts_away m fkey t r) far_sound) in
        record {
          alike = record {
            now = h.alike.now;
            pace = h.alike.pace;
            here = h.alike.here;
            there = h.alike.there;
            asked = h.alike.asked;
            served = h.alike.served;
            sends = h.alike.sends;
            tickets = h.alike.tickets;
            far_tickets = λ k ne. set_elsewhere (λ (y : Key). y.client) m.far.tickets fkey fmade k ne ∙ h.alike.far_tickets k ne;
            entries = h.alike.entries;
            far_entries = h.alike.far_entries;
          };
          asks = h.asks;
          entries = h.entries;
          far_entries = h.far_entries;
          asks_from = h.asks_from;
          serves_from = h.serves_from;
          noted = h.noted;
          away = λ k u at. far_away k u (decide_key fkey k) at;
          found = far_found;
          strangers = λ q f. far_strangers q f (decide_key fkey (out_key i q));
          others = λ j a ne f. far_others j a ne (h.others j a ne f);
          posts = h.posts;
          log = end.means;
          once = end.once;
          sound = far_sound;
          leads = (goes far_is.0).1;
        }
