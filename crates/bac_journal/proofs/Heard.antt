-- What comes of a copy that a node hears can enter the world.
use Rattle.std.proofs.Common.{◌≡◌, ℕ, ◌+◌, ◌≤◌, Bool, true, false, List, [], length, Option, Some, None, slice_get}
use Rattle.std.proofs.Common.{inl, refl, sym, ap, subst, ◌∙◌, arith}
use Rattle.bac_apdu.specs.Apdu.{Apdu}
use Rattle.bac_service.specs.Services.{reads_reply}
use Rattle.bac_protocol.specs.Context.{Settings, Context}
use Rattle.bac_protocol.specs.Service.{Octets}
use Rattle.bac_protocol.specs.Wire.{is_from_client, Each}
use Rattle.bac_protocol.specs.Own.{invoke_id_of}
use Rattle.bac_protocol.specs.Client as client
use Rattle.bac_protocol.specs.Client.{ClientTransaction, client_on_apdu}
use Rattle.bac_protocol.specs.Server as server
use Rattle.bac_protocol.specs.Server.{ServerTransaction, Effect, Service}
use Rattle.bac_protocol.specs.Reuse.{server_hears}
use Rattle.bac_protocol.specs.Transaction.{Key, Rules, server_context}
use Rattle.bac_protocol.specs.Pace.{Clock}
use Rattle.bac_protocol.specs.World.{Net, Post, is_lost}
use Rattle.bac_protocol.specs.Claims.{IsBounded}
use Rattle.bac_protocol.specs.Steps.{IsSameReaction}
use Rattle.bac_protocol.proofs.Own.{client_sends_own}
use Rattle.bac_slots.specs.Slots.{value_at}
use Rattle.bac_transaction.specs.Keys.{PeerKey, same_key}
use Rattle.bac_transaction.specs.Sends.{Datagram, Pairwise, IsSent, to_all}
use Rattle.bac_transaction.specs.Meanings.{EndedView, IsEndedView}
use Rattle.bac_transaction.specs.Ends.{Client, ClientTurn, TransactionSlot, act_at, context_of, client_goes, requester_on_apdu, requester_on_apdu_at, requester_on_apdu_in_slot}
use Rattle.bac_transaction.specs.Ends.{stays}
use Rattle.bac_transaction.specs.Reuse.{is_read}
use Rattle.bac_transaction.specs.Ends.TransactionSlot.{Open, Closed}
use Rattle.bac_world.specs.Services.{Performed, ArePerformed}
use Rattle.bac_world.specs.Node.{Node, Outcome, IsServerTurn, IsClientTurn}
use Rattle.bac_world.specs.World.{World, told, newest, peer_at}
use Rattle.bac_world.proofs.Machines.{own_of, ticket_of}
use Rattle.bac_world.proofs.Pairs.{pairwise_none}
use Rattle.bac_world.proofs.Bridge.{IsWay, TicketFits, here_at, there_at, key_of, slot_key}
use Rattle.bac_world.proofs.Steps.{Over, Fits}
use Rattle.bac_world.proofs.Serving.{each_of_server}
use Rattle.bac_world.proofs.Settings.{free_for, hears_at, Mode}
use Rattle.bac_world.proofs.Reused.{alike_by_live, hears_own, hears_same}
use Rattle.bac_world.proofs.Hearing.{ticket_at}
use Rattle.bac_journal.specs.Entering.{Every, CanLeave, IsNoted, IsOfClient, AreOfPeerSo, CanEnterSo}
use Rattle.bac_journal.proofs.Few.{client_gets_few, hears_few, entries_few}
use Rattle.bac_journal.proofs.Copied.{paired_length, sent_length, leave_all, can_end}

module _ (links : ℕ → Option Octets) (apart : (i j : ℕ) (l : Octets) → links i ≡ Some l → links j ≡ Some l → i ≡ j) (W : ℕ) (x : Rules)
    (bound : IsBounded W x) (mode : Mode) (w : World) (n : Net) (h : Over links apart W x (Some mode) w n) where
  pub record Enters (i : ℕ) (b : Node) (o : Outcome) : Type 0 where
    pub can : CanEnterSo (mode.now i) w i b o
    pub few : length o.sends ≤ W + 1
    pub one : length o.ended ≤ 1

  pub none_performed : (i : ℕ) (b : Node) (o : Outcome) → o.performed ≡ None → AreOfPeerSo (mode.now i) w i b o.performed
  none_performed i b o performed = subst (AreOfPeerSo (mode.now i) w i b) (sym performed) (go (mode.now i))
    where
      go : (reuse : Bool) → AreOfPeerSo reuse w i b None
      go true = tt
      go false = tt

  pub nothing_enters : (i : ℕ) (b : Node) (o : Outcome) → o.sends ≡ [] → o.ended ≡ [] → o.performed ≡ None → Enters i b o
  nothing_enters i b o sends ended performed = record {
    can = record {
      sends = subst (Every (CanLeave w.nodes w.notes w.time.now i)) (sym sends) tt;
      ended = subst (Every (IsNoted w i)) (sym ended) tt;
      performed = none_performed i b o performed;
    };
    few = (let e : length o.sends ≡ 0 = ap (λ (ds : List Datagram). length ds) sends in omega arith);
    one = (let e : length o.ended ≡ 0 = ap (λ (fs : List EndedView). length fs) ended in omega arith);
  }

  -- An APDU of a client, at its server.

  module _ (number : ℕ) (p : Post) (at : slice_get n.posts number ≡ Some p) (a b : Node) (o : Outcome)
      (node : slice_get w.nodes p.key.server ≡ Some a) (l : Octets)
      (client_at : links p.key.client ≡ Some l) (invoke : invoke_id_of p.copy.apdu ≡ p.key.invoke_id) (service : Service)
      (allowed : Bool)
      (turn : IsServerTurn (hears_at allowed (mode.now p.key.server) a.settings (told w p.key.server) service (slot_key l (invoke_id_of p.copy.apdu)) p.copy.apdu a.servers)
      (told w p.key.server) a b o) where
    abbrev key : Key
    key = p.key

    abbrev apdu : Apdu
    apdu = p.copy.apdu

    abbrev q : PeerKey
    q = slot_key l p.key.invoke_id

    fits : Fits links apart W x (Some mode) w n n p.key.server a
    fits = h.nodes p.key.server a node

    abbrev context : Context
    context = server_context x p.key (there_at n p.key.server)

    abbrev reuse : Bool
    reuse = mode.now p.key.server

    -- whether an entry may begin then
    abbrev free : Bool
    free = free_for allowed (mode.now p.key.server) (there_at n p.key.server) (slot_key l p.key.invoke_id) p.copy.apdu a.servers

    abbrev gets : Option ServerTransaction → server.Reaction
    gets e = server_hears (mode.now p.key.server) (server_context x p.key (there_at n p.key.server)) service is_read e free p.copy.apdu

    abbrev v : server.Reaction
    v = gets (value_at same_key (slot_key l p.key.invoke_id) a.servers.slots)

    abbrev u : server.Reaction
    u = gets (n.entries p.key)

    sends_is : Pairwise IsSent (to_all (peer_at l) v.sends) o.sends
    sends_is = so (x.settings key.server) (there_at n p.key.server) key.invoke_id (sym fits.settings) (ap (λ (c : Clock). c.shows) (h.there p.key.server)) (sym invoke) turn.sends
      where
        sends_for : Settings → (now id : ℕ) → List Apdu
        sends_for c now id = (server_hears reuse (context_of c now (slot_key l id)) service is_read (value_at same_key (slot_key l id) a.servers.slots)
            (free_for allowed reuse now (slot_key l id) apdu a.servers) apdu).sends

        so : (c : Settings) (now id : ℕ) → c ≡ a.settings → now ≡ (told w p.key.server) → id ≡ invoke_id_of apdu
            → Pairwise IsSent (to_all (peer_at l) (sends_for a.settings (told w p.key.server) (invoke_id_of apdu))) o.sends
            → Pairwise IsSent (to_all (peer_at l) (sends_for c now id)) o.sends
        so c now id e f g s = subst (λ (y : Settings). Pairwise IsSent (to_all (peer_at l) (sends_for y now id)) o.sends) (sym e)
            (subst (λ (y : ℕ). Pairwise IsSent (to_all (peer_at l) (sends_for a.settings y id)) o.sends) (sym f)
            (subst (λ (y : ℕ). Pairwise IsSent (to_all (peer_at l) (sends_for a.settings (told w p.key.server) y)) o.sends) (sym g) s))

    done : (d : Performed) → o.performed ≡ Some d → d.key ≡ q
    done d is = so heard.effect (subst (λ (y : Option Performed). ArePerformed a.store (act_at (slot_key l (invoke_id_of apdu)) heard.effect) y) is turn.performed)
      where
        heard : server.Reaction
        heard = server_hears reuse (context_of a.settings (told w p.key.server) (slot_key l (invoke_id_of apdu))) service is_read
            (value_at same_key (slot_key l (invoke_id_of apdu)) a.servers.slots)
            (free_for allowed reuse (told w p.key.server) (slot_key l (invoke_id_of apdu)) apdu a.servers) apdu

        so : (e : Option Effect) → ArePerformed a.store (act_at (slot_key l (invoke_id_of apdu)) e) (Some d) → d.key ≡ q
        so None y = absurd y
        so (Some e) y = y.key ∙ ap (slot_key l) invoke

    same : IsSameReaction (there_at n p.key.server) v u
    same = alike_by_live (there_at n p.key.server) gets (λ e. hears_same context service free reuse e apdu)
        (value_at same_key q a.servers.slots) (n.entries key) (fits.servers.found key.client l key.invoke_id client_at)

    sent : Pairwise IsSent (to_all (peer_at l) u.sends) o.sends
    sent = subst (λ (l' : List Apdu). Pairwise IsSent (to_all (peer_at l) l') o.sends) same.sends sends_is

    way : IsWay links apart false p.key p.key.server p.key.client a.link l
    way = record { between = (refl, refl); from = fits.link; to = client_at }

    own : Each (λ y. (is_from_client y ≡ false) × (invoke_id_of y ≡ p.key.invoke_id)) u.sends
    own = each_of_server key.invoke_id u.sends
        (hears_own context service free reuse (n.entries key) (own_of W x (Some mode) bound n h.sound key) apdu)

    ticket : (t : ClientTransaction) × (n.tickets p.key ≡ Some t)
    ticket = ticket_of W x (Some mode) bound n h.sound number p at

    client_of : (d : Performed) → o.performed ≡ Some d → IsOfClient w p.key.server d
    client_of d is = record {
      client = key.client;
      number = n.numbers key;
      link = h.linked key.client ∙ client_at ∙ ap (λ (y : PeerKey). Some y.peer.link) (sym (done d is));
      noted = ap (λ (k : Key). newest k w.notes) (λ i. key_of key.client key.server (done d is i).invoke_id) ∙ h.noted key ticket.0 ticket.1;
    }

    of_client : (either : Bool) (d : Option Performed) → o.performed ≡ d → AreOfPeerSo either w p.key.server b d
    of_client true None is = tt
    of_client true (Some d) is = inl (client_of d is)
    of_client false None is = tt
    of_client false (Some d) is = inl (client_of d is)

    few : length o.sends ≤ W + 1
    few =
        let small : length u.sends ≤ W + 1 = (hears_few context service W bound.some (bound.windows key.server) is_read reuse (n.entries key) free apdu
        (entries_few W x bound mode n h.sound key)).sends in
        let all : length o.sends ≡ length u.sends = paired_length IsSent (to_all (peer_at l) u.sends) o.sends sent ∙ sent_length l u.sends in
        omega arith

    pub server_enters : Enters p.key.server b o
    server_enters = record {
      can = record {
        sends = leave_all links apart w h.linked false key key.server key.client a.link l way w.notes (n.numbers key, h.noted key ticket.0 ticket.1)
            u.sends o.sends own sent;
        ended = subst (Every (IsNoted w key.server)) (sym turn.ended) tt;
        performed = of_client reuse o.performed refl;
      };
      few = few;
      one = (let e : length o.ended ≡ 0 = ap (λ (fs : List EndedView). length fs) turn.ended in omega arith);
    }

  -- An APDU of a server, at its client.

  module _ (p : Post) (a b : Node) (o : Outcome) (node : slice_get w.nodes p.key.client ≡ Some a) (l : Octets)
      (server_at : links p.key.server ≡ Some l) (invoke : invoke_id_of p.copy.apdu ≡ p.key.invoke_id) where
    abbrev Turn : ClientTurn → Type 0
    Turn t = IsClientTurn t (told w p.key.client) a b o

    still : Turn (stays a.clients) → Enters p.key.client b o
    still t = nothing_enters p.key.client b o (pairwise_none IsSent o.sends t.sends) (pairwise_none IsEndedView o.ended t.ended) t.performed

    at_client : Fits links apart W x (Some mode) w n n p.key.client a
    at_client = h.nodes p.key.client a node

    goes : (k : ℕ) (t : ClientTransaction) → value_at same_key (slot_key l p.key.invoke_id) a.clients.slots ≡ Some (record { number = k; held = Open t })
        → (now : ℕ) (c : Settings) → c.window ≤ W
        → Turn (client_goes now a.clients (slot_key l p.key.invoke_id) k t
        (client_on_apdu (context_of c now (slot_key l p.key.invoke_id)) reads_reply t p.copy.apdu)) → Enters p.key.client b o
    goes k t found now c small turn =
        let context : Context = context_of c now (slot_key l p.key.invoke_id) in
        let r : client.Reaction = client_on_apdu context reads_reply t p.copy.apdu in
        let fit : TicketFits (is_lost n p.key) (here_at n p.key.client) w.notes p.key.client (n.numbers p.key) (Some (record { number = k; held = Open t })) (n.tickets p.key) =
        subst (λ (y : Option Client). TicketFits (is_lost n p.key) (here_at n p.key.client) w.notes p.key.client (n.numbers p.key) y (n.tickets p.key)) found
        (at_client.clients.found p.key.server l p.key.invoke_id server_at) in
        let there = ticket_at (is_lost n p.key) (here_at n p.key.client) w.notes p.key.client (n.numbers p.key) k t (n.tickets p.key) fit in
        let noted = there.1 in
        let ends = can_end links apart w h.linked p.key.client k (n.numbers p.key) noted t.ask.choice (client.ending_of r) o.ended turn.ended in
        let fewer : length (client.sends_of r) ≤ W + 1 = client_gets_few context reads_reply W bound.some small t p.copy.apdu in
        let all : length o.sends ≡ length (client.sends_of r) =
        paired_length IsSent (to_all (peer_at l) (client.sends_of r)) o.sends turn.sends ∙ sent_length l (client.sends_of r) in
        record {
          can = record {
            sends = leave_all links apart w h.linked true p.key p.key.client p.key.server a.link l
                (record { between = (refl, refl); from = at_client.link; to = server_at }) w.notes (n.numbers p.key, h.noted p.key t there.0)
                (client.sends_of r) o.sends
                (client_sends_own.gets context reads_reply t p.copy.apdu) turn.sends;
            ended = ends.0;
            performed = none_performed p.key.client b o turn.performed;
          };
          few = omega arith;
          one = ends.1;
        }

    held : (k : ℕ) (y : TransactionSlot) → value_at same_key (slot_key l p.key.invoke_id) a.clients.slots ≡ Some (record { number = k; held = y })
        → Turn (requester_on_apdu_in_slot a.settings reads_reply (told w p.key.client) p.copy.apdu a.clients (slot_key l p.key.invoke_id) k y) → Enters p.key.client b o
    held k (Closed first) is turn = still turn
    held k (Open t) is turn = goes k t is (told w p.key.client) a.settings (subst (λ (c : Settings). c.window ≤ W) (sym at_client.settings) (bound.windows p.key.client)) turn

    slot : (found : Option Client) → value_at same_key (slot_key l p.key.invoke_id) a.clients.slots ≡ found
        → Turn (requester_on_apdu_at a.settings reads_reply (told w p.key.client) p.copy.apdu a.clients (slot_key l p.key.invoke_id) found) → Enters p.key.client b o
    slot None is turn = still turn
    slot (Some v) is turn = held v.number v.held is turn

    pub client_enters : Turn (requester_on_apdu a.settings reads_reply (told w p.key.client) (peer_at l) p.copy.apdu a.clients) → Enters p.key.client b o
    client_enters turn = slot (value_at same_key (slot_key l p.key.invoke_id) a.clients.slots) refl
        (subst (λ (id : ℕ). Turn (requester_on_apdu_at a.settings reads_reply (told w p.key.client) p.copy.apdu a.clients (slot_key l id)
        (value_at same_key (slot_key l id) a.clients.slots))) invoke turn)
