-- What comes of a tick or of an ask can enter the world.
use Rattle.std.proofs.Common.{◌≡◌, ℕ, ◌+◌, ◌<◌, ◌≤◌, Bool, true, false, List, [], ◌∷◌, ◌++◌, length, Option, Some, None, slice_get, if◌then◌else◌}
use Rattle.std.proofs.Common.{◌⊎◌, inl, inr, refl, sym, ap, subst, ◌∙◌, arith}
use Rattle.bac_apdu.specs.Apdu.{Apdu, Limits}
use Rattle.bac_service.specs.Values.{Request, choice_of}
use Rattle.bac_protocol.specs.Context.{Settings, Context}
use Rattle.bac_protocol.specs.Service.{Octets}
use Rattle.bac_protocol.specs.Own.{IsOwnEntry}
use Rattle.bac_protocol.specs.Client as client
use Rattle.bac_protocol.specs.Client.{Ask, ClientTransaction, client_ticks, asks}
use Rattle.bac_protocol.specs.Server as server
use Rattle.bac_protocol.specs.Server.{ServerTransaction, is_live, live_entry, server_ticks}
use Rattle.bac_protocol.specs.Transaction.{Key, Rules}
use Rattle.bac_protocol.specs.Pace.{Clock}
use Rattle.bac_protocol.specs.World.{Net, is_lost}
use Rattle.bac_protocol.specs.World as machine
use Rattle.bac_protocol.proofs.Keys.{same_key_self}
use Rattle.bac_reuse.proofs.ReusingMoves as moves
use Rattle.bac_protocol.specs.Claims.{IsBounded}
use Rattle.bac_protocol.proofs.Own.{client_sends_own, server_sends_own}
use Rattle.bac_slots.specs.Slots.{value_at, in_order}
use Rattle.bac_transaction.specs.Keys.{PeerKey, peer_key_cmp, same_key}
use Rattle.bac_transaction.specs.Sends.{Datagram, Pairwise, IsSent, to_all}
use Rattle.bac_transaction.specs.Meanings.{EndedView, IsEndedView}
use Rattle.bac_transaction.specs.Ends.{ClientSlot, ServerSlot, Client, TransactionSlot, Accepted, context_of, from_each}
use Rattle.bac_transaction.specs.Ends.{client_tick_sends, client_tick_ends, held_tick_sends, held_tick_ends, server_tick_sends}
use Rattle.bac_transaction.specs.Ends.TransactionSlot.{Open, Closed}
use Rattle.bac_world.specs.Node.{Node, Outcome, NodeTick, NodeAsks}
use Rattle.bac_world.specs.World.{World, Note, told, link_at, peer_at, newest, ask_of}
use Rattle.bac_transaction.proofs.KeyedSlots.{EachSlot, each_so, each_in_order}
use Rattle.bac_world.specs.ReusingLogs.{Reuses}
use Rattle.bac_world.proofs.Machines.{own_of}
use Rattle.bac_world.proofs.Settings.{Mode, reusing_in}
use Rattle.bac_world.proofs.Pairs.{pairwise_split}
use Rattle.bac_world.proofs.Bridge.{IsKnown, IsStranger, TicketFits, out_key, here_at, there_at, key_of, slot_key}
use Rattle.bac_world.proofs.Steps.{Over, Fits}
use Rattle.bac_world.proofs.Serving.{each_of_server}
use Rattle.bac_world.proofs.Hearing.{ticket_at}
use Rattle.bac_world.proofs.Asking.{accepted_is}
use Rattle.bac_journal.specs.Entering.{Every, CanBeCopied, CanLeave, IsNoted, AreOfPeer, CanEnter, WasAsked, note_of}
use Rattle.bac_journal.proofs.Few.{asks_few}
use Rattle.bac_journal.proofs.Copied.{every_join, paired_length, sent_length, each_found, can_all, leave_all, leave_away, can_end}

module _ (links : ℕ → Option Octets) (apart : (i j : ℕ) (l : Octets) → links i ≡ Some l → links j ≡ Some l → i ≡ j) (W : ℕ) (x : Rules)
    (bound : IsBounded W x) (mode : Mode) (w : World) (n : Net) (h : Over links apart W x (Some mode) w n) where
  -- Ticks.

  module _ (i : ℕ) (a : Node) (at : slice_get w.nodes i ≡ Some a) (c : Settings) where
    abbrev clients : List ClientSlot
    clients = a.clients.slots

    abbrev entries : List ServerSlot
    entries = a.servers.slots

    fits : Fits links apart W x (Some mode) w n n i a
    fits = h.nodes i a at

    peer_is : (q : PeerKey) → (k : IsKnown links apart q) → q ≡ slot_key k.link q.invoke_id
    peer_is q k = λ j. record { peer = k.peer j; invoke_id = q.invoke_id }

    -- a client's slot
    ticket_of : (q : PeerKey) → (k : IsKnown links apart q) → (number : ℕ) (t : ClientTransaction)
        → value_at same_key q a.clients.slots ≡ Some (record { number = number; held = Open t })
        → (n.tickets (key_of i k.node q.invoke_id) ≡ Some t) × (ask_of i number w.notes ≡ Some (n.numbers (key_of i k.node q.invoke_id)))
    ticket_of q k number t found =
        let key : Key = key_of i k.node q.invoke_id in
        let there : value_at same_key (slot_key k.link q.invoke_id) a.clients.slots ≡ Some (record { number = number; held = Open t }) =
        subst (λ (y : PeerKey). value_at same_key y a.clients.slots ≡ Some (record { number = number; held = Open t })) (peer_is q k) found in
        let fit : TicketFits (is_lost n key) (here_at n i) w.notes i (n.numbers key) (Some (record { number = number; held = Open t })) (n.tickets key) =
        subst (λ (y : Option Client). TicketFits (is_lost n key) (here_at n i) w.notes i (n.numbers key) y (n.tickets key)) there
        (fits.clients.found k.node k.link q.invoke_id k.at) in
        ticket_at (is_lost n key) (here_at n i) w.notes i (n.numbers key) number t (n.tickets key) fit

    -- of a stranger
    ticket_away : (q : PeerKey) → IsStranger links apart q → (number : ℕ) (t : ClientTransaction)
        → value_at same_key q a.clients.slots ≡ Some (record { number = number; held = Open t }) → ask_of i number w.notes ≡ Some (n.far.numbers (out_key i q))
    ticket_away q g number t found =
        let key : Key = out_key i q in
        let fit : TicketFits false (here_at n i) w.notes i (n.far.numbers key) (Some (record { number = number; held = Open t })) (n.far.tickets key) =
        subst (λ (y : Option Client). TicketFits false (here_at n i) w.notes i (n.far.numbers key) y (n.far.tickets key)) found
        (fits.clients.strangers q g) in
        (ticket_at false (here_at n i) w.notes i (n.far.numbers key) number t (n.far.tickets key) fit).1

    abbrev Peer : PeerKey → Type 0
    Peer q = IsKnown links apart q ⊎ IsStranger links apart q

    held_sends : (y : TransactionSlot) (q : PeerKey) → Peer q → (number : ℕ)
        → value_at same_key q a.clients.slots ≡ Some (record { number = number; held = y }) → (ds : List Datagram)
        → Pairwise IsSent (held_tick_sends (context_of c (told w i) q) q.peer y) ds → Every (CanLeave w.nodes w.notes w.time.now i) ds
    held_sends (Closed first) q k number found [] s = tt
    held_sends (Closed first) q k number found (d ∷ ds) s = absurd s
    held_sends (Open t) q (inr g) number found ds s =
        leave_away links apart w h.linked w.notes i q.peer g.none (client.sends_of (client_ticks (context_of c (told w i) q) t)) ds s
    held_sends (Open t) q (inl k) number found ds s =
        let key : Key = key_of i k.node q.invoke_id in
        let sends : List Apdu = client.sends_of (client_ticks (context_of c (told w i) q) t) in
        leave_all links apart w h.linked true key i k.node a.link k.link (record { between = (refl, refl); from = fits.link; to = k.at })
        w.notes (n.numbers key, h.noted key t (ticket_of q k number t found).0) sends ds
        (client_sends_own.ticks (context_of c (told w i) q) t)
        (subst (λ y. Pairwise IsSent (to_all y sends) ds) k.peer s)

    held_ends : (y : TransactionSlot) (q : PeerKey) → Peer q → (number : ℕ)
        → value_at same_key q a.clients.slots ≡ Some (record { number = number; held = y }) → (fs : List EndedView)
        → Pairwise IsEndedView (held_tick_ends (context_of c (told w i) q) number y) fs → Every (IsNoted w i) fs
    held_ends (Closed first) q k number found [] s = tt
    held_ends (Closed first) q k number found (f ∷ fs) s = absurd s
    held_ends (Open t) q (inr g) number found fs s =
        (can_end links apart w h.linked i number (n.far.numbers (out_key i q)) (ticket_away q g number t found) t.ask.choice
        (client.ending_of (client_ticks (context_of c (told w i) q) t)) fs s).0
    held_ends (Open t) q (inl k) number found fs s =
        let key : Key = key_of i k.node q.invoke_id in
        (can_end links apart w h.linked i number (n.numbers key) (ticket_of q k number t found).1 t.ask.choice (client.ending_of (client_ticks (context_of c (told w i) q) t)) fs s).0

    abbrev IsClientSlot : PeerKey → Client → Type 0
    IsClientSlot q v = Peer q

    abbrev IsFoundClient : PeerKey → Client → Type 0
    IsFoundClient q v = value_at same_key q a.clients.slots ≡ Some v

    clients_send : (os : List ClientSlot) → EachSlot Client IsClientSlot os → EachSlot Client IsFoundClient os → (ds : List Datagram)
        → Pairwise IsSent (from_each (client_tick_sends c (told w i)) os) ds → Every (CanLeave w.nodes w.notes w.time.now i) ds
    clients_send [] k f [] s = tt
    clients_send [] k f (d ∷ ds) s = absurd s
    clients_send (o ∷ os) k f ds s =
        let y = pairwise_split IsSent (client_tick_sends c (told w i) o) (from_each (client_tick_sends c (told w i)) os) ds s in
        subst (Every (CanLeave w.nodes w.notes w.time.now i)) (sym y.is)
        (every_join (CanLeave w.nodes w.notes w.time.now i) y.front y.rest (held_sends o.value.held o.key k.0 o.value.number f.0 y.front y.first)
        (clients_send os k.1 f.1 y.rest y.second))

    clients_end : (os : List ClientSlot) → EachSlot Client IsClientSlot os → EachSlot Client IsFoundClient os → (fs : List EndedView)
        → Pairwise IsEndedView (from_each (client_tick_ends c (told w i)) os) fs → Every (IsNoted w i) fs
    clients_end [] k f [] s = tt
    clients_end [] k f (d ∷ ds) s = absurd s
    clients_end (o ∷ os) k f fs s =
        let y = pairwise_split IsEndedView (client_tick_ends c (told w i) o) (from_each (client_tick_ends c (told w i)) os) fs s in
        subst (Every (IsNoted w i)) (sym y.is)
        (every_join (IsNoted w i) y.front y.rest (held_ends o.value.held o.key k.0 o.value.number f.0 y.front y.first)
        (clients_end os k.1 f.1 y.rest y.second))

    -- an entry: the net's own is the same while it is live
    abbrev IsServerSlot : PeerKey → ServerTransaction → Type 0
    IsServerSlot q d = Peer q

    abbrev IsFoundEntry : PeerKey → ServerTransaction → Type 0
    IsFoundEntry q d = value_at same_key q a.servers.slots ≡ Some d

    live_own : (d : ServerTransaction) → is_live (there_at n i) d ≡ true → (o : Option ServerTransaction) → live_entry (there_at n i) (Some d) ≡ live_entry (there_at n i) o → o ≡ Some d
    live_own d live None is = let e : Some d ≡ None = sym (ap (λ b. if b then Some d else None) live) ∙ is in cc
    live_own d live (Some e) is = go (is_live (there_at n i) e) (sym (ap (λ b. if b then Some d else None) live) ∙ is)
      where
        go : (b : Bool) → Some d ≡ (if b then Some e else None) → Some e ≡ Some d
        go true s = sym s
        go false s = cc

    -- an entry's transaction was asked
    entry_asked : (key : Key) (d : ServerTransaction) → n.entries key ≡ Some d → WasAsked w.notes key
    entry_asked key d is = go (n.tickets key) refl
      where
        go : (o : Option ClientTransaction) → n.tickets key ≡ o → WasAsked w.notes key
        go None e = absurd (let no : Some d ≡ None = sym is ∙ (moves.in_order_so_in W (reusing_in (Some mode)) h.sound.0 h.sound.2 h.sound.1 mode.now n h.sound.3).entered key e in cc)
        go (Some t) e = (n.numbers key, h.noted key t e)

    live_sends : (d : ServerTransaction) (q : PeerKey) → (k : IsKnown links apart q) → value_at same_key q a.servers.slots ≡ Some d → is_live (told w i) d ≡ true
        → (ds : List Datagram) → Pairwise IsSent (to_all q.peer (server_ticks (context_of c (told w i) q) (Some d)).sends) ds → Every (CanLeave w.nodes w.notes w.time.now i) ds
    live_sends d q k found live ds s =
        let key : Key = key_of k.node i q.invoke_id in
        let there : value_at same_key (slot_key k.link q.invoke_id) a.servers.slots ≡ Some d =
        subst (λ (y : PeerKey). value_at same_key y a.servers.slots ≡ Some d) (peer_is q k) found in
        let live' : is_live (there_at n i) d ≡ true = ap (λ (t : ℕ). is_live t d) (ap (λ (y : Clock). y.shows) (h.there i)) ∙ live in
        let here : n.entries key ≡ Some d = live_own d live' (n.entries key)
        (ap (live_entry (there_at n i)) (sym there) ∙ fits.servers.found k.node k.link q.invoke_id k.at) in
        let own : IsOwnEntry q.invoke_id (Some d) = subst (IsOwnEntry q.invoke_id) here (own_of W x (Some mode) bound n h.sound key) in
        let sends : List Apdu = (server_ticks (context_of c (told w i) q) (Some d)).sends in
        leave_all links apart w h.linked false key i k.node a.link k.link (record { between = (refl, refl); from = fits.link; to = k.at })
        w.notes (entry_asked key d here) sends ds
        (each_of_server q.invoke_id sends (server_sends_own.ticks (context_of c (told w i) q) (Some d) own).0)
        (subst (λ y. Pairwise IsSent (to_all y sends) ds) k.peer s)

    dead_sends : (d : ServerTransaction) (q : PeerKey) → is_live (told w i) d ≡ false → (ds : List Datagram)
        → Pairwise IsSent (to_all q.peer (server_ticks (context_of c (told w i) q) (Some d)).sends) ds → Every (CanLeave w.nodes w.notes w.time.now i) ds
    dead_sends d q dead ds s = none ds (subst (λ (v : server.Reaction). Pairwise IsSent (to_all q.peer v.sends) ds) still s)
      where
        still : server_ticks (context_of c (told w i) q) (Some d) ≡ server.rests (Some d) []
        still = ap (λ b. if b then server.live_ticks (context_of c (told w i) q) d d.state else server.rests (Some d) []) dead

        none : (ds : List Datagram) → Pairwise IsSent [] ds → Every (CanLeave w.nodes w.notes w.time.now i) ds
        none [] s = tt
        none (d ∷ ds) s = absurd s

    entry_sends : (d : ServerTransaction) (q : PeerKey) → Peer q → value_at same_key q a.servers.slots ≡ Some d
        → (ds : List Datagram) → Pairwise IsSent (to_all q.peer (server_ticks (context_of c (told w i) q) (Some d)).sends) ds → Every (CanLeave w.nodes w.notes w.time.now i) ds
    entry_sends d q (inr g) found ds s =
        leave_away links apart w h.linked w.notes i q.peer g.none (server_ticks (context_of c (told w i) q) (Some d)).sends ds s
    entry_sends d q (inl k) found ds s = go (is_live (told w i) d) refl
      where
        go : (b : Bool) → is_live (told w i) d ≡ b → Every (CanLeave w.nodes w.notes w.time.now i) ds
        go true e = live_sends d q k found e ds s
        go false e = dead_sends d q e ds s

    entries_send : (os : List ServerSlot) → EachSlot ServerTransaction IsServerSlot os → EachSlot ServerTransaction IsFoundEntry os → (ds : List Datagram)
        → Pairwise IsSent (from_each (server_tick_sends c (told w i)) os) ds → Every (CanLeave w.nodes w.notes w.time.now i) ds
    entries_send [] k f [] s = tt
    entries_send [] k f (d ∷ ds) s = absurd s
    entries_send (o ∷ os) k f ds s =
        let y = pairwise_split IsSent (server_tick_sends c (told w i) o) (from_each (server_tick_sends c (told w i)) os) ds s in
        subst (Every (CanLeave w.nodes w.notes w.time.now i)) (sym y.is)
        (every_join (CanLeave w.nodes w.notes w.time.now i) y.front y.rest (entry_sends o.value o.key k.0 f.0 y.front y.first) (entries_send os k.1 f.1 y.rest y.second))

    known_clients : EachSlot Client IsClientSlot (in_order peer_key_cmp a.clients.slots)
    known_clients = each_in_order Client IsClientSlot a.clients.slots
        (each_so Client (λ p v. Peer p × (v.number < a.clients.asked)) IsClientSlot (λ p v y. y.0) a.clients.slots fits.clients.known)

    found_clients : EachSlot Client IsFoundClient (in_order peer_key_cmp a.clients.slots)
    found_clients = each_in_order Client IsFoundClient a.clients.slots (each_found Client a.clients.slots fits.clients.distinct)

    known_entries : EachSlot ServerTransaction IsServerSlot (in_order peer_key_cmp a.servers.slots)
    known_entries = each_in_order ServerTransaction IsServerSlot a.servers.slots fits.servers.known

    found_entries : EachSlot ServerTransaction IsFoundEntry (in_order peer_key_cmp a.servers.slots)
    found_entries = each_in_order ServerTransaction IsFoundEntry a.servers.slots (each_found ServerTransaction a.servers.slots fits.servers.distinct)

    all_send : (ds : List Datagram)
        → Pairwise IsSent (from_each (client_tick_sends c (told w i)) (in_order peer_key_cmp a.clients.slots)
        ++ from_each (server_tick_sends c (told w i)) (in_order peer_key_cmp a.servers.slots)) ds → Every (CanLeave w.nodes w.notes w.time.now i) ds
    all_send ds s =
        let y = pairwise_split IsSent (from_each (client_tick_sends c (told w i)) (in_order peer_key_cmp a.clients.slots))
        (from_each (server_tick_sends c (told w i)) (in_order peer_key_cmp a.servers.slots)) ds s in
        subst (Every (CanLeave w.nodes w.notes w.time.now i)) (sym y.is)
        (every_join (CanLeave w.nodes w.notes w.time.now i) y.front y.rest
        (clients_send (in_order peer_key_cmp a.clients.slots) known_clients found_clients y.front y.first)
        (entries_send (in_order peer_key_cmp a.servers.slots) known_entries found_entries y.rest y.second))

    all_end : (fs : List EndedView) → Pairwise IsEndedView (from_each (client_tick_ends c (told w i)) (in_order peer_key_cmp a.clients.slots)) fs
        → Every (IsNoted w i) fs
    all_end fs s = clients_end (in_order peer_key_cmp a.clients.slots) known_clients found_clients fs s

  pub tick_enters : (i : ℕ) (a b : Node) (o : Outcome) → slice_get w.nodes i ≡ Some a → NodeTick (told w i) a b o → CanEnter w i b o
  tick_enters i a b o at t = record {
    sends = all_send i a at a.settings o.sends t.sends;
    ended = all_end i a at a.settings o.ended t.ended;
    performed = subst (AreOfPeer w i b) (sym t.performed) tt;
  }

  -- An ask.

  pub ask_enters : (i s : ℕ) (a b : Node) (l : Octets) (limits : Limits) (r : Request) (accepted : Accepted) (ds : List Datagram)
      → slice_get w.nodes i ≡ Some a → link_at w.nodes s ≡ Some l → NodeAsks (told w i) (peer_at l) limits r a b accepted ds
      → Every (CanBeCopied w.nodes (note_of i s accepted.invoke_id accepted.ticket ∷ w.notes) w.time.now i) ds × (length ds ≤ W + 1)
  ask_enters i s a b l limits r accepted ds at to k =
      let parts = accepted_is a.settings (told w i) (peer_at l) (choice_of r) k.octets a.clients accepted limits k.accepted in
      let ask : Ask = record { first = (told w i); choice = choice_of r; whole = parts.whole; pieces = parts.front ∷ parts.rest } in
      let context : Context = context_of a.settings (told w i) (slot_key l parts.id) in
      let sends : List Apdu = client.sends_of (asks context ask) in
      let sent : Pairwise IsSent (to_all (peer_at l) sends) ds = subst (λ (y : Accepted). Pairwise IsSent y.sends ds) parts.is k.sent in
      let fit = (h.nodes i a at).link in
      let few : length sends ≤ W + 1 = asks_few context W bound.some ask in
      let all : length ds ≡ length sends = paired_length IsSent (to_all (peer_at l) sends) ds sent ∙ sent_length l sends in
      let key : Key = key_of i s parts.id in
      let notes : List Note = note_of i s accepted.invoke_id accepted.ticket ∷ w.notes in
      let same : machine.same_key (key_of i s accepted.invoke_id) key ≡ true =
      ap (λ (y : Accepted). machine.same_key (key_of i s y.invoke_id) key) parts.is ∙ same_key_self key in
      let asked : WasAsked notes key = (length w.notes, ap (λ b. if b then Some (length w.notes) else newest key w.notes) same) in (
        can_all links apart w h.linked true key i s a.link l
            (record { between = (refl, refl); from = fit; to = sym (h.linked s) ∙ to }) notes asked sends ds (client_sends_own.asks context ask) sent,
        omega arith,
      )
