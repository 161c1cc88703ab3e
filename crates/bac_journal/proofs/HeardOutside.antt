-- What comes of a stranger's datagram that a node hears can enter the world.
use Rattle.std.proofs.Common.{◌≡◌, ℕ, ◌+◌, ◌≤◌, Bool, true, false, List, length, Option, Some, None, slice_get, if◌then◌else◌}
use Rattle.std.proofs.Common.{refl, sym, ap, subst, inr, ◌∙◌, arith}
use Rattle.bac_apdu.specs.Apdu.{Apdu}
use Rattle.bac_npdu.specs.Peers.{PeerView}
use Rattle.bac_service.specs.Services.{reads_reply}
use Rattle.bac_protocol.specs.Context.{Settings, Context}
use Rattle.bac_protocol.specs.Service.{Octets}
use Rattle.bac_protocol.specs.Client as client
use Rattle.bac_protocol.specs.Client.{ClientTransaction, client_on_apdu}
use Rattle.bac_protocol.specs.Server as server
use Rattle.bac_protocol.specs.Server.{ServerTransaction, Effect, Service, live_entry, is_live}
use Rattle.bac_protocol.specs.Reuse.{server_hears}
use Rattle.bac_protocol.specs.Transaction.{Key, Rules}
use Rattle.bac_protocol.specs.Pace.{Clock}
use Rattle.bac_protocol.specs.World.{Net}
use Rattle.bac_protocol.specs.Claims.{IsBounded}
use Rattle.bac_protocol.proofs.Served.{effects_are_kept}
use Rattle.bac_slots.specs.Slots.{value_at}
use Rattle.bac_transaction.specs.Keys.{PeerKey, same_key}
use Rattle.bac_transaction.specs.Sends.{IsSent, to_all}
use Rattle.bac_transaction.specs.Meanings.{EndedView, IsEndedView}
use Rattle.bac_transaction.specs.Ends.{Client, ClientTurn, TransactionSlot, act_at, put_entry, context_of, client_goes, requester_on_apdu_at}
use Rattle.bac_transaction.specs.Ends.{requester_on_apdu_in_slot, stays, key_of as heard_key}
use Rattle.bac_transaction.specs.Reuse.{is_read}
use Rattle.bac_transaction.specs.Ends.TransactionSlot.{Open, Closed}
use Rattle.bac_transaction.specs.Services.{service_of}
use Rattle.bac_transaction.proofs.Entries.{entry_here}
use Rattle.bac_world.specs.Services.{Performed, ArePerformed}
use Rattle.bac_world.specs.Node.{Node, Outcome, IsServerTurn, IsClientTurn}
use Rattle.bac_world.specs.World.{World, told}
use Rattle.bac_world.proofs.Pairs.{pairwise_none}
use Rattle.bac_world.proofs.Bridge.{IsStranger, TicketFits, here_at, there_at, out_key, stranger_key}
use Rattle.bac_world.proofs.Steps.{Over, Fits}
use Rattle.bac_world.proofs.StrangersHeard.{live_for}
use Rattle.bac_world.proofs.Table.{none_left}
use Rattle.bac_world.proofs.Hearing.{ticket_at}
use Rattle.bac_world.proofs.Heard.{IsHeardInBy}
use Rattle.bac_world.proofs.Settings.{free_for, hears_at, Mode}
use Rattle.bac_world.proofs.Reused.{hears_same}
use Rattle.bac_journal.specs.Entering.{Every, IsNoted, AreOfPeerSo}
use Rattle.bac_journal.proofs.Few.{EntryFew, client_gets_few, hears_few, far_entries_few}
use Rattle.bac_journal.proofs.Copied.{paired_length, sent_to, leave_away, can_end}
use Rattle.bac_journal.proofs.Heard.{Enters, none_performed, nothing_enters}

-- a live entry is there
some_of : (now : ℕ) (d : ServerTransaction) (o : Option ServerTransaction) → live_entry now o ≡ Some d → (e : ServerTransaction) × (o ≡ Some e)
some_of now d None is = absurd cc
some_of now d (Some e) is = (e, refl)

few_live : (W now : ℕ) (o : Option ServerTransaction) → EntryFew W o → EntryFew W (live_entry now o)
few_live W now None h = h
few_live W now (Some e) h = go (is_live now e)
  where
    go : (b : Bool) → EntryFew W (if b then Some e else None)
    go true = h
    go false = tt

-- what was performed is of that key
performed_key : (store : _) (p : PeerKey) (e : Option Effect) (d : Performed) → ArePerformed store (act_at p e) (Some d) → (x : Effect) × (e ≡ Some x) × (d.key ≡ p)
performed_key store p None d done = absurd done
performed_key store p (Some x) d done = (x, refl, done.key)

module _ (links : ℕ → Option Octets) (apart : (i j : ℕ) (l : Octets) → links i ≡ Some l → links j ≡ Some l → i ≡ j) (W : ℕ) (x : Rules)
    (bound : IsBounded W x) (mode : Mode) (w : World) (n : Net) (h : Over links apart W x (Some mode) w n) (i : ℕ) (peer : PeerView) (apdu : Apdu)
    (stranger : (k : ℕ) → links k ≡ Some peer.link → ⊥) (a b : Node) (o : Outcome) (node : slice_get w.nodes i ≡ Some a) where
  abbrev p : PeerKey
  p = heard_key peer apdu

  g : IsStranger links apart (heard_key peer apdu)
  g = record { none = stranger }

  fits : Fits links apart W x (Some mode) w n n i a
  fits = h.nodes i a node

  small : a.settings.window ≤ W
  small = subst (λ (c : Settings). c.window ≤ W) (sym fits.settings) (bound.windows i)

  -- At the server's end.

  module _ (allowed : Bool) (turn : IsServerTurn (hears_at allowed (mode.now i) a.settings (told w i) (service_of a.store) (heard_key peer apdu) apdu a.servers) (told w i) a b o) where
    abbrev now : ℕ
    now = told w i

    abbrev context : Context
    context = context_of a.settings (told w i) (heard_key peer apdu)

    abbrev service : Service
    service = service_of a.store

    -- whether an entry may begin then
    abbrev free : Bool → Bool
    free reuse = free_for allowed reuse (told w i) (heard_key peer apdu) apdu a.servers

    abbrev entry : Option ServerTransaction
    entry = value_at same_key (heard_key peer apdu) a.servers.slots

    abbrev gets_so : Bool → Option ServerTransaction → server.Reaction
    gets_so reuse e = server_hears reuse (context_of a.settings (told w i) (heard_key peer apdu)) (service_of a.store) is_read e (free reuse) apdu

    abbrev gets : Option ServerTransaction → server.Reaction
    gets e = gets_so (mode.now i) e

    few : length o.sends ≤ W + 1
    few =
        let there : there_at n i ≡ told w i = ap (λ (y : Clock). y.shows) (h.there i) in
        let net : Option ServerTransaction = n.far.entries (stranger_key i p) in
        let live : live_entry now entry ≡ live_entry now net =
        subst (λ (t : ℕ). live_entry t entry ≡ live_entry t net) there (fits.servers.strangers p g) in
        let short : EntryFew W (live_entry now entry) =
        subst (EntryFew W) (sym live) (few_live W now net (far_entries_few W x bound mode n h.sound (stranger_key i p))) in
        let sends = (hears_same context service (free (mode.now i)) (mode.now i) entry apdu).sends in
        let fewer = (hears_few context service W bound.some small is_read (mode.now i) (live_entry now entry) (free (mode.now i)) apdu short).sends in
        let same : length (gets entry).sends ≡ length (gets (live_entry now entry)).sends = ap (λ (l : List Apdu). length l) sends in
        let all : length o.sends ≡ length (gets entry).sends =
        paired_length IsSent (to_all peer (gets entry).sends) o.sends turn.sends ∙ sent_to peer (gets entry).sends in
        omega arith

    -- where it lets no invoke ID be used again, what was performed is kept in the entry
    of_stranger : (reuse : Bool) → IsServerTurn (hears_at allowed reuse a.settings (told w i) (service_of a.store) p apdu a.servers) (told w i) a b o
        → (d : Option Performed) → o.performed ≡ d → AreOfPeerSo reuse w i b d
    of_stranger true turn None is = tt
    of_stranger false turn None is = tt
    of_stranger true turn (Some d) is =
        let done = performed_key a.store p (gets_so true entry).effect d (subst (ArePerformed a.store (act_at p (gets_so true entry).effect)) is turn.performed) in
        inr (λ k at. stranger k (sym (h.linked k) ∙ at ∙ ap (λ (y : PeerKey). Some y.peer.link) done.2))
    of_stranger false turn (Some d) is =
        let done = performed_key a.store p (gets_so false entry).effect d (subst (ArePerformed a.store (act_at p (gets_so false entry).effect)) is turn.performed) in
        let kept = effects_are_kept.gets context service entry (free false) apdu done.0 done.1 in
        let live : live_entry now (gets_so false entry).entry ≡ Some kept.entry = ap (live_entry now) kept.after
        ∙ ap (λ z. if z then Some kept.entry else None) (live_for now apdu entry kept.entry kept.for) in
        let here : live_entry now (value_at same_key p (put_entry now p (gets_so false entry).entry a.servers.slots))
        ≡ live_entry now (gets_so false entry).entry =
        entry_here now p a.servers.slots fits.servers.distinct (gets_so false entry).entry (none_left context service entry (free false) apdu) in
        let found = some_of now kept.entry (value_at same_key p (put_entry now p (gets_so false entry).entry a.servers.slots)) (here ∙ live) in
        inr (record {
          stranger = λ k at. stranger k (sym (h.linked k) ∙ at ∙ ap (λ (y : PeerKey). Some y.peer.link) done.2);
          entry = found.0;
          kept = ap (λ (y : PeerKey). value_at same_key y b.servers.slots) done.2 ∙ ap (λ (y : Node). value_at same_key p y.servers.slots) turn.node ∙ found.1;
        })

    server_outside : Enters links apart W x bound mode w n h i b o
    server_outside = record {
      can = record {
        sends = leave_away links apart w h.linked w.notes i peer stranger (gets entry).sends o.sends turn.sends;
        ended = subst (Every (IsNoted w i)) (sym turn.ended) tt;
        performed = of_stranger (mode.now i) turn o.performed refl;
      };
      few = few;
      one = (let e : length o.ended ≡ 0 = ap (λ (fs : List EndedView). length fs) turn.ended in omega arith);
    }

  -- At the client's end.

  abbrev Turn : ClientTurn → Type 0
  Turn t = IsClientTurn t (told w i) a b o

  still : Turn (stays a.clients) → Enters links apart W x bound mode w n h i b o
  still t = nothing_enters links apart W x bound mode w n h i b o (pairwise_none IsSent o.sends t.sends) (pairwise_none IsEndedView o.ended t.ended) t.performed

  goes : (k : ℕ) (t : ClientTransaction) → value_at same_key p a.clients.slots ≡ Some (record { number = k; held = Open t })
      → Turn (client_goes (told w i) a.clients p k t (client_on_apdu (context_of a.settings (told w i) p) reads_reply t apdu))
      → Enters links apart W x bound mode w n h i b o
  goes k t found turn =
      let context : Context = context_of a.settings (told w i) p in
      let r : client.Reaction = client_on_apdu context reads_reply t apdu in
      let key : Key = out_key i p in
      let fit : TicketFits false (here_at n i) w.notes i (n.far.numbers key) (Some (record { number = k; held = Open t })) (n.far.tickets key) =
      subst (λ (y : Option Client). TicketFits false (here_at n i) w.notes i (n.far.numbers key) y (n.far.tickets key)) found (fits.clients.strangers p g) in
      let noted = (ticket_at false (here_at n i) w.notes i (n.far.numbers key) k t (n.far.tickets key) fit).1 in
      let ends = can_end links apart w h.linked i k (n.far.numbers key) noted t.ask.choice (client.ending_of r) o.ended turn.ended in
      let fewer : length (client.sends_of r) ≤ W + 1 = client_gets_few context reads_reply W bound.some small t apdu in
      let all : length o.sends ≡ length (client.sends_of r) =
      paired_length IsSent (to_all peer (client.sends_of r)) o.sends turn.sends ∙ sent_to peer (client.sends_of r) in
      record {
        can = record {
          sends = leave_away links apart w h.linked w.notes i peer stranger (client.sends_of r) o.sends turn.sends;
          ended = ends.0;
          performed = none_performed links apart W x bound mode w n h i b o turn.performed;
        };
        few = omega arith;
        one = ends.1;
      }

  held : (k : ℕ) (y : TransactionSlot) → value_at same_key p a.clients.slots ≡ Some (record { number = k; held = y })
      → Turn (requester_on_apdu_in_slot a.settings reads_reply (told w i) apdu a.clients p k y) → Enters links apart W x bound mode w n h i b o
  held k (Closed first) is turn = still turn
  held k (Open t) is turn = goes k t is turn

  slot : (found : Option Client) → value_at same_key p a.clients.slots ≡ found
      → Turn (requester_on_apdu_at a.settings reads_reply (told w i) apdu a.clients p found) → Enters links apart W x bound mode w n h i b o
  slot None is turn = still turn
  slot (Some v) is turn = held v.number v.held is turn

  pub stranger_enters : (up : Bool) → IsHeardInBy (mode.now i) up peer apdu (told w i) a b o → Enters links apart W x bound mode w n h i b o
  stranger_enters true turn = server_outside turn.0 turn.1
  stranger_enters false turn = slot (value_at same_key p a.clients.slots) refl turn
