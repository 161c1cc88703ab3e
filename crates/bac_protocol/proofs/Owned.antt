-- In every run all copies are their transactions' own, and have the windows of their ends.
use Rattle.std.proofs.Common.{◌≡◌, ℕ, zero, suc, ◌-◌, ◌⊎◌, Bool, true, false, ◌&&◌, ◌||◌, List, [], ◌∷◌, ◌++◌, map, Option, Some, None, slice_get}
use Rattle.std.proofs.Common.{if◌then◌else◌, nat_le, nat_eq, refl, sym, subst, inl, inr, arith}
use Rattle.bac_apdu.specs.Apdu.{Apdu}
use Rattle.bac_apdu.specs.Apdu.Apdu.{ConfirmedRequest, ComplexAck}
use Rattle.bac_protocol.specs.Pace.{Pace}
use Rattle.bac_protocol.specs.World.{client_now, server_now}
use Rattle.bac_protocol.specs.Wire.{is_from_client, Each}
use Rattle.bac_protocol.specs.Client as client
use Rattle.bac_protocol.specs.Client.{Ask, ClientTransaction, new_ticket}
use Rattle.bac_protocol.specs.Service.{Reply}
use Rattle.bac_protocol.specs.Server as server
use Rattle.bac_protocol.specs.Server.{ServerTransaction}
use Rattle.bac_protocol.specs.Log.{StoreModel}
use Rattle.bac_protocol.specs.Transaction.{Key, Rules, client_context, server_context}
use Rattle.bac_protocol.specs.World.{Net, World, Post, Event, post_of, set_at, later, client_acts, server_acts, is_id_held, is_room, lost, ask_made}
use Rattle.bac_protocol.specs.World.{takes_at_client, takes_at_server, arrives, delivered, ticks_ticket, ticks_as_client, ticks_as_server, serves}
use Rattle.bac_protocol.specs.World.{service_of, is_short, is_active, begun, is_quiet, begun_again, happens, run, start}
use Rattle.bac_protocol.specs.World.Event.{MakeAsk, Deliver, Tick, Noise, Advance, Change, RestartClient, RestartServer, Begin, BeginAgain, Stray, AskAway, TickAway}
use Rattle.bac_protocol.specs.Own.{EntryHas, PhaseHas, TicketHas, IsLesser, IsSentByClient, IsSentByServer, IsOwnPost, AreOwn}
use Rattle.bac_protocol.specs.World.{serves_away, is_id_held_away, strays_to_server, strays_to_client, asked_away, ticks_ticket_away, ticks_as_client_away}
use Rattle.bac_protocol.specs.World.{ticks_as_server_away}
use Rattle.bac_protocol.proofs.Keys.{decide_key, set_same, set_other}
use Rattle.bac_protocol.proofs.Own.{ClientSends, BeginsAnswer, Own, own_sends, own_after, gets_own, ticks_own, asks_own}
use Rattle.bac_protocol.proofs.Own.{ServerSends, BeginsRequest, IsOwnAs, server_gets_own, server_ticks_own}

module _ (x : Rules) where
  -- what each end sends has its window, and the lesser of both in SegmentACKs
  client_has : (key : Key) (now : ℕ) → ClientSends (client_context x key now) (IsSentByClient x key) (IsLesser x key)
  client_has key now = record {
    whole = λ ask. ((refl, refl), tt);
    piece = λ choice ps n. ((refl, refl), refl);
    ack = λ nak number window h. ((refl, refl), h);
    abort = λ reason. ((refl, refl), tt);
  }

  server_has : (key : Key) (now : ℕ) → ServerSends (server_context x key now) (IsSentByServer x key) (IsLesser x key)
  server_has key now = record {
    whole = whole;
    piece = λ choice ps n. ((refl, refl), refl);
    ack = λ nak number window h. ((refl, refl), h);
    reject = λ reason. ((refl, refl), tt);
    abort = λ reason. ((refl, refl), tt);
  }
    where
      whole : (choice : ℕ) (p : Reply) → IsSentByServer x key (server.reply_apdu (server_context x key now) choice p)
      whole choice Reply.Simple = ((refl, refl), tt)
      whole choice (Reply.Complex o) = ((refl, refl), tt)
      whole choice (Reply.Error class code) = ((refl, refl), tt)

  abbrev IsSent : Key → Apdu → Type 0
  IsSent key a = IsSentByClient x key a ⊎ IsSentByServer x key a

  -- so a reassembly begins with the lesser of both
  begins_request : (key : Key) (a : Apdu) → is_from_client a ≡ true → IsSent key a → BeginsRequest (x.settings key.server).window (IsLesser x key) a
  begins_request key (ConfirmedRequest limits i (Some g) choice o) up (inl h) = let own = h.1 in omega arith
  begins_request key (ConfirmedRequest limits i (Some g) choice o) up (inr h) = let other = h.0.0 in absurd cc
  begins_request key _ up h = tt

  begins_answer : (key : Key) (a : Apdu) → is_from_client a ≡ false → IsSent key a → BeginsAnswer (x.settings key.client).window (IsLesser x key) a
  begins_answer key (ComplexAck i (Some g) choice o) down (inl h) = let other = h.0.0 in absurd cc
  begins_answer key (ComplexAck i (Some g) choice o) down (inr h) = let own = h.1 in omega arith
  begins_answer key _ down h = tt

  abbrev AllOwn : List Post → Type 0
  AllOwn [] = Unit {0}
  AllOwn (p ∷ posts) = IsOwnPost x p × AllOwn posts

  own_at : (posts : List Post) → AllOwn posts → (number : ℕ) (p : Post) → slice_get posts number ≡ Some p → IsOwnPost x p
  own_at [] h number p e = absurd cc
  own_at (q ∷ posts) h zero p e = let same : q ≡ p = cc in subst (IsOwnPost x) same h.0
  own_at (q ∷ posts) h (suc number) p e = own_at posts h.1 number p e

  own_join : (xs ys : List Post) → AllOwn xs → AllOwn ys → AllOwn (xs ++ ys)
  own_join [] ys h k = k
  own_join (p ∷ xs) ys h k = (h.0, own_join xs ys h.1 k)

  from_client : (key : Key) (now : ℕ) (sends : List Apdu) → Each (IsSentByClient x key) sends → AllOwn (map (post_of key now) sends)
  from_client key now [] h = tt
  from_client key now (a ∷ more) h = (inl h.0, from_client key now more h.1)

  from_server : (key : Key) (now : ℕ) (sends : List Apdu) → Each (IsSentByServer x key) sends → AllOwn (map (post_of key now) sends)
  from_server key now [] h = tt
  from_server key now (a ∷ more) h = (inr h.0, from_server key now more h.1)

  abbrev EntryAt : (Key → Option ServerTransaction) → Key → Type 0
  EntryAt entries key = EntryHas (IsSentByServer x key) (IsLesser x key) (entries key)

  abbrev TicketAt : (Key → Option ClientTransaction) → Key → Type 0
  TicketAt tickets key = TicketHas (IsLesser x key) (tickets key)

  record Owned (n : Net) : Type 0 where
    posts : AllOwn n.posts
    entries : (key : Key) → EntryAt n.entries key
    tickets : (key : Key) → TicketAt n.tickets key

  -- one ticket or one entry is another
  tickets_set : (tickets : Key → Option ClientTransaction) → ((key : Key) → TicketAt tickets key) → (key : Key) (o : Option ClientTransaction) → TicketHas (IsLesser x key) o
      → (k : Key) → TicketAt (set_at tickets key o) k
  tickets_set tickets h key o own k = go (decide_key key k)
    where
      go : ((key ≡ k) ⊎ (key ≡ k → ⊥)) → TicketAt (set_at tickets key o) k
      go (inl is) = subst (λ (j : Key). TicketAt (set_at tickets key o) j) is (subst (TicketHas (IsLesser x key)) (sym (set_same tickets key o)) own)
      go (inr ne) = subst (TicketHas (IsLesser x k)) (sym (set_other tickets key o k ne)) (h k)

  entries_set : (entries : Key → Option ServerTransaction) → ((key : Key) → EntryAt entries key) → (key : Key) (o : Option ServerTransaction)
      → EntryHas (IsSentByServer x key) (IsLesser x key) o → (k : Key) → EntryAt (set_at entries key o) k
  entries_set entries h key o own k = go (decide_key key k)
    where
      go : ((key ≡ k) ⊎ (key ≡ k → ⊥)) → EntryAt (set_at entries key o) k
      go (inl is) = subst (λ (j : Key). EntryAt (set_at entries key o) j) is
          (subst (EntryHas (IsSentByServer x key) (IsLesser x key)) (sym (set_same entries key o)) own)
      go (inr ne) = subst (EntryHas (IsSentByServer x k) (IsLesser x k)) (sym (set_other entries key o k ne)) (h k)

  -- the reaction of a client is its own
  abbrev IsOwn : Key → ℕ → client.Reaction → Type 0
  IsOwn key now r = Own (client_context x key now) x.readable (IsSentByClient x key) (IsLesser x key) (client_has key now) r

  client_owned : (n : Net) → Owned n → (key : Key) (t : ClientTransaction) → PhaseHas (IsLesser x key) t.phase → (r : client.Reaction) → IsOwn key (client_now n key) r
      → Owned (client_acts n key t r)
  client_owned n h key t k r own =
      let c = client_context x key (client_now n key) in
      let sends = own_sends c x.readable (IsSentByClient x key) (IsLesser x key) (client_has key (client_now n key)) r own in
      let next = own_after c x.readable (IsSentByClient x key) (IsLesser x key) (client_has key (client_now n key)) t k r own in
      record {
        posts = own_join n.posts (map (post_of key n.now) (client.sends_of r)) h.posts (from_client key n.now (client.sends_of r) sends);
        entries = h.entries;
        tickets = tickets_set n.tickets h.tickets key (Some (client.after (client_now n key) t r)) next;
      }

  server_owned : (n : Net) → Owned n → (key : Key) (v : server.Reaction) → IsOwnAs (IsSentByServer x key) (IsLesser x key) v
      → Owned (server_acts n key v)
  server_owned n h key v own = record {
    posts = own_join n.posts (map (post_of key n.now) v.sends) h.posts (from_server key n.now v.sends own.0);
    entries = entries_set n.entries h.entries key v.entry own.1;
    tickets = h.tickets;
  }

  module _ (S : Type 0) (model : StoreModel S) where
    ask_owned : (w : World S) → Owned w.net → (key : Key) (ask : Ask) (b : Bool) → Owned (if b then w else ask_made S x w key ask).net
    ask_owned w h key ask true = h
    ask_owned w h key ask false =
        let c = client_context x key (client_now w.net key) in
        let now = w.net.now in
        let r = client.asks c ask in
        let own = asks_own c x.readable (IsSentByClient x key) (IsLesser x key) (client_has key (client_now w.net key)) ask in
        let sends = own_sends c x.readable (IsSentByClient x key) (IsLesser x key) (client_has key (client_now w.net key)) r own in
        let next = own_after c x.readable (IsSentByClient x key) (IsLesser x key) (client_has key (client_now w.net key)) (new_ticket (client_now w.net key) ask) tt r own in
        record {
          posts = own_join w.net.posts (map (post_of key now) (client.sends_of r)) h.posts (from_client key now (client.sends_of r) sends);
          entries = h.entries;
          tickets = tickets_set w.net.tickets h.tickets key (Some (client.asked_ticket c ask)) next;
        }

    takes_owned : (w : World S) → Owned w.net → (key : Key) (a : Apdu) → is_from_client a ≡ false → IsSent key a → (o : Option ClientTransaction)
        → TicketHas (IsLesser x key) o → Owned (takes_at_client S x w key a o).net
    takes_owned w h key a down sent None k = h
    takes_owned w h key a down sent (Some t) k =
        let c = client_context x key (client_now w.net key) in
        client_owned w.net h key t k (client.client_on_apdu c x.readable t a)
        (gets_own c x.readable (IsSentByClient x key) (IsLesser x key) (client_has key (client_now w.net key)) t k a (begins_answer key a down sent))

    arrives_owned : (w : World S) → Owned w.net → (key : Key) (free : Bool) (a : Apdu) → IsSent key a → (up : Bool) → is_from_client a ≡ up
        → Owned (if up then takes_at_server S model x w key free a else takes_at_client S x w key a (w.net.tickets key)).net
    arrives_owned w h key free a sent true up =
        let c = server_context x key (server_now w.net key) in
        server_owned w.net h key (server.server_on_apdu c (service_of S model w key) (w.net.entries key) (is_room w.net key free) a)
        (server_gets_own c (service_of S model w key) (IsSentByServer x key) (IsLesser x key) (server_has key (server_now w.net key)) (w.net.entries key) (is_room w.net key free) a
        (begins_request key a up sent) (h.entries key))
    arrives_owned w h key free a sent false down = takes_owned w h key a down sent (w.net.tickets key) (h.tickets key)

    delivered_owned : (w : World S) → Owned w.net → (number : ℕ) (free : Bool) (o : Option Post) → slice_get w.net.posts number ≡ o
        → Owned (delivered S model x w number free o).net
    delivered_owned w h number free None e = h
    delivered_owned w h number free (Some p) e = go (nat_le (w.net.now - p.copy.moment) w.net.pace.life && (nat_le (later p.key number w.net.posts) x.overtake || is_short w.net p.key))
      where
        go : (b : Bool) → Owned (if b then arrives S model x w p.key free p.copy.apdu else w).net
        go true = arrives_owned w h p.key free p.copy.apdu (own_at w.net.posts h.posts number p e) (is_from_client p.copy.apdu) refl
        go false = h

    ticket_owned : (w : World S) → Owned w.net → (key : Key) (o : Option ClientTransaction) → TicketHas (IsLesser x key) o → Owned (ticks_ticket S x w key o).net
    ticket_owned w h key None k = h
    ticket_owned w h key (Some t) k =
        let c = client_context x key (client_now w.net key) in
        client_owned w.net h key t k (client.client_ticks c t)
        (ticks_own c x.readable (IsSentByClient x key) (IsLesser x key) (client_has key (client_now w.net key)) t k)

    clients_owned : (keys : List Key) (w : World S) → Owned w.net → Owned (ticks_as_client S x keys w).net
    clients_owned [] w h = h
    clients_owned (key ∷ keys) w h = clients_owned keys (ticks_ticket S x w key (w.net.tickets key))
        (ticket_owned w h key (w.net.tickets key) (h.tickets key))

    servers_owned : (keys : List Key) (w : World S) → Owned w.net → Owned (ticks_as_server S model x keys w).net
    servers_owned [] w h = h
    servers_owned (key ∷ keys) w h =
        let c = server_context x key (server_now w.net key) in
        let v = server.server_ticks c (w.net.entries key) in
        servers_owned keys (serves S model w key v) (server_owned w.net h key v
        (server_ticks_own c (IsSentByServer x key) (IsLesser x key) (server_has key (server_now w.net key)) (w.net.entries key) (h.entries key)))

    lost_owned : (w : World S) → Owned w.net → (key : Key) (b : Bool) → TicketHas (IsLesser x key) (if b then lost (w.net.tickets key) else w.net.tickets key)
    lost_owned w h key true = over (w.net.tickets key)
      where
        over : (o : Option ClientTransaction) → TicketHas (IsLesser x key) (lost o)
        over None = tt
        over (Some t) = tt
    lost_owned w h key false = h.tickets key

    event_owned : (w : World S) → Owned w.net → (e : Event) → Owned (happens S model x w e).net
    event_owned w h (MakeAsk key choice whole front rest) = ask_owned w h key
        (record { first = client_now w.net key; choice = choice; whole = whole; pieces = front ∷ rest }) (is_id_held w.net key)
    event_owned w h (Deliver number free) = delivered_owned w h number free (slice_get w.net.posts number) refl
    event_owned w h (Tick as_client as_server) = servers_owned as_server (ticks_as_client S x as_client w) (clients_owned as_client w h)
    event_owned w h Noise = h
    event_owned w h (Advance by clients servers) = record { posts = h.posts; entries = h.entries; tickets = h.tickets }
    event_owned w h (Change node change) = record { posts = h.posts; entries = h.entries; tickets = h.tickets }
    event_owned w h (RestartClient node exact) = record { posts = h.posts; entries = h.entries; tickets = λ key. lost_owned w h key (nat_eq key.client node) }
    event_owned w h (RestartServer node exact store) = record { posts = h.posts; entries = λ key. go key (nat_eq key.server node); tickets = h.tickets }
      where
        go : (key : Key) (b : Bool) → EntryHas (IsSentByServer x key) (IsLesser x key) (if b then None else w.net.entries key)
        go key true = tt
        go key false = h.entries key
    event_owned w h (Begin node exact) = begins (is_active w.net node)
      where
        begins : (b : Bool) → Owned (if b then w else record { net = begun w.net node exact; stores = w.stores }).net
        begins true = h
        begins false = record { posts = h.posts; entries = h.entries; tickets = h.tickets }
    event_owned w h (BeginAgain node exact) = begins (is_quiet w.net node)
      where
        begins : (b : Bool) → Owned (if b then record { net = begun_again w.net node exact; stores = w.stores } else w).net
        begins true = record { posts = h.posts; entries = h.entries; tickets = λ key. lost_owned w h key (nat_eq key.client node) }
        begins false = h
    event_owned w h (Stray key free a) = strayed (is_from_client a)
      where
        to_client : (o : Option ClientTransaction) → Owned (strays_to_client S x w key a o).net
        to_client None = h
        to_client (Some t) = record { posts = h.posts; entries = h.entries; tickets = h.tickets }

        strayed : (up : Bool) → Owned (if up then strays_to_server S model x w key free a else strays_to_client S x w key a (w.net.far.tickets key)).net
        strayed true = record { posts = h.posts; entries = h.entries; tickets = h.tickets }
        strayed false = to_client (w.net.far.tickets key)
    event_owned w h (AskAway key choice whole front rest) = go (is_id_held_away w.net key)
      where
        go : (held : Bool) → Owned (if held then w else asked_away S x w key
            (record { first = client_now w.net key; choice = choice; whole = whole; pieces = front ∷ rest })).net
        go true = h
        go false = record { posts = h.posts; entries = h.entries; tickets = h.tickets }
    event_owned w h (TickAway as_client as_server) = servers as_server (ticks_as_client_away S x as_client w) (clients as_client w h)
      where
        ticket : (w : World S) → Owned w.net → (key : Key) (o : Option ClientTransaction) → Owned (ticks_ticket_away S x w key o).net
        ticket w h key None = h
        ticket w h key (Some t) = record { posts = h.posts; entries = h.entries; tickets = h.tickets }

        clients : (keys : List Key) (w : World S) → Owned w.net → Owned (ticks_as_client_away S x keys w).net
        clients [] w h = h
        clients (key ∷ keys) w h = clients keys (ticks_ticket_away S x w key (w.net.far.tickets key)) (ticket w h key (w.net.far.tickets key))

        servers : (keys : List Key) (w : World S) → Owned w.net → Owned (ticks_as_server_away S model x keys w).net
        servers [] w h = h
        servers (key ∷ keys) w h =
            servers keys (serves_away S model w key (server.server_ticks (server_context x key (server_now w.net key)) (w.net.far.entries key)))
            (record { posts = h.posts; entries = h.entries; tickets = h.tickets })

    run_owned : (events : List Event) (w : World S) → Owned w.net → Owned (run S model x events w).net
    run_owned [] w h = h
    run_owned (e ∷ es) w h = run_owned es (happens S model x w e) (event_owned w h e)

    pub own_in_run : (pace : Pace) (clocks : ℕ → ℕ) (opening : ℕ → S) (events : List Event) → AreOwn x (run S model x events (start S pace clocks opening)).net
    own_in_run pace clocks opening events =
        let h = run_owned events (start S pace clocks opening) (record { posts = tt; entries = λ key. tt; tickets = λ key. tt }) in
        record { posts = own_at (run S model x events (start S pace clocks opening)).net.posts h.posts; entries = h.entries; tickets = h.tickets }
