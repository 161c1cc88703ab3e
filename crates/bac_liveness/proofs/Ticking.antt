-- A tick of a client whose timer is due sends the request again, whatever other tickets and entries tick with it.
use Rattle.std.specs.List.{Contains}
use Rattle.std.proofs.Common.{◌≡◌, ℕ, ◌-◌, ◌<◌, ◌≤◌, ◌⊎◌, Bool, true, false, List, [], ◌∷◌, Option, Some, None, if◌then◌else◌, nat_le, refl, sym, ap, subst}
use Rattle.std.proofs.Common.{inl, inr, ◌∙◌, arith, ◌+◌}
use Rattle.std.proofs.lemmas.Bool.Decides.{nat_tests}
use Rattle.bac_protocol.specs.declared.times.TheConstants.{T_OUT}
use Rattle.bac_protocol.specs.Client as client
use Rattle.bac_protocol.specs.Client.{Ask, ClientTransaction, after, sends_of}
use Rattle.bac_protocol.specs.Client.Reaction.{Stays, Repeats}
use Rattle.bac_protocol.specs.Server as server
use Rattle.bac_protocol.specs.Server.{State, ServerTransaction, is_live}
use Rattle.bac_protocol.specs.Log.{Fact, StoreModel}
use Rattle.bac_protocol.specs.Transaction.{Key, Rules, Copy, client_context, server_context}
use Rattle.bac_protocol.specs.World.{World, copies_of, reacts, serves, happens, ticks_ticket, ticks_as_client, ticks_as_server, client_now, server_now}
use Rattle.bac_protocol.specs.World.Event.{Tick}
use Rattle.bac_protocol.proofs.Alone.{sent}
use Rattle.bac_protocol.proofs.Keys.{decide_key, set_same, set_other, copies_posted, copies_other}
use Rattle.bac_liveness.specs.RoundTrip.{request_to}
use Rattle.bac_liveness.specs.Repeats.{PATIENCE}
use Rattle.bac_liveness.proofs.Paths.{some_is}
use Rattle.bac_liveness.proofs.Endings.{contains_tail}
use Rattle.bac_liveness.proofs.Clocks.{MadeIn, alive}
use Rattle.bac_liveness.proofs.Waits.{EntryIn, Patient, ticks_by, tick_repeats, patient_on}

-- a moment: in real time, and by the clocks of the two ends
pub record Nows : Type 0 where
  pub real : ℕ
  pub here : ℕ
  pub there : ℕ

module _ (S : Type 0) (model : StoreModel S) (x : Rules) (key : Key) where
  -- what a world of that moment shows of the transaction
  pub record Shows (now : Nows) (t : ClientTransaction) (o : Option ServerTransaction) (copies : List Copy) (u : World S) : Type 0 where
    pub moment : u.net.now ≡ now.real
    pub here : client_now u.net key ≡ now.here
    pub there : server_now u.net key ≡ now.there
    pub ticket : u.net.tickets key ≡ Some t
    pub entry : u.net.entries key ≡ o
    pub copies_are : copies_of key u.net.posts ≡ copies

  module _ (now : Nows) (t : ClientTransaction) (o : Option ServerTransaction) (copies : List Copy) where
    -- another ticket ticks, and its own
    other_ticket : (u : World S) (k : Key) → (k ≡ key → ⊥) → (y : Option ClientTransaction) → Shows now t o copies u
        → Shows now t o copies (ticks_ticket S x u k y)
    other_ticket u k ne None h = h
    other_ticket u k ne (Some s) h =
        let r = client.client_ticks (client_context x k (client_now u.net k)) s in
        record {
          moment = h.moment;
          here = h.here;
          there = h.there;
          ticket = set_other u.net.tickets k (Some (after (client_now u.net k) s r)) key ne ∙ h.ticket;
          entry = h.entry;
          copies_are = copies_other k key ne u.net.now (sends_of r) u.net.posts ∙ h.copies_are;
        }

    own_ticket : (u : World S) (r : client.Reaction) → client.client_ticks (client_context x key now.here) t ≡ r → Shows now t o copies u
        → Shows now (after now.here t r) o (sent now.real (sends_of r) copies) (ticks_ticket S x u key (u.net.tickets key))
    own_ticket u r is h = subst (Shows now (after now.here t r) o (sent now.real (sends_of r) copies)) (sym path) (record {
      moment = h.moment;
      here = h.here;
      there = h.there;
      ticket = set_same u.net.tickets key (Some (after (client_now u.net key) t r)) ∙ ap (λ (m : ℕ). Some (after m t r)) h.here;
      entry = h.entry;
      copies_are = copies_posted key u.net.now (sends_of r) u.net.posts ∙ ap (λ (cs : List Copy). sent u.net.now (sends_of r) cs) h.copies_are
          ∙ ap (λ (m : ℕ). sent m (sends_of r) copies) h.moment;
    })
      where
        path : ticks_ticket S x u key (u.net.tickets key) ≡ reacts S u key t r
        path = ap (ticks_ticket S x u key) h.ticket
            ∙ ap (λ (m : ℕ). reacts S u key t (client.client_ticks (client_context x key m) t)) h.here ∙ ap (reacts S u key t) is

    -- another entry ticks, and its own, where that does nothing
    other_entry : (u : World S) (k : Key) (v : server.Reaction) → (k ≡ key → ⊥) → Shows now t o copies u → Shows now t o copies (serves S model u k v)
    other_entry u k v ne h = record {
      moment = h.moment;
      here = h.here;
      there = h.there;
      ticket = h.ticket;
      entry = set_other u.net.entries k v.entry key ne ∙ h.entry;
      copies_are = copies_other k key ne u.net.now v.sends u.net.posts ∙ h.copies_are;
    }

    own_entry : (u : World S) → server.server_ticks (server_context x key now.there) o ≡ server.rests o [] → Shows now t o copies u
        → Shows now t o copies (serves S model u key (server.server_ticks (server_context x key (server_now u.net key)) (u.net.entries key)))
    own_entry u quiet h = subst (λ (v : server.Reaction). Shows now t o copies (serves S model u key v)) (sym path) (record {
      moment = h.moment;
      here = h.here;
      there = h.there;
      ticket = h.ticket;
      entry = set_same u.net.entries key o;
      copies_are = copies_posted key u.net.now [] u.net.posts ∙ h.copies_are;
    })
      where
        path : server.server_ticks (server_context x key (server_now u.net key)) (u.net.entries key) ≡ server.rests o []
        path = ap (λ (m : ℕ). server.server_ticks (server_context x key m) (u.net.entries key)) h.there
            ∙ ap (server.server_ticks (server_context x key now.there)) h.entry ∙ quiet

    -- where its own tick does nothing
    pub clients_rest : client.client_ticks (client_context x key now.here) t ≡ Stays → (keys : List Key) (u : World S) → Shows now t o copies u
        → Shows now t o copies (ticks_as_client S x keys u)
    clients_rest is [] u h = h
    clients_rest is (k ∷ keys) u h = clients_rest is keys (ticks_ticket S x u k (u.net.tickets k)) (go (decide_key k key))
      where
        go : ((k ≡ key) ⊎ (k ≡ key → ⊥)) → Shows now t o copies (ticks_ticket S x u k (u.net.tickets k))
        go (inl same) = subst (λ (j : Key). Shows now t o copies (ticks_ticket S x u j (u.net.tickets j))) (sym same) (own_ticket u Stays is h)
        go (inr ne) = other_ticket u k ne (u.net.tickets k) h

    pub servers_rest : server.server_ticks (server_context x key now.there) o ≡ server.rests o [] → (keys : List Key) (u : World S) → Shows now t o copies u
        → Shows now t o copies (ticks_as_server S model x keys u)
    servers_rest quiet [] u h = h
    servers_rest quiet (k ∷ keys) u h = servers_rest quiet keys (ticked k) (go (decide_key k key))
      where
        ticked : Key → World S
        ticked j = serves S model u j (server.server_ticks (server_context x j (server_now u.net j)) (u.net.entries j))

        go : ((k ≡ key) ⊎ (k ≡ key → ⊥)) → Shows now t o copies (ticked k)
        go (inl same) = subst (λ (j : Key). Shows now t o copies (ticked j)) (sym same) (own_entry u quiet h)
        go (inr ne) = other_entry u k (server.server_ticks (server_context x k (server_now u.net k)) (u.net.entries k)) ne h

  -- where its own tick does something, and nothing when it comes again
  module _ (now : Nows) (t : ClientTransaction) (o : Option ServerTransaction) (copies : List Copy) (r : client.Reaction) where
    pub requester_tick : client.client_ticks (client_context x key now.here) t ≡ r
        → client.client_ticks (client_context x key now.here) (after now.here t r) ≡ Stays
        → (keys : List Key) → Contains keys key → (u : World S) → Shows now t o copies u
        → Shows now (after now.here t r) o (sent now.real (sends_of r) copies) (ticks_as_client S x keys u)
    requester_tick is rests [] i u h = let lt = i.1 in absurd (omega arith)
    requester_tick is rests (k ∷ keys) i u h = go (decide_key k key) (requester_tick is rests keys)
      where
        ticked : Key → World S
        ticked j = ticks_ticket S x u j (u.net.tickets j)

        later : ((k ≡ key) ⊎ Contains keys key) → (k ≡ key → ⊥) → Contains keys key
        later (inl same) ne = absurd (ne same)
        later (inr j) ne = j

        go : ((k ≡ key) ⊎ (k ≡ key → ⊥))
            → (Contains keys key → (v : World S) → Shows now t o copies v
            → Shows now (after now.here t r) o (sent now.real (sends_of r) copies) (ticks_as_client S x keys v))
            → Shows now (after now.here t r) o (sent now.real (sends_of r) copies) (ticks_as_client S x keys (ticked k))
        go (inl same) rest = clients_rest now (after now.here t r) o (sent now.real (sends_of r) copies) rests keys (ticked k)
            (subst (λ (j : Key). Shows now (after now.here t r) o (sent now.real (sends_of r) copies) (ticked j)) (sym same)
            (own_ticket now t o copies u r is h))
        go (inr ne) rest = rest (later (contains_tail k keys key i) ne) (ticked k) (other_ticket now t o copies u k ne (u.net.tickets k) h)

  -- An ask of one APDU that waits.
  module _ (ask : Ask) (number made : ℕ) (whole : ask.whole ≡ true) where
    abbrev now_in : World S → Nows
    now_in v = record { real = v.net.now; here = client_now v.net key; there = server_now v.net key }

    -- its entry, if any, does nothing at a tick
    quiet_entry : (v : World S) → MadeIn v.net key ask.first made → client_now v.net key < ask.first + PATIENCE
        → (o : Option ServerTransaction) (log : List Fact) → EntryIn x key ask number made v.net o log
        → server.server_ticks (server_context x key (server_now v.net key)) o ≡ server.rests o []
    quiet_entry v runs young None log f = refl
    quiet_entry v runs young (Some e) log (inl none) = go (is_live (server_now v.net key) e) none
      where
        go : (b : Bool) → (if b then false else true) ≡ true
            → (if b then server.live_ticks (server_context x key (server_now v.net key)) e e.state else server.rests (Some e) []) ≡ server.rests (Some e) []
        go true z = absurd cc
        go false z = refl
    quiet_entry v runs young (Some e) log (inr d) =
        let c = server_context x key (server_now v.net key) in
        let same : d.entry ≡ e = some_is d.entry e (sym d.at) in
        let live : is_live (server_now v.net key) e ≡ true = subst (λ (y : ServerTransaction). is_live (server_now v.net key) y ≡ true) same
        (alive v.net.pace v.net.now (v.net.client_clocks key.client) (v.net.server_clocks key.server) (v.net.restarted key.client) ask.first made runs
        (omega arith) d.entry d.begun) in
        ap (λ b. if b then server.live_ticks c e e.state else server.rests (Some e) []) live
        ∙ ap (λ (st : State). server.live_ticks c e st) (ap (λ (y : ServerTransaction). y.state) (sym same) ∙ d.state)

    pub tick_sends : (v : World S) (t : ClientTransaction) (as_client as_server : List Key) → MadeIn v.net key ask.first made → v.net.tickets key ≡ Some t
        → t.ask ≡ ask
        → Patient x key ask number made (client_now v.net key) t → client_now v.net key < ask.first + PATIENCE → T_OUT ≤ client_now v.net key - t.since
        → EntryIn x key ask number made v.net (v.net.entries key) v.net.log → Contains as_client key
        → Shows (now_in v) (record t { repeats = t.repeats - 1; since = client_now v.net key }) (v.net.entries key)
        (record { moment = v.net.now; apdu = request_to x key ask } ∷ copies_of key v.net.posts) (happens S model x v (Tick as_client as_server))
    tick_sends v t as_client as_server runs at is w young due fits i =
        servers_rest (now_in v) (after (client_now v.net key) t r) (v.net.entries key) (sent v.net.now (sends_of r) (copies_of key v.net.posts))
        (quiet_entry v runs young (v.net.entries key) v.net.log fits) as_server (ticks_as_client S x as_client v)
        (requester_tick (now_in v) t (v.net.entries key) (copies_of key v.net.posts) r
        (tick_repeats x key ask number made (client_now v.net key) t whole is w young due) again as_client i v
        (record { moment = refl; here = refl; there = refl; ticket = at; entry = refl; copies_are = refl }))
      where
        r : client.Reaction
        r = Repeats t.phase (request_to x key ask ∷ [])

        again : client.client_ticks (client_context x key (client_now v.net key)) (after (client_now v.net key) t r) ≡ Stays
        again =
            let next : Patient x key ask number made (client_now v.net key) (after (client_now v.net key) t r) =
            patient_on x key ask number made (client_now v.net key) t w due in
            let undue : nat_le T_OUT (client_now v.net key - client_now v.net key) ≡ false = grind (arith, nat_tests) in
            ticks_by x key ask number made (client_now v.net key) (after (client_now v.net key) t r) is next young
            ∙ ap (λ b. if b then client.repeats (client_context x key (client_now v.net key)) (after (client_now v.net key) t r) else Stays) undue
