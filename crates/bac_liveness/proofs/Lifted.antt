-- Each event of a run keeps a transaction in step.
use Rattle.std.proofs.Common.{◌≡◌, ℕ, ◌+◌, ◌-◌, ◌<◌, ◌≤◌, ◌⊎◌, Bool, true, false, ◌||◌, List, [], ◌∷◌, ◌++◌, map, length, Option, Some, None, slice_get}
use Rattle.std.proofs.Common.{if◌then◌else◌, nat_le, nat_eq, refl, sym, subst, inl, inr, ◌∙◌, arith, append_assoc, append-nil}
use Rattle.std.proofs.lemmas.Bool.Decides.{nat_tests}
use Rattle.bac_apdu.specs.Apdu.{Apdu}
use Rattle.bac_segment.specs.Limits.{N_RETRY}
use Rattle.bac_segment.specs.Window.{outgoing, in_window, Incoming}
use Rattle.bac_protocol.specs.Context.{Context}
use Rattle.bac_protocol.specs.Service.{Octets}
use Rattle.bac_protocol.specs.Wire.{is_from_client, Each}
use Rattle.bac_protocol.specs.Client as client
use Rattle.bac_protocol.specs.Client.{Ask, Phase, ClientTransaction}
use Rattle.bac_protocol.specs.Client.Phase.{SegmentedRequest, SegmentedConf, Idle}
use Rattle.bac_protocol.specs.Server as server
use Rattle.bac_protocol.specs.Server.{ServerTransaction, is_live}
use Rattle.bac_protocol.specs.Log.{StoreModel}
use Rattle.bac_protocol.specs.Own.{lesser_window, IsOwnPost, AreOwn}
use Rattle.bac_protocol.specs.Transaction.{Key, Rules, Copy, client_context, server_context}
use Rattle.bac_protocol.specs.World.{Net, World, Post, Event, later, is_deliverable, copies_of, is_id_held, is_room, lost, asked_at, ask_made, client_acts}
use Rattle.bac_protocol.specs.World.{with_clock, is_active, begun, client_begun, server_begun, is_quiet, next_client, begun_again}
use Rattle.bac_protocol.specs.World.{server_acts, client_restarted, server_restarted, delivered, arrives, takes_at_client, takes_at_server, ticks_ticket}
use Rattle.bac_protocol.specs.World.{ticks_as_client, ticks_as_server, serves, service_of, happens, run, start, post_of, client_now, server_now}
use Rattle.bac_protocol.specs.World.Event.{MakeAsk, Deliver, Tick, Noise, Advance, Change, RestartClient, RestartServer, Begin, BeginAgain, Stray, AskAway, TickAway}
use Rattle.bac_protocol.specs.World.{serves_away, is_id_held_away, strays_to_server, strays_to_client, asked_away, ticks_ticket_away, ticks_as_client_away}
use Rattle.bac_protocol.specs.World.{ticks_as_server_away}
use Rattle.bac_protocol.specs.Pace.{Pace, IsTimely, clock_at}
use Rattle.bac_protocol.specs.Claims.{moments_of, IsBounded, EachCopy}
use Rattle.bac_protocol.proofs.Paces.{shows_on}
use Rattle.bac_protocol.proofs.Alone.{one, sent}
use Rattle.bac_protocol.proofs.Asks.{IsSpent}
use Rattle.bac_protocol.proofs.Claimed.{in_place}
use Rattle.bac_protocol.proofs.Facts.{pieces_all, pieces_length}
use Rattle.bac_protocol.proofs.Headline.{Kept, run_kept, start_kept}
use Rattle.bac_protocol.proofs.Keys.{decide_key, set_same, set_other, copies_posted, copies_other, copy_at}
use Rattle.bac_protocol.proofs.Nets.{NetSound, sound_at, room_opens}
use Rattle.bac_protocol.proofs.Resting.{IsUnserved, Unserved, not_active}
use Rattle.bac_protocol.proofs.Standing.{few_are_clear, spent_stands}
use Rattle.bac_protocol.proofs.Owned.{own_in_run}
use Rattle.bac_liveness.proofs.Paths.{some_is}
use Rattle.bac_liveness.proofs.Flow.{Hands, reach, SaysLimits, AllUp, all_up, all_limits, request_window_near, PhaseFlows, Flow, flow_later, client_flows}
use Rattle.bac_liveness.proofs.InRun.{L_small, ticks_flow, entry_ticks_flow, served_flow, served_by, heard_by}

module _ (W : ℕ) (x : Rules) (bound : IsBounded W x) (key : Key) (some : 0 < lesser_window x key) where
  abbrev pub FlowOf : Hands → ClientTransaction → Option ServerTransaction → List Copy → Type 0
  FlowOf now t o copies = Flow W x key now t.ask t.repeats t.phase o copies

  abbrev pub hands : Net → Hands
  hands n = record { now = n.now; life = n.pace.life; client = client_now n key; server = server_now n key }

  abbrev pub FlowAt : Net → Type 0
  FlowAt n = (t : ClientTransaction) → n.tickets key ≡ Some t → FlowOf (hands n) t (n.entries key) (copies_of key n.posts)

  abbrev LimitsIn : List Copy → Type 0
  LimitsIn copies = EachCopy (λ k c. SaysLimits (x.settings key.client).limits c.apdu) copies

  -- What one end does.

  client_own : (n : Net) (t : ClientTransaction) (r : client.Reaction)
      → FlowOf (hands n) (client.after (client_now n key) t r) (n.entries key) (sent n.now (client.sends_of r) (copies_of key n.posts))
      → FlowAt (client_acts n key t r)
  client_own n t r flow u at =
      let made = client.after (client_now n key) t r in
      let same : made ≡ u = some_is made u (sym (set_same n.tickets key (Some made)) ∙ at) in
      subst (λ (y : ClientTransaction). FlowOf (hands n) y (n.entries key) (copies_of key (n.posts ++ map (post_of key n.now) (client.sends_of r)))) same
      (subst (λ (cs : List Copy). FlowOf (hands n) made (n.entries key) cs) (sym (copies_posted key n.now (client.sends_of r) n.posts)) flow)

  client_other : (n : Net) (k : Key) (t : ClientTransaction) (r : client.Reaction) → (k ≡ key → ⊥) → FlowAt n → FlowAt (client_acts n k t r)
  client_other n k t r ne flow u at =
      subst (λ (cs : List Copy). FlowOf (hands n) u (n.entries key) cs) (sym (copies_other k key ne n.now (client.sends_of r) n.posts))
      (flow u (sym (set_other n.tickets k (Some (client.after (client_now n k) t r)) key ne) ∙ at))

  server_own : (n : Net) (v : server.Reaction)
      → ((t : ClientTransaction) → n.tickets key ≡ Some t → FlowOf (hands n) t v.entry (sent n.now v.sends (copies_of key n.posts)))
      → FlowAt (server_acts n key v)
  server_own n v flow u at =
      subst (λ (o : Option ServerTransaction). FlowOf (hands n) u o (copies_of key (n.posts ++ map (post_of key n.now) v.sends)))
      (sym (set_same n.entries key v.entry))
      (subst (λ (cs : List Copy). FlowOf (hands n) u v.entry cs) (sym (copies_posted key n.now v.sends n.posts)) (flow u at))

  server_other : (n : Net) (k : Key) (v : server.Reaction) → (k ≡ key → ⊥) → FlowAt n → FlowAt (server_acts n k v)
  server_other n k v ne flow u at =
      subst (λ (o : Option ServerTransaction). FlowOf (hands n) u o (copies_of key (n.posts ++ map (post_of k n.now) v.sends)))
      (sym (set_other n.entries k v.entry key ne))
      (subst (λ (cs : List Copy). FlowOf (hands n) u (n.entries key) cs) (sym (copies_other k key ne n.now v.sends n.posts)) (flow u at))

  -- An ask.

  module _ (n : Net) (spent : IsSpent (one n key)) (old : LimitsIn (copies_of key n.posts)) (choice : ℕ) (front : Octets) (rest : List Octets) where
    abbrev now : Hands
    now = hands n

    abbrev c : Context
    c = client_context x key now.client

    abbrev ps : List Octets
    ps = front ∷ rest

    abbrev ask_of : Bool → Ask
    ask_of whole = record { first = now.client; choice = choice; whole = whole; pieces = ps }

    abbrev sends : Bool → List Apdu
    sends whole = client.sends_of (client.asks c (ask_of whole))

    abbrev phase_of : Bool → Phase
    phase_of whole = (client.asked_ticket c (ask_of whole)).phase

    past : (e : ServerTransaction) → n.entries key ≡ Some e → is_live now.server e ≡ true → ⊥
    past e at begun = let d = spent.dead e at in grind (arith, nat_tests)

    limits_said : (whole : Bool) → Each (SaysLimits (x.settings key.client).limits) (sends whole)
    limits_said true = (refl, tt)
    limits_said false = pieces_all (SaysLimits (x.settings key.client).limits) (client.request_piece c choice ps) 0 (in_window (outgoing ps)) (λ p lo hi. refl)

    abbrev UpOf : Bool → Phase → Type 0
    UpOf whole (SegmentedRequest out all) = AllUp W now ps (reach out) (sent now.now (sends whole) (copies_of key n.posts))
    UpOf whole _ = Unit {0}

    up_of : (whole : Bool) → UpOf whole (phase_of whole)
    up_of true = tt
    up_of false =
        let len = pieces_length (client.request_piece c choice ps) 0 (in_window (outgoing ps)) in
        let small = L_small W x bound key some in
        all_up W now (reach (outgoing ps)) (reach (outgoing ps)) ps (sends false) (copies_of key n.posts) (omega arith) (omega arith)
        (request_window_near W c choice (outgoing ps) (omega arith)) (λ k d e young. absurd (spent.old k d e young))

    phase_flows : (whole : Bool) → PhaseFlows (lesser_window x key) (ask_of whole) N_RETRY (phase_of whole)
    phase_flows true = tt
    phase_flows false = (
      record { pieces_are = refl; left = omega arith; window = inl (refl, refl) },
      go (nat_le (length ps) (0 + in_window (outgoing ps))) refl,
    )
      where
        go : (b : Bool) → nat_le (length ps) (0 + in_window (outgoing ps)) ≡ b
            → ((false || b) ≡ true) ⊎ ((N_RETRY ≡ N_RETRY) × (reach (outgoing ps) < length ps))
        go true e = inl refl
        go false e = inr (refl, grind (arith, nat_tests))

    not_collecting : (whole : Bool) (inc : Incoming) → phase_of whole ≡ SegmentedConf inc → ⊥
    not_collecting true inc e = absurd cc
    not_collecting false inc e = absurd cc

    abbrev ticket_of : Bool → ClientTransaction
    ticket_of whole = client.asked_ticket c (ask_of whole)

    asked_ask : (whole : Bool) → (ticket_of whole).ask ≡ ask_of whole
    asked_ask true = refl
    asked_ask false = refl

    asked_repeats : (whole : Bool) → (ticket_of whole).repeats ≡ N_RETRY
    asked_repeats true = refl
    asked_repeats false = refl

    asked_flow : (whole : Bool) → Flow W x key now (ask_of whole) N_RETRY (phase_of whole) (n.entries key) (sent now.now (sends whole) (copies_of key n.posts))
    asked_flow whole = record {
      some = omega arith;
      few = omega arith;
      limits = all_limits (x.settings key.client).limits now.now (sends whole) (copies_of key n.posts) (limits_said whole) old;
      client = phase_flows whole;
      sent_up = λ out all is full. subst (UpOf whole) is (up_of whole);
      taken_up = λ out all is full e at begun. absurd (past e at begun);
      made = λ e at begun. absurd (past e at begun);
      sent_down = λ e at begun out transfer since is. absurd (past e at begun);
      taken_down = λ inc is. absurd (not_collecting whole inc is);
    }

    flow_asked : (whole : Bool) → FlowOf now (ticket_of whole) (n.entries key) (sent now.now (sends whole) (copies_of key n.posts))
    flow_asked true = asked_flow true
    flow_asked false = asked_flow false

    ask_own : (whole : Bool) → FlowAt (asked_at x n key (ask_of whole))
    ask_own whole u at =
        let same : ticket_of whole ≡ u = some_is (ticket_of whole) u (sym (set_same n.tickets key (Some (ticket_of whole))) ∙ at) in
        subst (λ (y : ClientTransaction). FlowOf now y (n.entries key) (copies_of key (n.posts ++ map (post_of key now.now) (sends whole)))) same
        (subst (λ (cs : List Copy). FlowOf now (ticket_of whole) (n.entries key) cs) (sym (copies_posted key now.now (sends whole) n.posts)) (flow_asked whole))

  ask_other : (n : Net) (k : Key) (ask : Ask) → (k ≡ key → ⊥) → FlowAt n → FlowAt (asked_at x n k ask)
  ask_other n k ask ne flow u at =
      let c = client_context x k (client_now n k) in
      subst (λ (cs : List Copy). FlowOf (hands n) u (n.entries key) cs) (sym (copies_other k key ne n.now (client.sends_of (client.asks c ask)) n.posts))
      (flow u (sym (set_other n.tickets k (Some (client.asked_ticket c ask)) key ne) ∙ at))

  limits_at : (n : Net) → NetSound W n → FlowAt n → LimitsIn (copies_of key n.posts)
  limits_at n s flow = go (n.tickets key) refl
    where
      go : (o : Option ClientTransaction) → n.tickets key ≡ o → LimitsIn (copies_of key n.posts)
      go (Some t) at = (flow t at).limits
      go None at = subst LimitsIn (sym ((sound_at W n key None at s).no_copies)) (λ k d e. absurd cc)

  -- Restarts: a ticket that was lost is idle, and of an entry that was lost nothing is said.

  -- a client's clock is another: that matters to no flow
  client_anew : (n : Net) (shows : ℕ) (t : ClientTransaction) → FlowOf (hands n) t (n.entries key) (copies_of key n.posts)
      → FlowOf (record (hands n) { client = shows }) t (n.entries key) (copies_of key n.posts)
  client_anew n shows t f = flow_later W x key (hands n) (record (hands n) { client = shows }) t.ask t.repeats t.phase (n.entries key) (copies_of key n.posts)
      (same_moment n.now) refl (same_moment (server_now n key)) f
    where
      same_moment : (k : ℕ) → k ≤ k
      same_moment k = omega arith

  tickets_lost : (n : Net) → FlowAt n → (node : ℕ) (t : ClientTransaction) → (if nat_eq key.client node then lost (n.tickets key) else n.tickets key) ≡ Some t
      → FlowOf (hands n) t (n.entries key) (copies_of key n.posts)
  tickets_lost n flow node = go (nat_eq key.client node)
    where
      idle : (o : Option ClientTransaction) → n.tickets key ≡ o → (u : ClientTransaction) → lost o ≡ Some u
          → FlowOf (hands n) u (n.entries key) (copies_of key n.posts)
      idle None was u is = absurd cc
      idle (Some t) was u is =
          let f = flow t was in
          let same : record t { phase = Idle } ≡ u = some_is (record t { phase = Idle }) u is in
          subst (λ (y : ClientTransaction). FlowOf (hands n) y (n.entries key) (copies_of key n.posts)) same
          (client_flows W x key (hands n) t.ask t.phase (n.entries key) (copies_of key n.posts) t.repeats t.repeats Idle [] (λ e. e) f.few f tt tt tt)

      go : (b : Bool) → (t : ClientTransaction) → (if b then lost (n.tickets key) else n.tickets key) ≡ Some t
          → FlowOf (hands n) t (n.entries key) (copies_of key n.posts)
      go true = idle (n.tickets key) refl
      go false = flow

  client_lost : (n : Net) → FlowAt n → (node exact : ℕ) → FlowAt (client_restarted n node exact)
  client_lost n flow node exact t at = client_anew n (client_now (client_restarted n node exact) key) t (tickets_lost n flow node t at)

  -- nothing is said of an entry that is not there
  no_entry : (n : Net) (shows : ℕ) (t : ClientTransaction) → FlowOf (hands n) t (n.entries key) (copies_of key n.posts)
      → FlowOf (record (hands n) { server = shows }) t None (copies_of key n.posts)
  no_entry n shows t f = record {
    some = f.some;
    few = f.few;
    limits = f.limits;
    client = f.client;
    sent_up = f.sent_up;
    taken_up = λ out all is full e there. absurd cc;
    made = λ e there. absurd cc;
    sent_down = λ e there. absurd cc;
    taken_down = λ inc is e there. absurd cc;
  }

  server_lost : (n : Net) → FlowAt n → (node exact : ℕ) (store : Option Octets) → FlowAt (server_restarted n node exact store)
  server_lost n flow node exact store t at = go (nat_eq key.server node)
    where
      go : (b : Bool) → FlowOf (record (hands n) { server = (if b then clock_at n.pace exact else n.server_clocks key.server).shows }) t
          (if b then None else n.entries key) (copies_of key n.posts)
      go true = no_entry n (clock_at n.pace exact).shows t (flow t at)
      go false = flow t at

  -- Late starts.

  client_begins : (n : Net) → FlowAt n → (node exact : ℕ) → FlowAt (client_begun n node exact)
  client_begins n flow node exact t at = client_anew n (client_now (client_begun n node exact) key) t (flow t at)

  server_begins : (n : Net) (node : ℕ) → IsUnserved n.entries n.far.entries n.serves_from node → FlowAt n → (exact : ℕ) → FlowAt (server_begun n node exact)
  server_begins n node off flow exact t at = go (nat_eq key.server node) refl
    where
      go : (b : Bool) → nat_eq key.server node ≡ b
          → FlowOf (record (hands n) { server = (if b then clock_at n.pace exact else n.server_clocks key.server).shows }) t
          (n.entries key) (copies_of key n.posts)
      go true is = subst (λ (o : Option ServerTransaction). FlowOf (record (hands n) { server = (clock_at n.pace exact).shows }) t o (copies_of key n.posts))
          (sym (off.entries key (grind (arith, nat_tests)))) (no_entry n (clock_at n.pace exact).shows t (flow t at))
      go false is = flow t at

  begins : (n : Net) → Unserved n → FlowAt n → (node exact : ℕ) (b : Bool) → is_active n node ≡ b → FlowAt (if b then n else begun n node exact)
  begins n unserved flow node exact true is = flow
  begins n unserved flow node exact false off = client_begins (server_begun n node exact)
      (server_begins n node (unserved node (not_active n node off).1) flow exact) node exact

  next_begins : (n : Net) → FlowAt n → (node exact : ℕ) → FlowAt (next_client n node exact)
  next_begins n flow node exact t at = client_anew n (client_now (next_client n node exact) key) t (tickets_lost n flow node t at)

  begins_again : (n : Net) → Unserved n → FlowAt n → (node exact : ℕ) (b : Bool) → FlowAt (if b then begun_again n node exact else n)
  begins_again n unserved flow node exact false = flow
  begins_again n unserved flow node exact true = go (n.served node) refl
    where
      go : (b : Bool) → n.served node ≡ b
          → FlowAt (record (next_client n node exact) { server_clocks = if b then n.server_clocks else with_clock n.pace node exact n.server_clocks })
      go true is = next_begins n flow node exact
      go false off = next_begins (server_begun n node exact) (server_begins n node (unserved node off) flow exact) node exact

  module _ (S : Type 0) (model : StoreModel S) (opening : ℕ → S) where
    asks_on : (w : World S) → Kept S model opening W x bound w → FlowAt w.net → (k : Key) (choice : ℕ) (whole : Bool) (front : Octets) (rest : List Octets)
        → (b : Bool) → is_id_held w.net k ≡ b
        → FlowAt (if b then w
        else ask_made S x w k (record { first = client_now w.net k; choice = choice; whole = whole; pieces = front ∷ rest })).net
    asks_on w s flow k choice whole front rest true held = flow
    asks_on w s flow k choice whole front rest false free = go (decide_key k key)
      where
        ask : Key → Ask
        ask j = record { first = client_now w.net j; choice = choice; whole = whole; pieces = front ∷ rest }

        go : ((k ≡ key) ⊎ (k ≡ key → ⊥)) → FlowAt (asked_at x w.net k (ask k))
        go (inr ne) = ask_other w.net k (ask k) ne flow
        go (inl is) =
            let free' : is_id_held w.net key ≡ false = subst (λ (j : Key). is_id_held w.net j ≡ false) is free in
            subst (λ (j : Key). FlowAt (asked_at x w.net j (ask j))) (sym is)
            (ask_own w.net (spent_stands W w.net s.stands key free') (limits_at w.net s.stands.net flow) choice front rest whole)

    -- A delivery.

    served_on : (w : World S) → Kept S model opening W x bound w → AreOwn x w.net → FlowAt w.net → (number : ℕ) (p : Post)
        → slice_get w.net.posts number ≡ Some p → w.net.now - p.copy.moment ≤ w.net.pace.life → (later p.key number w.net.posts ≤ x.overtake) ⊎ (w.net.pieces p.key ≤ 256)
        → is_from_client p.copy.apdu ≡ true → (free : Bool) → FlowAt (takes_at_server S model x w p.key free p.copy.apdu).net
    served_on w s own flow number p at young few up free = go (decide_key p.key key)
      where
        n : Net
        n = w.net

        v : Key → server.Reaction
        v j = server.server_on_apdu (server_context x j (server_now n j)) (service_of S model w j) (n.entries j) (is_room n j free) p.copy.apdu

        mine : p.key ≡ key → (t : ClientTransaction) → n.tickets key ≡ Some t
            → FlowOf (hands n) t (v key).entry (sent n.now (v key).sends (copies_of key n.posts))
        mine is t there =
            let f = sound_at W n key (Some t) there s.stands.net in
            let place = subst (λ (j : Key). slice_get (copies_of j n.posts) (later j number n.posts) ≡ Some p.copy) is (copy_at number n.posts p at) in
            let late = few_are_clear W x bound (n.pieces key) (later key number n.posts)
            (subst (λ (j : Key). (later j number n.posts ≤ x.overtake) ⊎ (n.pieces j ≤ 256)) is few) in
            let sent_is = subst (λ (j : Key). IsOwnPost x (record { key = j; copy = p.copy })) is (own.posts number p at) in
            served_flow W x bound key some (moments_of n key) t (n.entries key) (copies_of key n.posts) (flow t there) (v key)
            (served_by W x bound key some (moments_of n key) t (n.entries key) (copies_of key n.posts) (flow t there) (n.pieces key) n.asks (n.numbers key)
            n.log f.0 f.1 f.2 (service_of S model w key) (is_room n key free) (room_opens n key free)
            (later key number n.posts) p.copy.moment late p.copy.apdu place young up sent_is (n.entries key) refl)

        go : ((p.key ≡ key) ⊎ (p.key ≡ key → ⊥)) → FlowAt (server_acts n p.key (v p.key))
        go (inr ne) = server_other n p.key (v p.key) ne flow
        go (inl is) = subst (λ (j : Key). FlowAt (server_acts n j (v j))) (sym is) (server_own n (v key) (mine is))

    heard_on : (w : World S) → Kept S model opening W x bound w → AreOwn x w.net → FlowAt w.net → (number : ℕ) (p : Post)
        → slice_get w.net.posts number ≡ Some p → w.net.now - p.copy.moment ≤ w.net.pace.life → (later p.key number w.net.posts ≤ x.overtake) ⊎ (w.net.pieces p.key ≤ 256)
        → is_from_client p.copy.apdu ≡ false → (o : Option ClientTransaction) → w.net.tickets p.key ≡ o
        → FlowAt (takes_at_client S x w p.key p.copy.apdu o).net
    heard_on w s own flow number p at young few down None there = flow
    heard_on w s own flow number p at young few down (Some t) there = go (decide_key p.key key)
      where
        n : Net
        n = w.net

        r : Key → client.Reaction
        r j = client.client_on_apdu (client_context x j (client_now n j)) x.readable t p.copy.apdu

        mine : p.key ≡ key → FlowOf (hands n) (client.after (client_now n key) t (r key)) (n.entries key)
            (sent n.now (client.sends_of (r key)) (copies_of key n.posts))
        mine is =
            let there' : n.tickets key ≡ Some t = subst (λ (j : Key). n.tickets j ≡ Some t) is there in
            let f = sound_at W n key (Some t) there' s.stands.net in
            let place = subst (λ (j : Key). slice_get (copies_of j n.posts) (later j number n.posts) ≡ Some p.copy) is (copy_at number n.posts p at) in
            let late = few_are_clear W x bound (n.pieces key) (later key number n.posts)
            (subst (λ (j : Key). (later j number n.posts ≤ x.overtake) ⊎ (n.pieces j ≤ 256)) is few) in
            let sent_is = subst (λ (j : Key). IsOwnPost x (record { key = j; copy = p.copy })) is (own.posts number p at) in
            heard_by W x bound key some (moments_of n key) t (n.entries key) (copies_of key n.posts) (flow t there') (n.pieces key) n.asks
            (n.numbers key) n.log f.0 f.1 f.2 x.readable (later key number n.posts) p.copy.moment late p.copy.apdu place young down sent_is

        go : ((p.key ≡ key) ⊎ (p.key ≡ key → ⊥)) → FlowAt (client_acts n p.key t (r p.key))
        go (inr ne) = client_other n p.key t (r p.key) ne flow
        go (inl is) = subst (λ (j : Key). FlowAt (client_acts n j t (r j))) (sym is) (client_own n t (r key) (mine is))

    delivers_on : (w : World S) → Kept S model opening W x bound w → AreOwn x w.net → FlowAt w.net → (number : ℕ) (free : Bool) (o : Option Post)
        → slice_get w.net.posts number ≡ o → FlowAt (delivered S model x w number free o).net
    delivers_on w s own flow number free None at = flow
    delivers_on w s own flow number free (Some p) at = go (is_deliverable x w.net number p) refl
      where
        by_end : (d : Bool) → is_from_client p.copy.apdu ≡ d → is_deliverable x w.net number p ≡ true
            → FlowAt (if d then takes_at_server S model x w p.key free p.copy.apdu else takes_at_client S x w p.key p.copy.apdu (w.net.tickets p.key)).net
        by_end true up ok =
            let may = (in_place x w.net number p at).arrives ok in
            served_on w s own flow number p at may.0 may.1 up free
        by_end false down ok =
            let may = (in_place x w.net number p at).arrives ok in
            heard_on w s own flow number p at may.0 may.1 down (w.net.tickets p.key) refl

        go : (b : Bool) → is_deliverable x w.net number p ≡ b
            → FlowAt (if b then arrives S model x w p.key free p.copy.apdu else w).net
        go true ok = by_end (is_from_client p.copy.apdu) refl ok
        go false ok = flow

    -- Ticks.

    ticket_on : (w : World S) → FlowAt w.net → (k : Key) (o : Option ClientTransaction) → w.net.tickets k ≡ o → FlowAt (ticks_ticket S x w k o).net
    ticket_on w flow k None there = flow
    ticket_on w flow k (Some t) there = go (decide_key k key)
      where
        n : Net
        n = w.net

        r : Key → client.Reaction
        r j = client.client_ticks (client_context x j (client_now n j)) t

        go : ((k ≡ key) ⊎ (k ≡ key → ⊥)) → FlowAt (client_acts n k t (r k))
        go (inr ne) = client_other n k t (r k) ne flow
        go (inl is) =
            let there' : n.tickets key ≡ Some t = subst (λ (j : Key). n.tickets j ≡ Some t) is there in
            subst (λ (j : Key). FlowAt (client_acts n j t (r j))) (sym is)
            (client_own n t (r key) (ticks_flow W x bound key some (moments_of n key) t (n.entries key) (copies_of key n.posts) (flow t there') x.readable))

    entry_on : (w : World S) → FlowAt w.net → (k : Key) → FlowAt
        (serves S model w k (server.server_ticks (server_context x k (server_now w.net k)) (w.net.entries k))).net
    entry_on w flow k = go (decide_key k key)
      where
        n : Net
        n = w.net

        v : Key → server.Reaction
        v j = server.server_ticks (server_context x j (server_now n j)) (n.entries j)

        go : ((k ≡ key) ⊎ (k ≡ key → ⊥)) → FlowAt (server_acts n k (v k))
        go (inr ne) = server_other n k (v k) ne flow
        go (inl is) = subst (λ (j : Key). FlowAt (server_acts n j (v j))) (sym is)
            (server_own n (v key) (λ t there. entry_ticks_flow W x bound key some (moments_of n key) t (n.entries key) (copies_of key n.posts) (flow t there)))

    tickets_on : (keys : List Key) (w : World S) → FlowAt w.net → FlowAt (ticks_as_client S x keys w).net
    tickets_on [] w flow = flow
    tickets_on (k ∷ keys) w flow = tickets_on keys (ticks_ticket S x w k (w.net.tickets k)) (ticket_on w flow k (w.net.tickets k) refl)

    entries_on : (keys : List Key) (w : World S) → FlowAt w.net → FlowAt (ticks_as_server S model x keys w).net
    entries_on [] w flow = flow
    entries_on (k ∷ keys) w flow =
        entries_on keys (serves S model w k (server.server_ticks (server_context x k (server_now w.net k)) (w.net.entries k))) (entry_on w flow k)

    passes : (now by : ℕ) → now ≤ now + by
    passes now by = omega arith

    server_on : (w : World S) → Kept S model opening W x bound w → (by : ℕ) (clients servers : ℕ → ℕ)
        → server_now w.net key ≤ server_now (happens S model x w (Advance by clients servers)).net key
    server_on w s by clients servers = shows_on w.net.pace (s.stands.calm key).timely.some by (servers key.server) (w.net.server_clocks key.server) (s.stands.calm key).server

    event_on : (w : World S) → Kept S model opening W x bound w → AreOwn x w.net → FlowAt w.net → (e : Event) → FlowAt (happens S model x w e).net
    event_on w s own flow (MakeAsk k choice whole front rest) =
        asks_on w s flow k choice whole front rest (is_id_held w.net k) refl
    event_on w s own flow (Deliver number free) = delivers_on w s own flow number free (slice_get w.net.posts number) refl
    event_on w s own flow (Tick as_client as_server) = entries_on as_server (ticks_as_client S x as_client w) (tickets_on as_client w flow)
    event_on w s own flow Noise = flow
    event_on w s own flow (Stray k free a) = go (is_from_client a)
      where
        to_client : (o : Option ClientTransaction) → FlowAt (strays_to_client S x w k a o).net
        to_client None = flow
        to_client (Some t) = flow

        go : (up : Bool) → FlowAt (if up then strays_to_server S model x w k free a else strays_to_client S x w k a (w.net.far.tickets k)).net
        go true = flow
        go false = to_client (w.net.far.tickets k)
    event_on w s own flow (AskAway k choice whole front rest) = go (is_id_held_away w.net k)
      where
        go : (held : Bool) → FlowAt (if held then w else asked_away S x w k
            (record { first = client_now w.net k; choice = choice; whole = whole; pieces = front ∷ rest })).net
        go true = flow
        go false = flow
    event_on w s own flow (TickAway as_client as_server) = servers as_server (ticks_as_client_away S x as_client w) (clients as_client w flow)
      where
        ticket : (w : World S) → FlowAt w.net → (k : Key) (o : Option ClientTransaction) → FlowAt (ticks_ticket_away S x w k o).net
        ticket w flow k None = flow
        ticket w flow k (Some t) = flow

        clients : (keys : List Key) (w : World S) → FlowAt w.net → FlowAt (ticks_as_client_away S x keys w).net
        clients [] w flow = flow
        clients (k ∷ keys) w flow = clients keys (ticks_ticket_away S x w k (w.net.far.tickets k)) (ticket w flow k (w.net.far.tickets k))

        servers : (keys : List Key) (w : World S) → FlowAt w.net → FlowAt (ticks_as_server_away S model x keys w).net
        servers [] w flow = flow
        servers (k ∷ keys) w flow =
            servers keys (serves_away S model w k (server.server_ticks (server_context x k (server_now w.net k)) (w.net.far.entries k))) flow
    event_on w s own flow (Advance by clients servers) = λ t there.
        flow_later W x key (hands w.net) (hands (happens S model x w (Advance by clients servers)).net) t.ask t.repeats t.phase (w.net.entries key)
        (copies_of key w.net.posts) (passes w.net.now by) refl (server_on w s by clients servers) (flow t there)
    event_on w s own flow (Change node change) = flow
    event_on w s own flow (RestartClient node exact) = client_lost w.net flow node exact
    event_on w s own flow (RestartServer node exact store) = server_lost w.net flow node exact store
    event_on w s own flow (Begin node exact) = go (is_active w.net node) (begins w.net s.stands.unserved flow node exact (is_active w.net node) refl)
      where
        go : (b : Bool) → FlowAt (if b then w.net else begun w.net node exact)
            → FlowAt (if b then w else record { net = begun w.net node exact; stores = w.stores }).net
        go true f = f
        go false f = f
    event_on w s own flow (BeginAgain node exact) = go (is_quiet w.net node) (begins_again w.net s.stands.unserved flow node exact (is_quiet w.net node))
      where
        go : (b : Bool) → FlowAt (if b then begun_again w.net node exact else w.net)
            → FlowAt (if b then record { net = begun_again w.net node exact; stores = w.stores } else w).net
        go true f = f
        go false f = f

    -- Runs.

    module _ (pace : Pace) (timely : IsTimely pace) (clocks : ℕ → ℕ) where
      abbrev reached : List Event → World S
      reached events = run S model x events (start S pace clocks opening)

      run_more : (events : List Event) (e : Event) (w : World S) → run S model x (events ++ e ∷ []) w ≡ happens S model x (run S model x events w) e
      run_more [] e w = refl
      run_more (f ∷ events) e w = run_more events e (happens S model x w f)

      flows_on : (events before : List Event) → FlowAt (reached before).net → FlowAt (reached (before ++ events)).net
      flows_on [] before flow = subst (λ (es : List Event). FlowAt (reached es).net) (sym (append-nil before)) flow
      flows_on (e ∷ events) before flow =
          let w = reached before in
          let s = run_kept S model opening W x bound before (start S pace clocks opening) (start_kept S model opening W x bound pace timely clocks) in
          let own = own_in_run x S model pace clocks opening before in
          let next : FlowAt (reached (before ++ e ∷ [])).net = subst (λ (u : World S). FlowAt u.net) (sym (run_more before e (start S pace clocks opening)))
          (event_on w s own flow e) in
          subst (λ (es : List Event). FlowAt (reached es).net) (append_assoc before (e ∷ []) events) (flows_on events (before ++ e ∷ []) next)

      pub flows_in_run : (events : List Event) → FlowAt (reached events).net
      flows_in_run events = flows_on events [] (λ t there. absurd cc)
