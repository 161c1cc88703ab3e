-- Repeats suffice, in every world.
use Rattle.std.proofs.Common.{◌≡◌, ◌⊎◌, ℕ, ◌+◌, ◌-◌, ◌<◌, ◌≤◌, Bool, true, false, List, [], ◌∷◌, ◌++◌, map, length, Option, Some, None, slice_get, refl, sym}
use Rattle.std.proofs.Common.{ap, subst, inl, inr, ◌∙◌, arith}
use Rattle.bac_apdu.specs.Apdu.{Apdu, Limits}
use Rattle.bac_service.specs.Services.{reads_reply}
use Rattle.bac_service.specs.Values.{Request, choice_of}
use Rattle.bac_service.specs.Requests.{SpellsRequest}
use Rattle.bac_segment.specs.Pieces.{join}
use Rattle.bac_store.specs.Stores.{Store}
use Rattle.bac_protocol.specs.declared.times.TheConstants.{T_OUT, DEADLINE}
use Rattle.bac_protocol.specs.Context.{Settings}
use Rattle.bac_protocol.specs.Sizes.{request_way_of}
use Rattle.bac_protocol.specs.Sizes.Way.{InOne}
use Rattle.bac_protocol.specs.Service.{Octets, Reply}
use Rattle.bac_protocol.specs.Service.Outcome.{Replies}
use Rattle.bac_protocol.specs.Wire.{is_from_client}
use Rattle.bac_protocol.specs.Client as client
use Rattle.bac_protocol.specs.Client.{Ask, ClientTransaction, is_idle, ending_of, request_of}
use Rattle.bac_protocol.specs.Client.Phase.{AwaitConfirmation}
use Rattle.bac_protocol.specs.Server as server
use Rattle.bac_protocol.specs.Server.{Service, is_none_live, server_on_apdu}
use Rattle.bac_protocol.specs.Log as octets
use Rattle.bac_protocol.specs.Transaction.{Key, Rules, client_context, server_context, ended}
use Rattle.bac_protocol.specs.World.{Net, Post, post_of, asked_at, client_acts, client_now, server_now, is_lost, is_room}
use Rattle.bac_protocol.specs.Moves.{taken_by_client}
use Rattle.bac_protocol.specs.Straight.{KindFits}
use Rattle.bac_protocol.specs.Claims as claims
use Rattle.bac_protocol.specs.Pace.{Pace, Clock, most, IsTimely}
use Rattle.bac_protocol.proofs.SingleMoves.{reached_stands}
use Rattle.bac_slots.specs.Slots.{value_at}
use Rattle.bac_transaction.specs.Keys.{PeerKey, same_key}
use Rattle.bac_transaction.specs.Sends.{Pairwise}
use Rattle.bac_transaction.specs.Ends.{Client, TransactionSlot, act_at, is_free, open_unless}
use Rattle.bac_transaction.specs.Services.{service_of}
use Rattle.bac_world.specs.Services.{Performed, ArePerformed}
use Rattle.bac_world.specs.Node.{Node}
use Rattle.bac_world.specs.Once.{Stores, IsOnce}
use Rattle.bac_world.specs.World.{World, Event, Copy, WorldStep, WorldRun, IsFresh, IsBounded, IsAsked, RunsOn, told, link_at, stores_of, peer_at}
use Rattle.bac_world.specs.World.Event.{Deliver}
use Rattle.bac_world.proofs.Pairs.{IsPaired}
use Rattle.bac_world.proofs.Logs.{FactMeans}
use Rattle.bac_world.proofs.Bridge.{here_at, IsCopyOf, IsBetween, TicketFits, key_of, slot_key}
use Rattle.bac_world.proofs.Steps.{Over}
use Rattle.bac_world.proofs.Serving.{room_is}
use Rattle.bac_world.proofs.Asking.{accepted_whole}
use Rattle.bac_world.proofs.Headline.{headline, fresh_over, rules_of, rules_bounded}
use Rattle.bac_liveness.specs.Runs.{StaysSince}
use Rattle.bac_liveness.specs.RoundTrip.{FitsInOne, request_to, answer_to}
use Rattle.bac_liveness.specs.Repeats as machine
use Rattle.bac_liveness.specs.Repeats.{PATIENCE}
use Rattle.bac_liveness.specs.WorldRuns.{Throughout}
use Rattle.bac_liveness.specs.WorldRoundTrip.{MayArrive, IsRequest, CanPerform, IsAnswered, IsFromServer}
use Rattle.bac_liveness.specs.WorldRepeats.{FindsServer, IsSoon, IsWaiting, IsRobust, RepeatsSuffice}
use Rattle.bac_liveness.proofs.Paths.{some_is, ask_of}
use Rattle.bac_liveness.proofs.Serving.{answer_not_from_client}
use Rattle.bac_liveness.proofs.Clocks.{AskedIn, SoonIn, soon_of, asked_path}
use Rattle.bac_liveness.proofs.Waits.{Waits, Finds, PatientOrOver, WasGiven, waits_path, repeat_left, fine_comes, fine_down, told_answered, brings_answer}
use Rattle.bac_liveness.proofs.Robust.{asked_on}
use Rattle.bac_liveness.proofs.Following.{Gives, Followed, Parts, IsTaken, IsServedBy, served_reaction, accepted, asked_free, post, comes, heard_now}
use Rattle.bac_liveness.proofs.Following.{served_over, told_over, run_followed}
use Rattle.bac_liveness.proofs.Asked.{key, ask, made, made_over, node_at, stays, client_link, server_link, foreign, request_is, is_request, pairwise_rest}
use Rattle.bac_liveness.proofs.Asked.{just_one}
use Rattle.bac_liveness.proofs.WorldEndings.{run_join, on_run, opened_net}
use Rattle.bac_liveness.proofs.Performing.{id_is, is_none, entry_is, slot, outcome, way, does, reaction}
use Rattle.bac_liveness.proofs.Values.{answered_values, reply_kind}

-- what was performed has a kind that fits
effect_kind : (readable : _) (store : Store) (q : PeerKey) (choice : ℕ) (text : Octets) (reply : Reply) (o : Option Performed)
    → ArePerformed store (act_at q (Some (record { request = record { choice = choice; service = text }; reply = reply }))) o → readable ≡ reads_reply
    → KindFits readable choice reply
effect_kind readable store q choice text reply None done is = absurd done
effect_kind readable store q choice text reply (Some v) done is = subst (λ z. KindFits z choice reply) (sym is)
    (reply_kind choice text store v.request reply v.reply done.what.request done.what.reply done.what.means)

module _ (links : ℕ → Option Octets) (apart : (i j : ℕ) (l : Octets) → links i ≡ Some l → links j ≡ Some l → i ≡ j) (W : ℕ) (x : Rules)
    (bound : claims.IsBounded W x) (readable : x.readable ≡ reads_reply) (opening : Stores) (old : World) (n : Net) (h : Over links apart W x None old n)
    (c s : ℕ) (limits : Limits) (r : Request) (asked : World) (a : IsAsked old c s limits r asked)
    (p : Parts links apart W x bound readable old n c s limits r asked a) (whole : p.whole ≡ true)
    (once : (events : List Event) (w : World) → WorldRun x.overtake asked events w → IsOnce opening w.log (stores_of w.nodes)) where
  abbrev its_key : Key
  its_key = key links apart W x bound readable old n h c s limits r asked a p

  abbrev its_ask : Ask
  its_ask = ask links apart W x bound readable old n h c s limits r asked a p

  abbrev first : Net
  first = made links apart W x bound readable old n h c s limits r asked a p

  abbrev Finding : World → Event → Type 0
  Finding = FindsServer x.overtake s a.before a.accepted.invoke_id r a.sent

  abbrev Goes : Net → ℕ → Bool → Service → Type 0
  Goes = Finds x its_key its_ask n.asks n.now

  abbrev On : Net → Type 0
  On = Waits x its_key its_ask n.asks n.now

  same_node : its_key.client ≡ its_key.server → ⊥
  same_node = foreign links apart W x bound readable old n h c s limits r asked a p

  away : (k : Key) → k ≡ its_key → k.client ≡ k.server → ⊥
  away k is e = same_node (sym (ap (λ (y : Key). y.client) is) ∙ e ∙ ap (λ (y : Key). y.server) is)

  -- A copy of the request that comes finds its server.

  module _ (w w' : World) (m : Net) (over : Over links apart W x None w m) (number : ℕ) (y : Post) (d : Copy)
      (t : IsTaken links apart W x bound readable w w' m number y d) (is : y.key ≡ its_key) (apdu : y.copy.apdu ≡ request_to x its_key its_ask) where
    so : IsServedBy links apart W x bound readable w w' m over number y d t
    so = served_over links apart W x bound readable w w' m over number y d t (ap is_from_client apdu)

    at : slice_get w.nodes s ≡ Some t.before
    at = sym (ap (λ (k : Key). slice_get w.nodes k.server) is) ∙ so.node

    finds : Finding w (Deliver number) → is_none_live (server_now m its_key) (m.entries its_key) ≡ true
        → (q : Reply) × (is_free (server_now m its_key) t.before.servers ≡ true) × (service_of t.before.store its_ask.choice (join its_ask.pieces) ≡ Replies q)
        × FitsInOne x its_key its_ask q
    finds f none = (
      can.reply,
      slot links apart W x bound readable old n h c s limits r asked a p w m over t.before at can,
      outcome links apart W x bound readable old n h c s limits r asked a p w m over t.before at can,
      record {
        way = way links apart W x bound readable old n h c s limits r asked a p w m over t.before at can;
        kind = effect_kind x.readable t.before.store (slot_key t.link y.key.invoke_id) its_ask.choice (join its_ask.pieces) can.reply t.outcome.performed
            performed readable;
      },
    )
      where
        can : CanPerform (told w s) a.before t.before a.accepted.invoke_id r
        can = f d t.may (is_request links apart W x bound readable old n h c s limits r asked a p whole y d t.copied is apdu) t.before at
            (entry_is links apart W x bound readable old n h c s limits r asked a p w m over t.before at
            ∙ is_none (server_now m its_key) (m.entries its_key) none)

        reaction_is : served_reaction links apart W x bound readable w w' m over number y d t
            ≡ does links apart W x bound readable old n h c s limits r asked a p w m over t.before at can
        reaction_is = reaction links apart W x bound readable old n h c s limits r asked a p w m over t.before at can y is apdu t.before refl

        performed : ArePerformed t.before.store (act_at (slot_key t.link y.key.invoke_id) (Some (record { request = request_of its_ask; reply = can.reply })))
            t.outcome.performed
        performed = subst (λ (v : server.Reaction). ArePerformed t.before.store (act_at (slot_key t.link y.key.invoke_id) v.effect) t.outcome.performed)
            reaction_is so.performed

  gives : (w : World) (m : Net) → Over links apart W x None w m → (e : Event) → Finding w e → Gives links apart W x bound readable Goes w m e
  gives w m over (Event.Ask client server' limits' r') f = tt
  gives w m over (Event.AskAway client peer limits' r') f = tt
  gives w m over (Deliver number) f = λ w' y d t up on none.
      let same = some_is y on.post (sym t.at ∙ on.at) in
      let found = finds w w' m over number y d t (ap (λ (z : Post). z.key) same ∙ on.key_is) (ap (λ (z : Post). z.copy.apdu) same ∙ on.apdu_is) f none in
      let node = at w w' m over number y d t (ap (λ (z : Post). z.key) same ∙ on.key_is) (ap (λ (z : Post). z.copy.apdu) same ∙ on.apdu_is) in (
        found.0,
        ap (λ (k : Key). is_room m its_key (is_free (server_now m k) t.before.servers)) (ap (λ (z : Post). z.key) same ∙ on.key_is)
            ∙ room_is m its_key t.before.servers (over.nodes s t.before node).serves ∙ found.1,
        found.2,
        found.3,
      )
  gives w m over (Event.Noise node from data') f = tt
  gives w m over (Event.Stray node from data') f = tt
  gives w m over (Event.Tick node) f = tt
  gives w m over (Event.Advance by own) f = tt
  gives w m over (Event.Change node change) f = tt
  gives w m over (Event.Restart node exact store) f = tt
  gives w m over (Event.Begin node exact) f = tt
  gives w m over (Event.BeginAgain node exact first_id store) f = tt

  -- It is waited for.

  first_on : On first
  first_on = subst (λ (b : Bool). Waits x its_key (ask_of (here_at n c) (choice_of r) b p.front p.rest) n.asks n.now
      (asked_at x n its_key (ask_of (here_at n c) (choice_of r) b p.front p.rest))) (sym whole)
      (asked_on W x n (reached_stands W x bound h.sound.0 h.sound.2 h.sound.1 n h.sound.3) its_key (choice_of r) p.front p.rest
      (asked_free links apart W x bound readable old n h c s limits r asked a p))

  followed : (events : List Event) (w : World) (run : WorldRun x.overtake asked events w) → Throughout x.overtake Finding asked events w run
      → Followed links apart W x bound readable Goes events w first
  followed events w run each = run_followed links apart W x bound readable Goes Finding gives events asked w first
      (made_over links apart W x bound readable old n h c s limits r asked a p) run each

  wait_limit : (w : World) (m : Net) → Over links apart W x None w m → told w c < told old c + PATIENCE → client_now m its_key < its_ask.first + PATIENCE
  wait_limit w m over young =
      let one : here_at m c ≡ told w c = ap (λ (y : Clock). y.shows) (over.here c) in
      let two : here_at n c ≡ told old c = ap (λ (y : Clock). y.shows) (h.here c) in
      omega arith

  lives : (events : List Event) (w : World) (f : Followed links apart W x bound readable Goes events w first) → RunsOn c events → StaysSince f.net its_key n.now
  lives events w f life = stays links apart W x bound readable old n h c s limits r asked a p f.net (f.lives c life)

  asked_in : (events : List Event) (w : World) (f : Followed links apart W x bound readable Goes events w first)
      → AskedIn f.net its_key its_ask.first n.now
  asked_in events w f = asked_path x Goes its_key its_ask.first n.now first f.net f.path first_on.clock

  on_soon : (events : List Event) (w : World) (f : Followed links apart W x bound readable Goes events w first) → SoonIn f.net n.now → On f.net
  on_soon events w f soon = waits_path x its_key its_ask n.asks n.now whole first f.net f.path first_on soon

  on_of : (events : List Event) (w : World) (f : Followed links apart W x bound readable Goes events w first) → RunsOn c events
      → told w c < told old c + PATIENCE → On f.net
  on_of events w f life young = on_soon events w f (soon_of f.net its_key its_ask.first n.now (asked_in events w f) (lives events w f life)
      (let lt = wait_limit w f.net f.over young in omega arith))

  soon_in : (w : World) (m : Net) → Over links apart W x None w m → IsSoon old w → SoonIn m n.now
  soon_in w m over soon = subst (λ (q : Pace). m.now ≤ n.now + most q DEADLINE) (sym over.pace)
      (let one = over.now in let two = h.now in let le = soon in omega arith)

  spelled : SpellsRequest (request_of its_ask).choice r (request_of its_ask).service
  spelled = subst (λ (z : Octets). SpellsRequest (choice_of r) r z) (sym p.joined) a.asks.spelled

  -- as a value
  answered_as : (w : World) (m : Net) (log : List octets.Fact) → Pairwise (FactMeans None) log w.log → IsOnce opening w.log (stores_of w.nodes)
      → machine.IsAnswered n.asks its_ask log → IsAnswered (length old.notes) r w.log
  answered_as w m log means right k = subst (λ (i : ℕ). IsAnswered i r w.log) h.asks
      (answered_values opening (stores_of w.nodes) n.asks (request_of its_ask) k.0 log w.log means right k.1 r spelled k.2)

  -- the ticket at its client
  waiting : (w : World) (m : Net) → Over links apart W x None w m → client_now m its_key < its_ask.first + PATIENCE → (o : On m) → (t : ClientTransaction)
      → m.tickets its_key ≡ Some t
      → t.phase ≡ AwaitConfirmation → (T_OUT ≤ client_now m its_key - t.since → 0 < t.repeats) → IsWaiting w c a.link a.accepted.invoke_id
  waiting w m over young o t at waits left = go (value_at same_key (slot_key a.link p.id) node.0.clients.slots) refl
      (subst (λ (z : Option ClientTransaction). TicketFits (is_lost m its_key) (here_at m c) w.notes c (m.numbers its_key)
      (value_at same_key (slot_key a.link p.id) node.0.clients.slots) z) at
      ((over.nodes c node.0 node.1).clients.found s a.link p.id (server_link links apart W x bound readable old n h c s limits r asked a p)))
    where
      node : (b : Node) × (slice_get w.nodes c ≡ Some b)
      node = node_at a.before.link (slice_get w.nodes c)
          (over.linked c ∙ client_link links apart W x bound readable old n h c s limits r asked a p)

      going : is_idle t.phase ≡ false
      going = ap is_idle waits

      go : (v : Option Client) → value_at same_key (slot_key a.link p.id) node.0.clients.slots ≡ v
          → TicketFits (is_lost m its_key) (here_at m c) w.notes c (m.numbers its_key) v (Some t) → IsWaiting w c a.link a.accepted.invoke_id
      go None look f = absurd (let z = sym going ∙ f.over in cc)
      go (Some v) look f = record {
        node = node.0;
        at = node.1;
        number = v.number;
        ticket = t;
        there = ap (λ (k : ℕ). value_at same_key (slot_key a.link k) node.0.clients.slots)
            (id_is links apart W x bound readable old n h c s limits r asked a p) ∙ look
            ∙ ap (λ (z : TransactionSlot). Some (record { number = v.number; held = z })) (f.held ∙ ap (λ (b : Bool). open_unless b t) going);
        waits = waits;
        left = λ due. let some = left (subst (λ (k : ℕ). T_OUT ≤ k - t.since) (sym (ap (λ (y : Clock). y.shows) (over.here c))) due) in omega arith;
      }

  waits : (events : List Event) (w : World) (run : WorldRun x.overtake asked events w) → Throughout x.overtake Finding asked events w run
      → RunsOn c events → told w c < told old c + PATIENCE → IsWaiting w c a.link a.accepted.invoke_id ⊎ IsAnswered (length old.notes) r w.log
  waits events w run each life young = go o.ticket.state
    where
      f : Followed links apart W x bound readable Goes events w first
      f = followed events w run each

      o : On f.net
      o = on_of events w f life young

      go : PatientOrOver x its_key its_ask n.asks n.now (f.net.restarted its_key.client) (client_now f.net its_key) o.ticket.ticket f.net.log
          → IsWaiting w c a.link a.accepted.invoke_id ⊎ IsAnswered (length old.notes) r w.log
      go (inl k) = inl (waiting w f.net f.over (wait_limit w f.net f.over young) o o.ticket.ticket o.ticket.at k.waits
          (λ due. repeat_left x its_key its_ask n.asks n.now (client_now f.net its_key) o.ticket.ticket k (wait_limit w f.net f.over young) due))
      go (inr (idle, inr (inl lost))) = let le = lives events w f life in absurd (omega arith)
      go (inr (idle, inr (inr late))) = let lt = wait_limit w f.net f.over young in absurd (omega arith)
      go (inr (idle, inl answered)) = inr (answered_as w f.net f.net.log f.over.log (once events w run) answered)

  -- A copy of the request brings an answer.

  module _ (w served : World) (m : Net) (over : Over links apart W x None w m) (on : On m) (soon : SoonIn m n.now)
      (number : ℕ) (d : Copy) (may : MayArrive x.overtake w number d) (q : IsRequest a.sent d) (f : Finding w (Deliver number))
      (did : WorldStep x.overtake w (Deliver number) served) where
    abbrev y : IsPaired (IsCopyOf links apart) m.posts number d
    y = post links apart W x bound readable w served m over number d may.at

    is : (y.other.key ≡ its_key) × (y.other.copy.apdu ≡ request_to x its_key its_ask)
    is = request_is links apart W x bound readable old n h c s limits r asked a p whole y.other d y.goes q

    taken : IsTaken links apart W x bound readable w served m number y.other d
    taken = heard_now links apart W x bound readable w served m over number d may.at may.arrives (away y.other.key is.0) did

    served_so : IsServedBy links apart W x bound readable w served m over number y.other d taken
    served_so = served_over links apart W x bound readable w served m over number y.other d taken (ap is_from_client is.1)

    brought : (u : Reply) × ((server_on_apdu (server_context x its_key (server_now m its_key)) (service_of taken.before.store) (m.entries its_key)
        (is_free (server_now m its_key) taken.before.servers) (request_to x its_key its_ask)).sends ≡ answer_to x its_key its_ask u ∷ [])
    brought = brings_answer x its_key its_ask n.asks n.now m on soon (service_of taken.before.store) (is_free (server_now m its_key) taken.before.servers)
        (λ none. finds w served m over number y.other d taken is.0 is.1 f none)

    abbrev gets : Key → Apdu → server.Reaction
    gets k z = server_on_apdu (server_context x k (server_now m k)) (service_of taken.before.store) (m.entries k)
        (is_free (server_now m k) taken.before.servers) z

    sends_is : map (post_of y.other.key m.now) (gets y.other.key y.other.copy.apdu).sends ≡ post_of its_key m.now (answer_to x its_key its_ask brought.0) ∷ []
    sends_is = (λ i. map (post_of (is.0 i) m.now) (gets (is.0 i) (is.1 i)).sends) ∙ ap (map (post_of its_key m.now)) brought.1

    sent : Pairwise (IsCopyOf links apart) (post_of its_key m.now (answer_to x its_key its_ask brought.0) ∷ []) taken.acts.sent
    sent = subst (λ (ps : List Post). Pairwise (IsCopyOf links apart) ps taken.acts.sent) sends_is
        (pairwise_rest (IsCopyOf links apart) m.posts (map (post_of y.other.key m.now) (gets y.other.key y.other.copy.apdu).sends) w.copies taken.acts.sent
        over.posts (subst (λ (cs : List Copy). Pairwise (IsCopyOf links apart)
        (m.posts ++ map (post_of y.other.key m.now) (gets y.other.key y.other.copy.apdu).sends) cs) taken.acts.copies served_so.over.posts))

    one : (b : Copy) × (taken.acts.sent ≡ b ∷ [])
    one = just_one (IsCopyOf links apart) (post_of its_key m.now (answer_to x its_key its_ask brought.0)) taken.acts.sent sent

    copied : IsCopyOf links apart (post_of its_key m.now (answer_to x its_key its_ask brought.0)) one.0
    copied = (subst (λ (cs : List Copy). Pairwise (IsCopyOf links apart) (post_of its_key m.now (answer_to x its_key its_ask brought.0) ∷ []) cs) one.1 sent).0

    between : IsBetween false its_key one.0.from one.0.to
    between = subst (λ (b : Bool). IsBetween b its_key one.0.from one.0.to)
        (answer_not_from_client (server_context x its_key its_ask.first) its_ask.choice brought.0) copied.between

    brings_one : (answer : Copy) × (served.copies ≡ w.copies ++ answer ∷ []) × IsFromServer c s a.accepted.invoke_id answer
    brings_one = (
      one.0,
      taken.acts.copies ∙ ap (λ (cs : List Copy). w.copies ++ cs) one.1,
      record {
        key = copied.key ∙ ap (key_of c s) (sym (id_is links apart W x bound readable old n h c s limits r asked a p));
        from = between.0;
      },
    )

  -- An answer is delivered.

  module _ (events : List Event) (w answered : World) (run : WorldRun x.overtake asked events w) (m : Net) (over : Over links apart W x None w m)
      (kept : StaysSince m its_key n.now) (on : On m) (young : client_now m its_key < its_ask.first + PATIENCE) (number : ℕ) (d : Copy)
      (may : MayArrive x.overtake w number d)
      (from : IsFromServer c s a.accepted.invoke_id d) (did : WorldStep x.overtake w (Deliver number) answered) where
    abbrev z : IsPaired (IsCopyOf links apart) m.posts number d
    z = post links apart W x bound readable w answered m over number d may.at

    key_is : z.other.key ≡ its_key
    key_is = sym z.goes.key ∙ from.key ∙ ap (key_of c s) (id_is links apart W x bound readable old n h c s limits r asked a p)

    down : is_from_client z.other.copy.apdu ≡ false
    down = go (is_from_client z.other.copy.apdu) z.goes.between
      where
        go : (b : Bool) → IsBetween b z.other.key d.from d.to → b ≡ false
        go false k = refl
        go true k = absurd (same_node (sym (ap (λ (y : Key). y.client) key_is) ∙ sym k.0 ∙ from.from))

    heard : IsTaken links apart W x bound readable w answered m number z.other d
    heard = heard_now links apart W x bound readable w answered m over number d may.at may.arrives (away z.other.key key_is) did

    fine : (q : Reply) × (z.other.copy.apdu ≡ answer_to x its_key its_ask q) × WasGiven x its_key its_ask n.asks n.now q m.log
    fine = fine_down x its_key its_ask n.asks n.now m.log z.other.copy.apdu down (fine_comes x its_key its_ask n.asks n.now m on number z.other
        (comes links apart W x bound readable w answered m over number z.other d heard) key_is)

    abbrev hears : ClientTransaction → Apdu → client.Reaction
    hears t y = client.client_on_apdu (client_context x its_key (client_now m its_key)) x.readable t y

    last_over : Over links apart W x None answered (client_acts m its_key on.ticket.ticket (hears on.ticket.ticket (answer_to x its_key its_ask fine.0)))
    last_over = subst (λ (y : Apdu). Over links apart W x None answered (client_acts m its_key on.ticket.ticket (hears on.ticket.ticket y))) fine.1
        (subst (λ (k : Key). Over links apart W x None answered (client_acts m k on.ticket.ticket
        (client.client_on_apdu (client_context x k (client_now m k)) x.readable on.ticket.ticket z.other.copy.apdu))) key_is
        (subst (λ (o : Option ClientTransaction). Over links apart W x None answered (taken_by_client x m z.other o)) (ap m.tickets key_is ∙ on.ticket.at)
        (told_over links apart W x bound readable w answered m over number z.other d heard down)))

    abbrev log_after : ℕ → List octets.Fact
    log_after k = ended k (ending_of (hears on.ticket.ticket (answer_to x its_key its_ask fine.0))) m.log

    is_answered : IsAnswered (length old.notes) r answered.log
    is_answered = answered_as answered m (log_after (m.numbers its_key)) last_over.log
        (once (events ++ Deliver number ∷ []) answered
        (run_join x.overtake events (Deliver number ∷ []) asked w answered run (answered, did, refl)))
        (subst (λ (k : ℕ). machine.IsAnswered n.asks its_ask (log_after k)) (sym on.number_is)
        (told_answered x its_key its_ask n.asks n.now m on kept young on.ticket.ticket on.ticket.at fine.0 fine.2))

  pub robust : IsRobust x.overtake old c s limits r asked a
  robust = record {
    waits = λ events w run each life young. waits events w run each life young;
    brings = λ events w run each soon number d may q f served did.
        let g = followed events w run each in
        let early = soon_in w g.net g.over soon in
        brings_one w served g.net g.over (on_soon events w g early) early number d may q f did;
    answers = λ events w run each life young number d may from answered did.
        let g = followed events w run each in
        is_answered events w answered run g.net g.over (lives events w g life) (on_of events w g life young) (wait_limit w g.net g.over young)
        number d may from did;
  }

pub repeats_suffice : (W overtake : ℕ) (opening reached : World) → IsFresh opening → IsTimely opening.time.pace → IsBounded W overtake opening
    → (events : List Event) → WorldRun overtake opening events reached → RepeatsSuffice overtake reached
repeats_suffice W overtake opening reached fresh timely bounded events run c s limits r asked a in_one =
    let links : ℕ → Option Octets = link_at opening.nodes in
    let x : Rules = rules_of overtake opening in
    let bound = rules_bounded W overtake opening bounded in
    let f = on_run links fresh.apart W x bound refl events opening reached (opened_net opening)
    (fresh_over None W overtake opening fresh timely bounded) run in
    let p = accepted_whole (x.settings c) (here_at f.net c) (peer_at a.link) (choice_of r) a.asks.octets a.before.clients a.accepted limits
    (accepted links fresh.apart W x bound refl reached f.net f.over c s limits r asked a)
    (subst (λ (z : Settings). request_way_of z limits a.asks.octets ≡ InOne) (f.over.nodes c a.before a.at).settings in_one) in
    robust links fresh.apart W x bound refl (stores_of opening.nodes) reached f.net f.over c s limits r asked a p.0 p.1
    (λ more w after. headline W overtake opening w fresh timely bounded (events ++ Event.Ask c s limits r ∷ more)
    (run_join overtake events (Event.Ask c s limits r ∷ more) opening reached w run (asked, inl a, after)))
