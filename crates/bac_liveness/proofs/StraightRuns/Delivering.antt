-- A delivery of a straight run is a delivery of the machines.
use Rattle.std.specs.Option.{option_map}
use Rattle.std.proofs.Common.{◌≡◌, ◌-◌, ◌≤◌, ◌<◌, ℕ, Bool, true, false, ◌&&◌, ◌||◌, List, ◌++◌, map, length, Option, Some, None, slice_get, if◌then◌else◌, nat_le, refl}
use Rattle.std.proofs.Common.{sym, ap, subst, ◌∙◌, inl, inr, arith, ◌⊎◌}
use Rattle.std.proofs.lemmas.Bool.Decides.{nat_tests}
use Rattle.bac_apdu.specs.Apdu.{Apdu}
use Rattle.bac_apdu.specs.Spelling.{SpellsApdu, is_confirmed_request}
use Rattle.bac_npdu.specs.Peers.{PeerView}
use Rattle.bac_npdu.specs.Datagram.{Means}
use Rattle.bac_npdu.proofs.Datagrams.{frame_means}
use Rattle.bac_service.specs.Services.{reads_reply}
use Rattle.bac_store.specs.Stores.{Store}
use Rattle.bac_protocol.specs.Pace.{Clock}
use Rattle.bac_protocol.specs.Service.{Octets}
use Rattle.bac_protocol.specs.Wire.{is_from_client}
use Rattle.bac_protocol.specs.Client as client
use Rattle.bac_protocol.specs.Client.{ClientTransaction}
use Rattle.bac_protocol.specs.Server as server
use Rattle.bac_protocol.specs.Server.{Service, server_on_apdu}
use Rattle.bac_protocol.specs.Transaction.{Key, Rules, client_context, server_context}
use Rattle.bac_protocol.specs.World.{Net, Post, client_now, server_now, happens, delivered, takes_at_client, takes_at_server}
use Rattle.bac_protocol.specs.World as net
use Rattle.bac_protocol.specs.World.Event.{Deliver}
use Rattle.bac_protocol.specs.Claims.{IsBounded}
use Rattle.bac_protocol.specs.Straight.{IsLike, like_machine}
use Rattle.bac_protocol.specs.Moves.{taken_by_client}
use Rattle.bac_transaction.specs.Ends.{is_free, act_at}
use Rattle.bac_transaction.specs.Services.{service_of}
use Rattle.bac_world.specs.Services.{ArePerformed}
use Rattle.bac_world.specs.Node.{Node, Outcome, NodeOn, IsHeard, IsHeardBy}
use Rattle.bac_world.specs.Laws.{IsMeaningless}
use Rattle.bac_world.specs.Once.{Stores, IsOnce}
use Rattle.bac_world.specs.World.{World, Copy, stores_of, Acts, Delivers, DeliversIf, later, told, peer_at}
use Rattle.bac_world.specs.World as world
use Rattle.bac_world.proofs.NodeLaws.{drops_exactly}
use Rattle.bac_world.proofs.Pairs.{IsPaired, pairwise_get}
use Rattle.bac_world.proofs.Bridge.{IsCopyOf, IsBetween, slot_key, framed_means, later_alike}
use Rattle.bac_world.proofs.AsEver.{once_after}
use Rattle.bac_world.proofs.Steps.{Over, Goes, acts_as, stores_same}
use Rattle.bac_world.proofs.Serving.{room_is, serves, served_so}
use Rattle.bac_world.proofs.Clients.{hears}
use Rattle.bac_liveness.proofs.StraightRuns.Posts.{AreOwn, own_more, own_at}
use Rattle.bac_liveness.proofs.StraightRuns.Growing.{Grows, grows_not, acts_grow}
use Rattle.bac_liveness.proofs.StraightRuns.StoreModels.{Machines, model, outcome_at, stores_fit}

and_both : (a b : Bool) → (a && b) ≡ true → (a ≡ true) × (b ≡ true)
and_both true true e = (refl, refl)
and_both true false e = absurd cc
and_both false b e = absurd cc

-- a frame means the APDU that it was made of
carried : (from to : Octets) (p : Post) (c : Copy) (links : ℕ → Option Octets)
    (apart : (i j : ℕ) (l : Octets) → links i ≡ Some l → links j ≡ Some l → i ≡ j) → (h : IsCopyOf links apart p c)
    → Means SpellsApdu from c.octets (peer_at from) p.copy.apdu
carried from to p c links apart h = frame_means SpellsApdu is_confirmed_request from h.to_link c.octets p.copy.apdu
    (λ text s. subst (λ (l : Octets). length l ≤ 1476) (sym s.is) h.short) h.frame

module _ (links : ℕ → Option Octets) (apart : (i j : ℕ) (l : Octets) → links i ≡ Some l → links j ≡ Some l → i ≡ j) (W : ℕ) (x : Rules)
    (bound : IsBounded W x) (readable : x.readable ≡ reads_reply) (opening : Stores) where
  -- the machines' world is that of the datagrams
  pub record Fit (w : World) (v : Machines) : Type 0 where
    pub over : Over links apart W x None w v.net
    pub once : IsOnce opening w.log (stores_of w.nodes)
    pub stores : (i : ℕ) → v.stores i ≡ stores_of w.nodes i

  abbrev pub with_free : Machines → (number : ℕ) → Bool → Machines
  with_free v number free = happens (Option Store) model x v (Deliver number free)

  -- that delivery, with what is kept through it; a server that has a slot has one there too
  pub record Delivery (w w' : World) (v : Machines) (number : ℕ) (old : List Post) (key : Key) : Type 0 where
    pub free : Bool
    pub slot : (b : Node) → slice_get w.nodes key.server ≡ Some b → is_free (told w key.server) b.servers ≡ true → free ≡ true
    pub fit : Fit w' (with_free v number free)
    pub own : AreOwn old key (with_free v number free).net.posts
    pub time : w'.time ≡ w.time
    pub grows : Grows w.log w'.log

  -- the machines follow: they deliver it too, or lose it where it is late
  pub record Follows (w w' : World) (v : Machines) (number : ℕ) (old : List Post) (key : Key) : Type 0 where
    pub free : Bool
    pub slot : (b : Node) → slice_get w.nodes key.server ≡ Some b → is_free (told w key.server) b.servers ≡ true → free ≡ true
    pub next : Machines
    pub step : like_machine (Option Store) model x key v (Deliver number free) next
    pub fit : Fit w' next
    pub own : AreOwn old key next.net.posts
    pub time : w'.time ≡ w.time
    pub grows : Grows w.log w'.log

  like_self : (key : Key) (v : Machines) → IsLike (Option Store) key v v
  like_self key v = record {
    moment = refl;
    client = refl;
    server = refl;
    asks = refl;
    number = refl;
    ticket = refl;
    entry = refl;
    posts = refl;
    stores = refl;
    log = refl;
    serves = refl;
  }

  followed : (w w' : World) (v : Machines) (number : ℕ) (old : List Post) (key : Key) → Delivery w w' v number old key → Follows w w' v number old key
  followed w w' v number old key d = record {
    free = d.free;
    slot = d.slot;
    next = with_free v number d.free;
    step = inl (like_self key (with_free v number d.free));
    fit = d.fit;
    own = d.own;
    time = d.time;
    grows = d.grows;
  }

  at_client_net : (v : Machines) (p : Post) (o : Option ClientTransaction)
      → (takes_at_client (Option Store) x v p.key p.copy.apdu o).net ≡ taken_by_client x v.net p o
  at_client_net v p None = refl
  at_client_net v p (Some t) = refl

  at_client_stores : (v : Machines) (p : Post) (o : Option ClientTransaction) → (takes_at_client (Option Store) x v p.key p.copy.apdu o).stores ≡ v.stores
  at_client_stores v p None = refl
  at_client_stores v p (Some t) = refl

  at_client_own : (old : List Post) (n : Net) (p : Post) → AreOwn old p.key n.posts → (o : Option ClientTransaction)
      → AreOwn old p.key (taken_by_client x n p o).posts
  at_client_own old n p h None = h
  at_client_own old n p h (Some t) =
      own_more old p.key n.posts h n.now (client.sends_of (client.client_on_apdu (client_context x p.key (client_now n p.key)) x.readable t p.copy.apdu))

  module _ (w w' : World) (v : Machines) (f : Fit w v) (number : ℕ) (c : Copy) (there : slice_get w.copies number ≡ Some c) (old : List Post) (key : Key)
      (ne : key.client ≡ key.server → ⊥) (own : AreOwn old key v.net.posts) (le : length old ≤ number) where
    abbrev n : Net
    n = v.net

    h : Over links apart W x None w n
    h = f.over

    post : IsPaired (IsCopyOf links apart) n.posts number c
    post = pairwise_get (IsCopyOf links apart) n.posts w.copies number c h.posts there

    abbrev p : Post
    p = post.other

    key_is : p.key ≡ key
    key_is = own_at old key n.posts own number p le post.there

    own_of_post : AreOwn old p.key n.posts
    own_of_post = subst (λ (k : Key). AreOwn old k n.posts) (sym key_is) own

    alike : world.is_deliverable x.overtake w.time.pace.life w.time.now number w.copies c
        ≡ (nat_le (n.now - p.copy.moment) n.pace.life && nat_le (net.later p.key number n.posts) x.overtake)
    alike =
        let laters : later c.key number w.copies ≡ net.later p.key number n.posts =
        ap (λ (k : Key). later k number w.copies) post.goes.key ∙ later_alike links apart p.key number n.posts w.copies h.posts in
        λ i. nat_le (sym h.now i - post.goes.moment i) (sym h.pace i).life && nat_le (laters i) x.overtake

    lost : net.is_deliverable x n number p ≡ false → with_free v number true ≡ v
    lost is = ap (delivered (Option Store) model x v number true) post.there
        ∙ ap (λ b. if b then net.arrives (Option Store) model x v p.key true p.copy.apdu else v) is

    reaches : (free : Bool) → net.is_deliverable x n number p ≡ true → (up : Bool) → is_from_client p.copy.apdu ≡ up
        → with_free v number free
        ≡ (if up then takes_at_server (Option Store) model x v p.key free p.copy.apdu
        else takes_at_client (Option Store) x v p.key p.copy.apdu (n.tickets p.key))
    reaches free is up way = ap (delivered (Option Store) model x v number free) post.there
        ∙ ap (λ b. if b then net.arrives (Option Store) model x v p.key free p.copy.apdu else v) is
        ∙ ap (λ b. if b then takes_at_server (Option Store) model x v p.key free p.copy.apdu
        else takes_at_client (Option Store) x v p.key p.copy.apdu (n.tickets p.key)) way

    -- It arrives.
    module _ (young : n.now - p.copy.moment ≤ n.pace.life) (few : net.later p.key number n.posts ≤ x.overtake) where
      is : net.is_deliverable x n number p ≡ true
      is =
          let a : nat_le (n.now - p.copy.moment) n.pace.life ≡ true = grind (arith, nat_tests) in
          let b : nat_le (net.later p.key number n.posts) x.overtake ≡ true = grind (arith, nat_tests) in
          λ i. a i && (b i || net.is_short n p.key)

      at_server : is_from_client p.copy.apdu ≡ true → c.from ≡ p.key.client → c.to ≡ p.key.server
          → (a b : Node) (o : Outcome) → slice_get w.nodes c.to ≡ Some a → (l : Octets) → links c.from ≡ Some l
          → IsHeardBy true (peer_at l) p.copy.apdu (told w c.to) a b o → Acts w c.to b o w' → Delivery w w' v number old key
      at_server up from_is to_is a b o node l link turn acts = record {
        free = free;
        slot = λ b' at' yes.
            let same : a ≡ b' = let e : Some a ≡ Some b' = sym node' ∙ ap (λ (k : Key). slice_get w.nodes k.server) key_is ∙ at' in cc in
            ap (λ (y : ℕ). is_free y a.servers) (ap (server_now n) key_is ∙ ap (λ (y : Clock). y.shows) (h.there key.server))
            ∙ ap (λ (y : Node). is_free (told w key.server) y.servers) same ∙ yes;
        fit = subst (λ (y : Machines). Fit w' y) (sym becomes) (record {
          over = s.0.bridge;
          once = once_after opening w.log w'.log (stores_of w.nodes) (stores_of w'.nodes) (s.0.once opening) f.once;
          stores = stores_fit v.stores w.nodes w'.nodes f.stores p.key.server a b node' acts'.nodes (slot_key l p.key.invoke_id) u.effect o.performed s.1
              (ap (λ (y : Node). y.store) turn.node);
        });
        own = subst (λ (y : Machines). AreOwn old key y.net.posts) (sym becomes)
            (subst (λ (k : Key). AreOwn old k (n.posts ++ map (net.post_of p.key n.now) u.sends)) key_is
            (own_more old p.key n.posts own_of_post n.now u.sends));
        time = acts.time;
        grows = acts_grow w w' c.to b o acts;
      }
        where
          free : Bool
          free = is_free (server_now n p.key) a.servers

          node' : slice_get w.nodes p.key.server ≡ Some a
          node' = subst (λ (i : ℕ). slice_get w.nodes i ≡ Some a) to_is node

          acts' : Acts w p.key.server b o w'
          acts' = subst (λ (i : ℕ). Acts w i b o w') to_is acts

          u : server.Reaction
          u = served_so links apart W x None n p (service_of a.store) l a.servers

          s : Goes links apart W x None w w' (net.server_acts n p.key u) × ArePerformed a.store (act_at (slot_key l p.key.invoke_id) u.effect) o.performed
          s = serves links apart W x None bound w w' n h number p c post.there post.goes young few up from_is to_is a b o node l link (service_of a.store) turn
              (acts_as w w' c.to b o acts)

          reacts : Service → Machines
          reacts y = net.serves (Option Store) model v p.key (server_on_apdu (server_context x p.key (server_now n p.key)) y (n.entries p.key) free p.copy.apdu)

          becomes : with_free v number free ≡ reacts (service_of a.store)
          becomes = reaches free is true up
              ∙ ap (λ b. net.serves (Option Store) model v p.key (server_on_apdu (server_context x p.key (server_now n p.key))
              (net.service_of (Option Store) model v p.key)
              (n.entries p.key) b p.copy.apdu)) (room_is n p.key a.servers (h.nodes p.key.server a node').serves)
              ∙ ap (λ y. reacts (outcome_at y)) (f.stores p.key.server ∙ ap (λ (y : Option Node). option_map (λ (m : Node). m.store) y) node')

      at_client : is_from_client p.copy.apdu ≡ false → c.from ≡ p.key.server → c.to ≡ p.key.client
          → (a b : Node) (o : Outcome) → slice_get w.nodes c.to ≡ Some a → (l : Octets) → links c.from ≡ Some l
          → IsHeardBy false (peer_at l) p.copy.apdu (told w c.to) a b o → Acts w c.to b o w' → Delivery w w' v number old key
      at_client down from_is to_is a b o node l link turn acts = record {
        free = true;
        slot = λ b' at' yes. refl;
        fit = subst (λ (y : Machines). Fit w' y) (sym becomes) (record {
          over = subst (λ (m : Net). Over links apart W x None w' m) (sym (at_client_net v p (n.tickets p.key))) goes.bridge;
          once = once_after opening w.log w'.log (stores_of w.nodes) (stores_of w'.nodes) (goes.once opening) f.once;
          stores = λ j. ap (λ (g : ℕ → Option Store). g j) (at_client_stores v p (n.tickets p.key)) ∙ f.stores j
              ∙ sym (stores_same w.nodes w'.nodes c.to a b acts.nodes node (ap (λ (y : Node). y.store) turn.node) j);
        });
        own = subst (λ (y : Machines). AreOwn old key y.net.posts) (sym becomes)
            (subst (λ (m : Net). AreOwn old key m.posts) (sym (at_client_net v p (n.tickets p.key)))
            (subst (λ (k : Key). AreOwn old k (taken_by_client x n p (n.tickets p.key)).posts) key_is (at_client_own old n p own_of_post (n.tickets p.key))));
        time = acts.time;
        grows = acts_grow w w' c.to b o acts;
      }
        where
          goes : Goes links apart W x None w w' (taken_by_client x n p (n.tickets p.key))
          goes = hears links apart W x None bound readable w w' n h number p c post.there post.goes young few down from_is to_is a b o node l link turn acts

          becomes : with_free v number true ≡ takes_at_client (Option Store) x v p.key p.copy.apdu (n.tickets p.key)
          becomes = reaches true is false down

      not_to_itself : c.from ≡ c.to → ⊥
      not_to_itself same = go (is_from_client p.copy.apdu) post.goes.between
        where
          client_is : p.key.client ≡ key.client
          client_is = ap (λ (k : Key). k.client) key_is

          server_is : p.key.server ≡ key.server
          server_is = ap (λ (k : Key). k.server) key_is

          go : (up : Bool) → IsBetween up p.key c.from c.to → ⊥
          go true b = ne (sym client_is ∙ sym b.0 ∙ same ∙ b.1 ∙ server_is)
          go false b = ne (sym client_is ∙ sym b.1 ∙ sym same ∙ b.0 ∙ server_is)

      module _ (y : Delivers w c w') where
        link : links c.from ≡ Some y.link
        link = sym (h.linked c.from) ∙ y.sender

        way : (up : Bool) → is_from_client p.copy.apdu ≡ up → IsBetween up p.key c.from c.to
            → IsHeardBy up (peer_at y.link) p.copy.apdu (told w c.to) y.hears.before y.hears.after y.hears.outcome → Delivery w w' v number old key
        way true up b turn = at_server up b.0 b.1 y.hears.before y.hears.after y.hears.outcome y.hears.at y.link link turn y.hears.acts
        way false down b turn = at_client down b.0 b.1 y.hears.before y.hears.after y.hears.outcome y.hears.at y.link link turn y.hears.acts

        heard : IsHeard (told w c.to) y.link c.octets y.hears.before y.hears.after y.hears.outcome → Delivery w w' v number old key
        heard z =
            let one = framed_means y.link post.goes.to_link p.copy.apdu z.apdu z.peer c.octets post.goes.frame post.goes.short z.means in
            way (is_from_client p.copy.apdu) refl post.goes.between
            (subst (λ (q : PeerView). IsHeardBy (is_from_client p.copy.apdu) q p.copy.apdu (told w c.to) y.hears.before y.hears.after y.hears.outcome) one.0
            (subst (λ (e : Apdu). IsHeardBy (is_from_client e) z.peer e (told w c.to) y.hears.before y.hears.after y.hears.outcome) one.1 z.heard))

        -- it can't be dropped
        undropped : ((y.link ≡ y.hears.before.link) ⊎ IsMeaningless y.link c.octets) → ⊥
        undropped (inl mine) = not_to_itself (apart c.from c.to y.link link ((h.nodes c.to y.hears.before y.hears.at).link ∙ ap Some (sym mine)))
        undropped (inr none) = none (peer_at y.link) p.copy.apdu (carried y.link post.goes.to_link p c links apart post.goes)

        arrives : NodeOn (told w c.to) y.link c.octets y.hears.before y.hears.after y.hears.outcome → Delivery w w' v number old key
        arrives (inl z) = absurd (undropped (drops_exactly.only (told w c.to) y.link c.octets y.hears.before y.hears.after y.hears.outcome z))
        arrives (inr z) = heard z

    goes : (a b : Bool) → nat_le (n.now - p.copy.moment) n.pace.life ≡ a → nat_le (net.later p.key number n.posts) x.overtake ≡ b
        → DeliversIf (a && b) w c w' → Follows w w' v number old key
    goes true true young few y = followed w w' v number old key (arrives (grind (arith, nat_tests)) (grind (arith, nat_tests)) y y.hears.on)
    goes true false young few same = record {
      free = true;
      slot = λ b' at' yes. refl;
      next = v;
      step = inr (late, like_self key v);
      fit = subst (λ (y : World). Fit y v) (sym same) f;
      own = own;
      time = ap (λ (y : World). y.time) same;
      grows = grows_not w.log w'.log (ap (λ (y : World). y.log) same);
    }
      where
        late : x.overtake < net.later key number n.posts
        late = let many : x.overtake < net.later p.key number n.posts = grind (arith, nat_tests) in
            subst (λ (k : Key). x.overtake < net.later k number n.posts) key_is many
    goes false b young few same = followed w w' v number old key (record {
      free = true;
      slot = λ b' at' yes. refl;
      fit = subst (λ (y : Machines). Fit w' y) (sym (lost old_one)) (subst (λ (y : World). Fit y v) (sym same) f);
      own = subst (λ (y : Machines). AreOwn old key y.net.posts) (sym (lost old_one)) own;
      time = ap (λ (y : World). y.time) same;
      grows = grows_not w.log w'.log (ap (λ (y : World). y.log) same);
    })
      where
        old_one : net.is_deliverable x n number p ≡ false
        old_one = λ i. young i && (nat_le (net.later p.key number n.posts) x.overtake || net.is_short n p.key)

    pub delivers : DeliversIf (world.is_deliverable x.overtake w.time.pace.life w.time.now number w.copies c) w c w' → Follows w w' v number old key
    delivers d = goes (nat_le (n.now - p.copy.moment) n.pace.life) (nat_le (net.later p.key number n.posts) x.overtake) refl refl
        (subst (λ b. DeliversIf b w c w') alike d)
