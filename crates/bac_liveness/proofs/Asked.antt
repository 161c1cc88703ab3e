-- An accepted ask of a world, as its machines make it, and the copies of its request.
use Rattle.std.specs.Option.{option_map}
use Rattle.std.proofs.Common.{◌≡◌, ℕ, suc, ◌≤◌, Bool, true, false, List, [], ◌∷◌, ◌++◌, map, length, Option, Some, None, if◌then◌else◌, refl, sym, ap, subst}
use Rattle.std.proofs.Common.{◌∙◌, arith}
use Rattle.bac_apdu.specs.Apdu.{Apdu, Limits}
use Rattle.bac_apdu.specs.Spelling.{SpellsApdu, apdu_spelling, is_confirmed_request}
use Rattle.bac_npdu.specs.Datagram.{Means, IsFrameTo, frame}
use Rattle.bac_npdu.proofs.Datagrams.{frame_means}
use Rattle.bac_service.specs.Services.{reads_reply}
use Rattle.bac_service.specs.Values.{Request, choice_of}
use Rattle.bac_segment.specs.Window.{outgoing}
use Rattle.bac_protocol.specs.Service.{Octets}
use Rattle.bac_protocol.specs.Wire.{is_from_client}
use Rattle.bac_protocol.specs.Server.{Service}
use Rattle.bac_protocol.specs.Client as client
use Rattle.bac_protocol.specs.Client.{Ask, ClientTransaction, Reaction}
use Rattle.bac_protocol.specs.Client.Phase.{AwaitConfirmation}
use Rattle.bac_protocol.specs.Client.Reaction.{Stays, GoesOn, Repeats, Ends}
use Rattle.bac_protocol.specs.Transaction.{Key, Rules, client_context}
use Rattle.bac_protocol.specs.World.{Net, Post, post_of}
use Rattle.bac_protocol.specs.Claims as claims
use Rattle.bac_protocol.proofs.Standing.{spent_stands}
use Rattle.bac_protocol.proofs.Paces.{since_now}
use Rattle.bac_protocol.proofs.Keys.{set_same}
use Rattle.bac_protocol.proofs.SingleMoves.{reached_stands, reached_calm}
use Rattle.bac_transaction.specs.Sends.{Pairwise}
use Rattle.bac_world.specs.Node.{Node}
use Rattle.bac_world.specs.World.{World, Copy, IsAsked, peer_at}
use Rattle.bac_world.proofs.Bridge.{here_at, IsCopyOf, IsBetween, key_of, framed_means}
use Rattle.bac_world.proofs.Steps.{Over}
use Rattle.bac_liveness.specs.Runs.{StaysSince}
use Rattle.bac_liveness.specs.RoundTrip.{request_to}
use Rattle.bac_liveness.specs.WorldRoundTrip.{IsRequest}
use Rattle.bac_liveness.proofs.Clocks.{MadeIn}
use Rattle.bac_liveness.proofs.Paths.{ask_of, Bounded, Step, Path, sent_now}
use Rattle.bac_liveness.proofs.Paths.Path.{Here, Then}
use Rattle.bac_liveness.proofs.Changes.{IsThere}
use Rattle.bac_liveness.proofs.Staying.{reached_bounded}
use Rattle.bac_liveness.proofs.Following.{Parts, asked_free, asked_net, asked_over}

pub after_ask : (now : ℕ) (t : ClientTransaction) (r : Reaction) → (client.after now t r).ask ≡ t.ask
after_ask now t Stays = refl
after_ask now t (GoesOn phase sends) = refl
after_ask now t (Repeats phase sends) = refl
after_ask now t (Ends sends how) = refl

-- Lists that go together one by one.

pub pairwise_rest : {A B : Type 0} (R : A → B → Type 0) (xs us : List A) (ys vs : List B) → Pairwise R xs ys → Pairwise R (xs ++ us) (ys ++ vs)
    → Pairwise R us vs
pairwise_rest R [] us [] vs h k = k
pairwise_rest R [] us (y ∷ ys) vs h k = absurd h
pairwise_rest R (x ∷ xs) us [] vs h k = absurd h
pairwise_rest R (x ∷ xs) us (y ∷ ys) vs h k = pairwise_rest R xs us ys vs h.1 k.1

pub pairwise_length : {A B : Type 0} (R : A → B → Type 0) (xs : List A) (ys : List B) → Pairwise R xs ys → length xs ≡ length ys
pairwise_length R [] [] h = refl
pairwise_length R [] (y ∷ ys) h = absurd h
pairwise_length R (x ∷ xs) [] h = absurd h
pairwise_length R (x ∷ xs) (y ∷ ys) h = ap suc (pairwise_length R xs ys h.1)

pub just_one : {A B : Type 0} (R : A → B → Type 0) (a : A) (bs : List B) → Pairwise R (a ∷ []) bs → (b : B) × (bs ≡ b ∷ [])
just_one R a [] h = absurd h
just_one R a (b ∷ []) h = (b, refl)
just_one R a (b ∷ d ∷ more) h = absurd h.1

pub node_at : (l : Octets) (o : Option Node) → option_map (λ (b : Node). b.link) o ≡ Some l → (b : Node) × (o ≡ Some b)
node_at l None e = absurd cc
node_at l (Some b) e = (b, refl)

-- no ask of a net of a world was made later than now, and no client restarted later
pub bounded_over : (links : ℕ → Option Octets) (apart : (i j : ℕ) (l : Octets) → links i ≡ Some l → links j ≡ Some l → i ≡ j) (W : ℕ) (x : Rules)
    (w : World) (n : Net) → Over links apart W x None w n → Bounded n
bounded_over links apart W x w n over = reached_bounded x over.sound.0 over.sound.1 n over.sound.3

module _ (links : ℕ → Option Octets) (apart : (i j : ℕ) (l : Octets) → links i ≡ Some l → links j ≡ Some l → i ≡ j) (W : ℕ) (x : Rules)
    (bound : claims.IsBounded W x) (readable : x.readable ≡ reads_reply) (old : World) (n : Net) (h : Over links apart W x None old n)
    (c s : ℕ) (limits : Limits) (r : Request) (asked : World) (a : IsAsked old c s limits r asked)
    (p : Parts links apart W x bound readable old n c s limits r asked a) where
  abbrev pub key : Key
  key = key_of c s p.id

  abbrev pub ask : Ask
  ask = ask_of (here_at n c) (choice_of r) p.whole p.front p.rest

  abbrev pub made : Net
  made = asked_net links apart W x bound readable old n h c s limits r asked a p

  pub made_over : Over links apart W x None asked made
  made_over = asked_over links apart W x bound readable old n h c s limits r asked a p

  pub made_bounded : Bounded made
  made_bounded = bounded_over links apart W x asked made made_over

  pub made_path : (Q : Net → ℕ → Bool → Service → Type 0) → Path x Q n made
  made_path Q = Then n made Here (Step.Asks (key_of c s p.id) (choice_of r) p.whole p.front p.rest
      (asked_free links apart W x bound readable old n h c s limits r asked a p))

  pub there : (Q : Net → ℕ → Bool → Service → Type 0) → IsThere x Q key n.asks ask n.now made
  there Q = record {
    ticket = client.asked_ticket (client_context x key (here_at n c)) ask;
    at = set_same n.tickets key (Some (client.asked_ticket (client_context x key (here_at n c)) ask));
    is = after_ask (here_at n c) (client.new_ticket (here_at n c) ask) (client.asks (client_context x key (here_at n c)) ask);
    number_is = set_same n.numbers key n.asks;
    made_is = set_same n.made key n.now;
  }

  pub server_link : links s ≡ Some a.link
  server_link = sym (h.linked s) ∙ a.peer

  pub client_link : links c ≡ Some a.before.link
  client_link = (h.nodes c a.before a.at).link

  -- a client that has not restarted since the world in which it asks stays
  pub stays : (m : Net) → m.restarted c ≡ n.restarted c → StaysSince m key n.now
  stays m same =
      let le = (spent_stands W n (reached_stands W x bound h.sound.0 h.sound.2 h.sound.1 n h.sound.3) key
      (asked_free links apart W x bound readable old n h c s limits r asked a p)).lives in
      omega arith

  -- the ask by the clocks of its two ends
  pub made_clock : MadeIn made key ask.first n.now
  made_clock =
      let calm = reached_calm W x bound h.sound.0 h.sound.2 h.sound.1 n h.sound.3 key in
      record {
        timely = calm.timely;
        sent = sent_now n key;
        client_told = calm.client;
        server_told = calm.server;
        stays = stays n refl;
        since = since_now n.pace n.now (n.client_clocks c) calm.client;
      }

  -- nobody asks itself
  pub foreign : c ≡ s → ⊥
  foreign same = a.asks.foreign (let e : Some a.link ≡ Some a.before.link = sym server_link ∙ ap links (sym same) ∙ client_link in cc)

  -- the posts that it sends become its copies
  abbrev sends : List Apdu
  sends = client.sends_of (client.asks (client_context x (key_of c s p.id) (here_at n c)) (ask_of (here_at n c) (choice_of r) p.whole p.front p.rest))

  sent_posts : Pairwise (IsCopyOf links apart) (map (post_of (key_of c s p.id) n.now) sends) a.sent
  sent_posts = pairwise_rest (IsCopyOf links apart) n.posts (map (post_of (key_of c s p.id) n.now) sends) old.copies a.sent h.posts
      (subst (λ (cs : List Copy). Pairwise (IsCopyOf links apart) made.posts cs) a.copies made_over.posts)

  -- a request of one APDU
  request_posts : p.whole ≡ true → Pairwise (IsCopyOf links apart) (post_of key n.now (request_to x key ask) ∷ []) a.sent
  request_posts whole = subst (λ (ps : List Post). Pairwise (IsCopyOf links apart) ps a.sent)
      (ap (λ (b : Bool). map (post_of key n.now) (client.sends_of (if b then GoesOn AwaitConfirmation (request_to x key ask ∷ [])
      else client.sends_request_window (client_context x key (here_at n c)) ask.choice (outgoing ask.pieces) false))) whole) sent_posts

  pub request_sent : p.whole ≡ true → (first : Copy) × (a.sent ≡ first ∷ [])
  request_sent whole = just_one (IsCopyOf links apart) (post_of key n.now (request_to x key ask)) a.sent (request_posts whole)

  pub first_post : p.whole ≡ true → (first : Copy) → a.sent ≡ first ∷ [] → IsCopyOf links apart (post_of key n.now (request_to x key ask)) first
  first_post whole first sent = (subst (λ (cs : List Copy). Pairwise (IsCopyOf links apart) (post_of key n.now (request_to x key ask) ∷ []) cs) sent
      (request_posts whole)).0

  -- a copy of the request is of its transaction, and carries the request
  pub request_is : p.whole ≡ true → (y : Post) (d : Copy) → IsCopyOf links apart y d → IsRequest a.sent d
      → (y.key ≡ key) × (y.copy.apdu ≡ request_to x key ask)
  request_is whole y d copied q =
      let first : IsCopyOf links apart (post_of key n.now (request_to x key ask)) q.first = first_post whole q.first q.is in
      let m : Means SpellsApdu first.from_link q.first.octets (peer_at first.from_link) (request_to x key ask) =
      frame_means SpellsApdu is_confirmed_request first.from_link first.to_link q.first.octets (request_to x key ask)
      (λ text t. subst (λ (l : Octets). length l ≤ 1476) (sym t.is) first.short) first.frame in
      let one = framed_means first.from_link copied.to_link y.copy.apdu (request_to x key ask) (peer_at first.from_link) d.octets copied.frame copied.short
      (subst (λ (o : Octets). Means SpellsApdu first.from_link o (peer_at first.from_link) (request_to x key ask)) (sym q.octets) m) in
      (sym copied.key ∙ q.key ∙ first.key, sym one.1)

  -- a copy that goes to the server of the transaction goes to its link
  to_server : (y : Post) (d : Copy) → y.key ≡ key → y.copy.apdu ≡ request_to x key ask → (copied : IsCopyOf links apart y d) → copied.to_link ≡ a.link
  to_server y d is apdu copied =
      let between : IsBetween true y.key d.from d.to = subst (λ (z : Apdu). IsBetween (is_from_client z) y.key d.from d.to) apdu copied.between in
      let e : Some copied.to_link ≡ Some a.link = sym copied.to_at ∙ ap links (between.1 ∙ ap (λ (k : Key). k.server) is) ∙ server_link in
      cc

  framed_so : (to : Octets) (y : Apdu) (octets : Octets) → IsFrameTo SpellsApdu is_confirmed_request (peer_at to) y octets
      → octets ≡ frame (peer_at to) (is_confirmed_request y) (apdu_spelling y)
  framed_so to y octets f = f.is ∙ ap (frame (peer_at to) (is_confirmed_request y)) f.spelled.is

  -- and a copy that carries the request is one of it
  pub is_request : p.whole ≡ true → (y : Post) (d : Copy) → IsCopyOf links apart y d → y.key ≡ key → y.copy.apdu ≡ request_to x key ask → IsRequest a.sent d
  is_request whole y d copied is apdu =
      let sent = request_sent whole in
      let post : Post = post_of key n.now (request_to x key ask) in
      let first : IsCopyOf links apart (post_of key n.now (request_to x key ask)) sent.0 = first_post whole sent.0 sent.1 in
      record {
        first = sent.0;
        is = sent.1;
        key = copied.key ∙ is ∙ sym first.key;
        octets =
            framed_so copied.to_link y.copy.apdu d.octets copied.frame
            ∙ (λ i. frame (peer_at (to_server y d is apdu copied i)) (is_confirmed_request (apdu i)) (apdu_spelling (apdu i)))
            ∙ ap (λ (l : Octets). frame (peer_at l) (is_confirmed_request (request_to x key ask)) (apdu_spelling (request_to x key ask)))
            (sym (to_server post sent.0 refl refl first))
            ∙ sym (framed_so first.to_link (request_to x key ask) sent.0.octets first.frame);
      }
