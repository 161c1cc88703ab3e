-- A net in which servers let invoke IDs be used again is followed by a net of bac_protocol.
use Rattle.std.proofs.Common.{◌≡◌, ℕ, ◌+◌, ◌-◌, ◌<◌, ◌≤◌, ◌⊎◌, Bool, true, false, List, [], ◌∷◌, ◌++◌, length, map, Option, Some, None}
use Rattle.std.proofs.Common.{slice_get, if◌then◌else◌, nat_le, refl, ap, sym, subst, inl, inr, ◌∙◌, arith}
use Rattle.std.proofs.lemmas.Bool.Decides.{nat_tests}
use Rattle.bac_apdu.specs.Apdu.{Apdu}
use Rattle.bac_apdu.specs.Apdu.Apdu.{ConfirmedRequest, UnconfirmedRequest, SimpleAck, ComplexAck, SegmentAck, Error, Reject, Abort}
use Rattle.bac_segment.specs.Window.{Outgoing, is_finished}
use Rattle.bac_protocol.specs.declared.times.TheConstants.{KEEP}
use Rattle.bac_protocol.specs.Context.{Context}
use Rattle.bac_protocol.specs.Service.{Ending, OTHER, Request}
use Rattle.bac_protocol.specs.Service.Outcome.{Rejects}
use Rattle.bac_protocol.specs.Wire.{Each, is_from_client}
use Rattle.bac_protocol.specs.Client as client
use Rattle.bac_protocol.specs.Client.{Ask, ClientTransaction, Phase, after, is_idle, request_of}
use Rattle.bac_protocol.specs.Client.Phase.{AwaitConfirmation, Idle, SegmentedConf}
use Rattle.bac_protocol.specs.Client.Reaction.{Ends, Stays}
use Rattle.bac_protocol.specs.Server as server
use Rattle.bac_protocol.specs.Server.{Effect, ServerTransaction, Service, State, Transfer, is_live, server_on_apdu}
use Rattle.bac_protocol.specs.Log.{Fact, Has, IsOrderly, IsUnperformed, MayEnd}
use Rattle.bac_protocol.specs.Log.Fact.{Asked, Ended}
use Rattle.bac_protocol.specs.Reuse.{is_over, is_transfer_over, server_hears}
use Rattle.bac_protocol.specs.Transaction.{Copy, Key, Rules, ended, performed, server_context}
use Rattle.bac_protocol.specs.World.{Net, Post, client_acts, client_now, is_room, post_of, same_key, server_acts, server_now, set_at, with_reply}
use Rattle.bac_protocol.specs.Claims.{IsBounded, Moments, moments_of}
use Rattle.bac_protocol.proofs.Alone.{one}
use Rattle.bac_protocol.proofs.Facts.{all_map, grows_same}
use Rattle.bac_protocol.proofs.Headline.{asked_once}
use Rattle.bac_protocol.proofs.Keys.{decide_key, set_other, set_same}
use Rattle.bac_protocol.proofs.Nets.{net_log, room_opens, sound_at}
use Rattle.bac_protocol.proofs.Resting.{Unserved, unserved_acts}
use Rattle.bac_protocol.proofs.Standing.{Stands, entry_gets, entry_ticks}
use Rattle.bac_protocol.proofs.Claimed.{piece_up_of}
use Rattle.bac_protocol.proofs.Own.{server_sends_own}
use Rattle.bac_protocol.proofs.Served.{ticks_quiet}
use Rattle.bac_protocol.proofs.Sound.{ClientFits, IsClear, Down, DownFits, IsBegunFor, IsPastFor, Says, SendsDown, ServerFits, Sound, StateFits, Up}
use Rattle.bac_protocol.proofs.Sound.Down.{Sent, Unsent}
use Rattle.bac_reuse.specs.Moves.{IsOrderlySo, MayBePerformed}
use Rattle.bac_reuse.specs.Runs.{AreOf, Reusing, with_reuses}
use Rattle.bac_reuse.proofs.Beside.{AbortsOf, AreGone, AreLike, AreLogs, Fit, FitOf, Holds, IsForeign, IsFresh, IsLeftOf, IsLike, Own, WasRead, aborts_on}
use Rattle.bac_reuse.proofs.Beside.{after_ask, after_idle, ended_grows, fit_on, foreign_more, foreign_on, fresh_is, given_answers, is_fresh, likes_aborts, likes_join}
use Rattle.bac_reuse.proofs.Beside.{likes_map, likes_same, logs_effect, logs_ended, logs_ending, logs_read_effect, may_end, over, performed_grows, set_keeps}
use Rattle.bac_reuse.proofs.Clients.{AbortsIf}
use Rattle.bac_reuse.proofs.FreshReads.{IsFromServer, IsOfRead, all_from_server, given_from_server, giving_own}
use Rattle.bac_reuse.proofs.Machine.{EntryIs, GoesOnFrom, IsClientAbort, IsGiving, IsGone, IsRequestOf, OverBy, OverIf, gone_ticks, ticks_for, ticks_gives, ticks_over}
use Rattle.bac_reuse.proofs.Outcomes.{GivesOn, GoesApart, HoldsOn, Outcome, ReadEnds, ReadsFresh, outcome, over_idle}
use Rattle.bac_reuse.proofs.NetSteps.{IsInTime, IsSoon, aborts, copy_is_soon, entry_first, entry_in_time, server_aborts, soon_in_time}

-- what comes of the transaction is of its ask
pub says_of : (W : ℕ) (times : Moments) (number : ℕ) (ask : Ask) (log : List Fact) (up : Up) (down : Down) (moment k : ℕ) (a : Apdu)
    → Says W times number ask log up down moment k a → IsRequestOf ask a
says_of W times number ask log up down moment k (ConfirmedRequest limits id None choice octets) s = (s.1, s.2, s.3)
says_of W times number ask log up down moment k (ConfirmedRequest limits id (Some segment) choice octets) s =
    (s.1, s.2, piece_up_of W k ask up segment octets s.3)
says_of W times number ask log up down moment k (UnconfirmedRequest choice octets) s = tt
says_of W times number ask log up down moment k (SimpleAck id choice) s = tt
says_of W times number ask log up down moment k (ComplexAck id segment choice octets) s = tt
says_of W times number ask log up down moment k (SegmentAck from id ack) s = tt
says_of W times number ask log up down moment k (Error id choice class code) s = tt
says_of W times number ask log up down moment k (Reject id reason) s = tt
says_of W times number ask log up down moment k (Abort from id reason) s = tt

no_abort : (a : Apdu) → IsFromServer a → IsClientAbort a → ⊥
no_abort (ConfirmedRequest limits id segment choice octets) from is = is
no_abort (UnconfirmedRequest choice octets) from is = is
no_abort (SimpleAck id choice) from is = is
no_abort (ComplexAck id segment choice octets) from is = is
no_abort (SegmentAck up id ack) from is = is
no_abort (Error id choice class code) from is = is
no_abort (Reject id reason) from is = is
no_abort (Abort true id reason) from is = is
no_abort (Abort false id reason) from is = let no : true ≡ false = from in cc

server_aborts_of : (o : Option ClientTransaction) (a : Apdu) → IsFromServer a → AbortsOf o a
server_aborts_of None a from = tt
server_aborts_of (Some t) a from = λ is. absurd (no_abort a from is)

-- where the last piece of a reply was acknowledged, its ticket has ended
finished_phase : (W : ℕ) (ask : Ask) (phase : Phase) (up : Up) (down : Down) (out : Outgoing) → is_finished out ≡ true → ClientFits W ask phase up down
    → DownFits W down → SendsDown W out down → is_idle phase ≡ true
finished_phase W ask phase up Unsent out is fits download sends = absurd sends
finished_phase W ask (Phase.SegmentedRequest o all_sent) up (Sent ps tk sn) out is fits download sends =
    let some = download.some in
    let first = sends.1.behind in
    let none = fits.untaken in
    let all : length out.pieces ≤ out.first = grind (arith, nat_tests) in
    let same : length out.pieces ≡ length ps = ap length sends.0 in
    absurd (omega arith)
finished_phase W ask AwaitConfirmation up (Sent ps tk sn) out is fits download sends =
    let some = download.some in
    let first = sends.1.behind in
    let none = fits.1 in
    let all : length out.pieces ≤ out.first = grind (arith, nat_tests) in
    let same : length out.pieces ≡ length ps = ap length sends.0 in
    absurd (omega arith)
finished_phase W ask (SegmentedConf inc) up (Sent ps tk sn) out is fits download sends =
    let first = sends.1.behind in
    let left = fits.left in
    let all : length out.pieces ≤ out.first = grind (arith, nat_tests) in
    let same : length out.pieces ≡ length ps = ap length sends.0 in
    absurd (omega arith)
finished_phase W ask Idle up (Sent ps tk sn) out is fits download sends = refl

-- where the one has at most the pieces of the other, it has so after both are set
pub set_below : (key : Key) (f h : Key → ℕ) (a b : ℕ) → a ≤ b → ((k : Key) → f k ≤ h k) → (k : Key) → set_at f key a k ≤ set_at h key b k
set_below key f h a b le below k = go (same_key key k)
  where
    go : (c : Bool) → (if c then a else f k) ≤ (if c then b else h k)
    go true = le
    go false = below k

-- and after the same reply, or one of the other alone
reply_below : (o : Option Effect) (e : Option ServerTransaction) (a b : ℕ) → a ≤ b → with_reply a o e ≤ with_reply b o e
reply_below None e a b le = le
reply_below (Some y) e a b le = omega arith

reply_more : (o : Option Effect) (e : Option ServerTransaction) (a b : ℕ) → a ≤ b → a ≤ with_reply b o e
reply_more None e a b le = le
reply_more (Some y) e a b le = omega arith

-- what the net has of its own fits the other; these servers let invoke IDs be used again now, of those that ever do
pub record Like (ever : Reusing) (reuses : ℕ → Bool) (n : Net) (g : Own) : Type 0 where
  pub posts : AreLike (IsLike n g.log) g.posts n.posts
  pub entries : (key : Key) → Fit (with_reuses ever reuses) key (server_now n key) (n.tickets key) (g.entries key) (n.entries key)
  pub logs : AreLogs ever g.log n.log
  pub orderly : IsOrderlySo ever g.log
  pub pieces : (key : Key) → n.pieces key ≤ g.pieces key
  pub unserved : Unserved (over n g)

-- a net has another one beside it
abbrev pub IsFollowed : (W : ℕ) → Reusing → (reuses : ℕ → Bool) → Net → Type 0
IsFollowed W ever reuses m = (n : Net) × (g : Own) × Stands W n × Like ever reuses n g × (m ≡ over n g)

pub follows : (W : ℕ) (ever : Reusing) (reuses : ℕ → Bool) (n : Net) (g : Own) → Stands W n → Like ever reuses n g → IsFollowed W ever reuses (over n g)
follows W ever reuses n g s l = (n, g, s, l, refl)

module _ (W : ℕ) (x : Rules) (bound : IsBounded W x) (ever : Reusing) (reuses : ℕ → Bool) (among : AreOf reuses ever) where
  abbrev u : Reusing
  u = with_reuses ever reuses

  module _ (n : Net) (g : Own) (s : Stands W n) (l : Like ever reuses n g) (key : Key) (t : ClientTransaction) (at : n.tickets key ≡ Some t) where
    was_asked : Has (Asked (n.numbers key) key.client key.server (request_of t.ask)) n.log
    was_asked = (sound_at W n key (Some t) at s.net).2.asked

    -- The client acts.

    module _ (r : client.Reaction) (silent : is_idle t.phase ≡ true → r ≡ Stays)
        (steady : Each (AbortsIf (is_idle (after (client_now n key) t r).phase)) (client.sends_of r)) (o : Option Ending) where
      abbrev acted : Own
      acted = record g { posts = g.posts ++ map (post_of key n.now) (client.sends_of r); log = ended (n.numbers key) o g.log }

      same_ask : (after (client_now n key) t r).ask ≡ t.ask
      same_ask = after_ask (client_now n key) t r

      stays_idle : is_idle t.phase ≡ true → is_idle (after (client_now n key) t r).phase ≡ true
      stays_idle = after_idle (client_now n key) t r silent

      old_post : (p q : Post) → IsLike n g.log p q → IsLike (client_acts n key t r) (ended (n.numbers key) o g.log) p q
      old_post p q (inl h) = inl (
        h.0,
        λ young.
            set_keeps n.tickets key (Some (after (client_now n key) t r)) (λ j y. AbortsOf y p.copy.apdu) p.key (h.1 young)
            (λ a. aborts_on t (after (client_now n key) t r) stays_idle p.copy.apdu (subst (λ y. AbortsOf y p.copy.apdu) at a)),
      )
      old_post p q (inr h) = inr (
        h.0,
        h.1,
        λ young.
            set_keeps n.tickets key (Some (after (client_now n key) t r)) (λ j y. IsForeign (n.numbers j) y (ended (n.numbers key) o g.log) p.copy.apdu) p.key
            (foreign_more (n.numbers p.key) (n.tickets p.key) g.log (ended (n.numbers key) o g.log) (ended_grows (n.numbers key) o g.log) p.copy.apdu (h.2 young))
            (λ a. foreign_on (n.numbers key) t (after (client_now n key) t r) (ended (n.numbers key) o g.log) (ended (n.numbers key) o g.log) same_ask stays_idle
            (grows_same (ended (n.numbers key) o g.log)) p.copy.apdu
            (subst (λ y. IsForeign (n.numbers key) y (ended (n.numbers key) o g.log) p.copy.apdu) at a)),
      )

      new_post : (a : Apdu) → AbortsIf (is_idle (after (client_now n key) t r).phase) a
          → IsLike (client_acts n key t r) (ended (n.numbers key) o g.log) (post_of key n.now a) (post_of key n.now a)
      new_post a h = inl (
        refl,
        λ young. subst (λ (y : Option ClientTransaction). AbortsOf y a)
            (sym (set_same n.tickets key (Some (after (client_now n key) t r)))) h,
      )

      client_like : AreLogs ever (ended (n.numbers key) o g.log) (client_acts n key t r).log → IsOrderlySo ever (ended (n.numbers key) o g.log)
          → Like ever reuses (client_acts n key t r) acted
      client_like logs orderly = record {
        posts = likes_join (IsLike (client_acts n key t r) (ended (n.numbers key) o g.log)) g.posts n.posts
            (map (post_of key n.now) (client.sends_of r)) (map (post_of key n.now) (client.sends_of r))
            (likes_map (IsLike n g.log) (IsLike (client_acts n key t r) (ended (n.numbers key) o g.log)) g.posts n.posts
            (λ i p q place h. old_post p q h) l.posts)
            (likes_same (IsLike (client_acts n key t r) (ended (n.numbers key) o g.log)) key n.now (client.sends_of r)
            (all_map (AbortsIf (is_idle (after (client_now n key) t r).phase))
            (λ a. IsLike (client_acts n key t r) (ended (n.numbers key) o g.log) (post_of key n.now a) (post_of key n.now a)) new_post
            (client.sends_of r) steady));
        entries = λ k. set_keeps n.tickets key (Some (after (client_now n key) t r)) (λ j y. Fit u j (server_now n j) y (g.entries j) (n.entries j)) k
            (l.entries k)
            (λ h. fit_on u key (server_now n key) t (after (client_now n key) t r) same_ask stays_idle (g.entries key) (n.entries key)
            (subst (λ y. Fit u key (server_now n key) y (g.entries key) (n.entries key)) at h));
        logs = logs;
        orderly = orderly;
        pieces = l.pieces;
        unserved = l.unserved;
      }

    -- both do the same
    pub client_same : (r : client.Reaction) → (is_idle t.phase ≡ true → r ≡ Stays)
        → Each (AbortsIf (is_idle (after (client_now n key) t r).phase)) (client.sends_of r) → Stands W (client_acts n key t r)
        → IsFollowed W ever reuses (client_acts (over n g) key t r)
    client_same r silent steady kept = (
      client_acts n key t r,
      acted r silent steady (client.ending_of r),
      kept,
      client_like r silent steady (client.ending_of r) (logs_ending ever g.log n.log l.logs (n.numbers key) (client.ending_of r))
          (go (client.ending_of r) (net_log W (client_acts n key t r) kept.net).orderly),
      refl,
    )
      where
        go : (o : Option Ending) → IsOrderly (ended (n.numbers key) o n.log) → IsOrderlySo ever (ended (n.numbers key) o g.log)
        go None right = l.orderly
        go (Some how) right = (may_end ever g.log n.log l.logs (n.numbers key) how right.0, l.logs.unended (n.numbers key) right.1, l.orderly)

    -- both end, each in its own way
    pub client_ended : is_idle t.phase ≡ false → (sends : List Apdu) (how other : Ending) → Each (AbortsIf true) sends
        → Stands W (client_acts n key t (Ends sends other))
        → MayEnd (n.numbers key) how g.log → IsFollowed W ever reuses (client_acts (over n g) key t (Ends sends how))
    client_ended going sends how other steady kept may = (
      client_acts n key t (Ends sends other),
      acted (Ends sends other) silent steady (Some how),
      kept,
      client_like (Ends sends other) silent steady (Some how) (logs_ended ever g.log n.log l.logs (n.numbers key) how other)
          (may, l.logs.unended (n.numbers key) right.1, l.orderly),
      refl,
    )
      where
        silent : is_idle t.phase ≡ true → Ends sends other ≡ Stays
        silent idle = absurd (let no : true ≡ false = sym idle ∙ going in cc)

        right : IsOrderly (Ended (n.numbers key) other ∷ n.log)
        right = (net_log W (client_acts n key t (Ends sends other)) kept.net).orderly

    -- The server acts.

    -- what a server performs for the ask, in both
    orderly_effect : (o : Option Effect) → IsOrderly (performed (n.numbers key) o n.log) → IsOrderlySo ever (performed (n.numbers key) o g.log)
    orderly_effect None right = l.orderly
    orderly_effect (Some e) right = (before (l.logs.unperformed (n.numbers key) right.1), l.orderly)
      where
        same : (read : WasRead ever (n.numbers key) n.log) → read.2 ≡ e.request
        same read = asked_once (n.numbers key) read.0 read.1 right.0.0 right.0.1 read.2 e.request n.log right.2 read.3 right.0.2

        before : IsUnperformed (n.numbers key) g.log ⊎ WasRead ever (n.numbers key) n.log → MayBePerformed ever (n.numbers key) e.request g.log
        before (inl un) = (right.0.0, right.0.1, l.logs.asked (n.numbers key) right.0.0 right.0.1 e.request right.0.2, inl un)
        before (inr read) = (
          read.0,
          read.1,
          l.logs.asked (n.numbers key) read.0 read.1 e.request
              (subst (λ (q : Request). Has (Asked (n.numbers key) read.0 read.1 q) n.log) (same read) read.3),
          inr (read.4, subst (λ (q : Request). u.reads q.choice ≡ true) (same read) read.5),
        )

    -- what it performs for a read, where the other performs nothing
    module _ (service : Service) (fresh : IsFresh u key t.ask) where
      was_read : WasRead ever (n.numbers key) n.log
      was_read = (key.client, key.server, request_of t.ask, was_asked, among key.server fresh.reuses, fresh.read)

      orderly_read : (o : Option Effect) → IsOfRead service t.ask o → IsOrderlySo ever (performed (n.numbers key) o g.log)
      orderly_read None of = l.orderly
      orderly_read (Some y) of = (
        (
          key.client,
          key.server,
          l.logs.asked (n.numbers key) key.client key.server y.request
              (subst (λ (q : Request). Has (Asked (n.numbers key) key.client key.server q) n.log) (sym of.0) was_asked),
          inr (among key.server fresh.reuses, subst (λ (q : Request). u.reads q.choice ≡ true) (sym of.0) fresh.read),
        ),
        l.orderly,
      )

    module _ (v v' : server.Reaction) where
      abbrev acts : Own
      acts = record {
        entries = set_at g.entries key v.entry;
        posts = g.posts ++ map (post_of key n.now) v.sends;
        log = performed (n.numbers key) v.effect g.log;
        pieces = set_at g.pieces key (with_reply (g.pieces key) v.effect v.entry);
        far_entries = g.far_entries;
      }

      abbrev IsLikeNow : Post → Post → Type 0
      IsLikeNow = IsLike (server_acts n key v') (performed (n.numbers key) v.effect g.log)

      kept_post : (p q : Post) → IsLike n g.log p q → IsLikeNow p q
      kept_post p q (inl h) = inl h
      kept_post p q (inr h) = inr (
        h.0,
        h.1,
        λ young. foreign_more (n.numbers p.key) (n.tickets p.key) g.log (performed (n.numbers key) v.effect g.log)
            (performed_grows (n.numbers key) v.effect g.log) p.copy.apdu (h.2 young),
      )

      entry_fits : Fit u key (server_now n key) (Some t) v.entry v'.entry → (k : Key)
          → Fit u k (server_now n k) (n.tickets k) (set_at g.entries key v.entry k) (set_at n.entries key v'.entry k)
      entry_fits fit k = go (decide_key key k)
        where
          go : ((key ≡ k) ⊎ (key ≡ k → ⊥)) → Fit u k (server_now n k) (n.tickets k) (set_at g.entries key v.entry k) (set_at n.entries key v'.entry k)
          go (inl is) = subst (λ (j : Key). Fit u j (server_now n j) (n.tickets j) (set_at g.entries key v.entry j) (set_at n.entries key v'.entry j)) is
              (subst (λ (o : Option ServerTransaction). Fit u key (server_now n key) (n.tickets key) o (set_at n.entries key v'.entry key))
              (sym (set_same g.entries key v.entry))
              (subst (λ (o : Option ServerTransaction). Fit u key (server_now n key) (n.tickets key) v.entry o) (sym (set_same n.entries key v'.entry))
              (subst (λ (y : Option ClientTransaction). Fit u key (server_now n key) y v.entry v'.entry) (sym at) fit)))
          go (inr ne) = subst (λ (o : Option ServerTransaction). Fit u k (server_now n k) (n.tickets k) o (set_at n.entries key v'.entry k))
              (sym (set_other g.entries key v.entry k ne))
              (subst (λ (o : Option ServerTransaction). Fit u k (server_now n k) (n.tickets k) (g.entries k) o) (sym (set_other n.entries key v'.entry k ne))
              (l.entries k))

      server_goes : Stands W (server_acts n key v') → AreLike IsLikeNow (map (post_of key n.now) v.sends) (map (post_of key n.now) v'.sends)
          → Fit u key (server_now n key) (Some t) v.entry v'.entry
          → AreLogs ever (performed (n.numbers key) v.effect g.log) (performed (n.numbers key) v'.effect n.log)
          → IsOrderlySo ever (performed (n.numbers key) v.effect g.log)
          → with_reply (n.pieces key) v'.effect v'.entry ≤ with_reply (g.pieces key) v.effect v.entry → IsFollowed W ever reuses (server_acts (over n g) key v)
      server_goes kept sends fit logs orderly more = (
        server_acts n key v',
        acts,
        kept,
        record {
          posts = likes_join IsLikeNow g.posts n.posts (map (post_of key n.now) v.sends) (map (post_of key n.now) v'.sends)
              (likes_map (IsLike n g.log) IsLikeNow g.posts n.posts (λ i p q place h. kept_post p q h) l.posts) sends;
          entries = entry_fits fit;
          logs = logs;
          orderly = orderly;
          pieces = set_below key n.pieces g.pieces (with_reply (n.pieces key) v'.effect v'.entry) (with_reply (g.pieces key) v.effect v.entry) more l.pieces;
          unserved = unserved_acts (over n g) l.unserved key v.entry;
        },
        refl,
      )

    -- what the server sends in both
    new_sends : (v v' : server.Reaction) (sends : List Apdu) → Each IsFromServer sends
        → AreLike (IsLikeNow v v') (map (post_of key n.now) sends) (map (post_of key n.now) sends)
    new_sends v v' sends from = likes_same (IsLikeNow v v') key n.now sends
        (all_map IsFromServer (λ a. IsLikeNow v v' (post_of key n.now a) (post_of key n.now a))
        (λ a is. inl (refl, λ young. server_aborts_of (n.tickets key) a is)) sends from)

    -- both do the same
    pub server_same : (v : server.Reaction) → Stands W (server_acts n key v) → Each IsFromServer v.sends
        → Fit u key (server_now n key) (Some t) v.entry v.entry → IsFollowed W ever reuses (server_acts (over n g) key v)
    server_same v kept from fit = server_goes v v kept (new_sends v v v.sends from) fit
        (logs_effect ever g.log n.log l.logs (n.numbers key) v.effect)
        (orderly_effect v.effect (net_log W (server_acts n key v) kept.net).orderly)
        (reply_below v.effect v.entry (n.pieces key) (g.pieces key) (l.pieces key))

    -- both keep what they have
    pub server_rests : (o p : Option ServerTransaction) (sends : List Apdu) → Stands W (server_acts n key (server.rests p sends)) → Each IsFromServer sends
        → AreGone (server_now n key) o p → IsFollowed W ever reuses (server_acts (over n g) key (server.rests o sends))
    server_rests o p sends kept from gone = server_goes (server.rests o sends) (server.rests p sends) kept
        (new_sends (server.rests o sends) (server.rests p sends) sends from) (inl gone) l.logs l.orderly (l.pieces key)

    -- the other sends Aborts
    foreign_sends : (v v' : server.Reaction) → Each (λ a. IsFromServer a × IsForeign (n.numbers key) (Some t) (performed (n.numbers key) v.effect g.log) a) v.sends
        → AreLike (IsLikeNow v v') (map (post_of key n.now) v.sends) (map (post_of key n.now) (aborts key.invoke_id v.sends))
    foreign_sends v v' each = likes_aborts (IsLikeNow v v') key n.now v.sends
        (all_map (λ a. IsFromServer a × IsForeign (n.numbers key) (Some t) (performed (n.numbers key) v.effect g.log) a)
        (λ a. IsLikeNow v v' (post_of key n.now a) (post_of key n.now (Abort true key.invoke_id OTHER)))
        (λ a h. inr (refl, h.0, λ young. subst (λ (y : Option ClientTransaction). IsForeign (n.numbers key) y (performed (n.numbers key) v.effect g.log) a) (sym at) h.1))
        v.sends each)

    pub server_alone : (service : Service) (fresh : IsFresh u key t.ask) (v : server.Reaction) (o : Option ServerTransaction)
        → Stands W (server_acts n key (server.rests o (aborts key.invoke_id v.sends)))
        → Each (λ a. IsFromServer a × IsForeign (n.numbers key) (Some t) (performed (n.numbers key) v.effect g.log) a) v.sends
        → IsOfRead service t.ask v.effect → Fit u key (server_now n key) (Some t) v.entry o
        → IsFollowed W ever reuses (server_acts (over n g) key v)
    server_alone service fresh v o kept each of fit = server_goes v (server.rests o (aborts key.invoke_id v.sends)) kept
        (foreign_sends v (server.rests o (aborts key.invoke_id v.sends)) each) fit
        (logs_read_effect ever g.log n.log l.logs (n.numbers key) v.effect (was_read service fresh)) (orderly_read service fresh v.effect of)
        (reply_more v.effect v.entry (n.pieces key) (g.pieces key) (l.pieces key))

    -- An entry that both have.

    finished_idle : (v : server.Reaction) → Stands W (server_acts n key v) → (d : ServerTransaction) → v.entry ≡ Some d → is_live (server_now n key) d ≡ true
        → (out : Outgoing) (transfer : Transfer) (since : ℕ) → d.state ≡ State.SegmentedResponse out transfer since → is_finished out ≡ true → is_idle t.phase ≡ true
    finished_idle v kept d is live out transfer since of finished = go (subst Fits (set_same n.entries key v.entry ∙ is) (f.2).server)
      where
        f : (up : Up) × (down : Down) × Sound W (set_at n.pieces key (with_reply (n.pieces key) v.effect v.entry) key) key (moments_of n key) n.asks
            (n.numbers key) t (set_at n.entries key v.entry key)
            (one (server_acts n key v) key).copies (performed (n.numbers key) v.effect n.log) up down
        f = sound_at W (server_acts n key v) key (Some t) at kept.net

        Fits : Option ServerTransaction → Type 0
        Fits o = ServerFits W (moments_of n key) (n.numbers key) t.ask o f.0 f.1 (performed (n.numbers key) v.effect n.log)

        by_state : (st : State) → st ≡ State.SegmentedResponse out transfer since
            → StateFits W (n.numbers key) t.ask st f.0 f.1 (performed (n.numbers key) v.effect n.log) → is_idle t.phase ≡ true
        by_state st same fits = finished_phase W t.ask t.phase f.0 f.1 out finished (f.2).client (f.2).download
            (subst (λ (y : State). StateFits W (n.numbers key) t.ask y f.0 f.1 (performed (n.numbers key) v.effect n.log)) same fits).sends

        go : IsPastFor (moments_of n key) (n.numbers key) t.ask d f.0 f.1 (performed (n.numbers key) v.effect n.log)
            ⊎ IsBegunFor W (moments_of n key) (n.numbers key) t.ask d f.0 f.1 (performed (n.numbers key) v.effect n.log) → is_idle t.phase ≡ true
        go (inl past) = let dead = past.dead in absurd (grind (arith, nat_tests))
        go (inr begun) = by_state d.state of begun.state

    holds_next : (v : server.Reaction) → Stands W (server_acts n key v) → (service : Service) (a : Apdu) → (IsClientAbort a → is_idle t.phase ≡ true) → (b : Bool)
        → EntryIs (HoldsOn (server_context x key (server_now n key)) service b (is_idle t.phase) t.ask a) v.entry → EntryIs (Holds b (is_idle t.phase) t.ask) v.entry
    holds_next v kept service a gave_up b h = go v.entry refl b h
      where
        over_by : (d : ServerTransaction) → v.entry ≡ Some d → is_live (server_now n key) d ≡ true → (before : Transfer)
            → (is_transfer_over before ≡ true → is_idle t.phase ≡ true) → (st : State) → d.state ≡ st
            → OverBy (server_context x key (server_now n key)) service a before st → OverIf (is_idle t.phase ≡ true) st
        over_by d is live before was (State.SegmentedRequest inc since) at k = tt
        over_by d is live before was (State.Done done) at k = tt
        over_by d is live before was State.Dropped at k = tt
        over_by d is live before was (State.SegmentedResponse out transfer since) of k = λ ended. cause (k ended)
          where
            cause : (is_finished out ≡ true) ⊎ (IsClientAbort a ⊎ (is_transfer_over before ≡ true)) → is_idle t.phase ≡ true
            cause (inl finished) = finished_idle v kept d is live out transfer since of finished
            cause (inr (inl abort)) = gave_up abort
            cause (inr (inr old)) = was old

        go : (o : Option ServerTransaction) → v.entry ≡ o → (b : Bool)
            → EntryIs (HoldsOn (server_context x key (server_now n key)) service b (is_idle t.phase) t.ask a) o → EntryIs (Holds b (is_idle t.phase) t.ask) o
        go None is b h = absurd h
        go (Some d) is true h = (h.gives, over_by d is h.live h.before h.was d.state refl h.over)
        go (Some d) is false h = h

    fit_at : FitOf (server_now n key) (is_fresh u key t.ask) (is_idle t.phase) t.ask (g.entries key) (n.entries key)
    fit_at = subst (λ (y : Option ClientTransaction). Fit u key (server_now n key) y (g.entries key) (n.entries key)) at (l.entries key)

    idle_foreign : (log : List Fact) → is_idle t.phase ≡ true → (sends : List Apdu) → Each IsFromServer sends
        → Each (λ a. IsFromServer a × IsForeign (n.numbers key) (Some t) log a) sends
    idle_foreign log idle sends from = all_map IsFromServer (λ a. IsFromServer a × IsForeign (n.numbers key) (Some t) log a) (λ a is. (is, inl idle)) sends from

    -- A copy of the client's arrives.

    module _ (k : ℕ) (clear : IsClear W (n.pieces key) k) (p : Copy) (place : slice_get (one n key).copies k ≡ Some p) (young : n.now - p.moment ≤ n.pace.life)
        (way : is_from_client p.apdu ≡ true) (gave_up : IsClientAbort p.apdu → is_idle t.phase ≡ true) (service : Service) (free : Bool) where
      abbrev told : Context
      told = server_context x key (server_now n key)

      abbrev ours : server.Reaction
      ours = server_hears (u.reuses key.server) told service u.reads (g.entries key) (is_room n key free) p.apdu

      abbrev theirs : server.Reaction
      theirs = server_on_apdu told service (n.entries key) (is_room n key free) p.apdu

      kept_theirs : Stands W (server_acts n key theirs)
      kept_theirs =
          let f = sound_at W n key (Some t) at s.net in
          entry_gets W x bound n s key t at k clear p place young way ((f.2).arriving k p place young).1 service free

      of_ask : IsRequestOf t.ask p.apdu
      of_ask =
          let f = sound_at W n key (Some t) at s.net in
          says_of W (moments_of n key) (n.numbers key) t.ask n.log f.0 f.1 p.moment k p.apdu ((f.2).arriving k p place young).1

      is_soon : IsSoon n key
      is_soon = copy_is_soon W x bound n s key t at k p place young way

      from_theirs : Each IsFromServer theirs.sends
      from_theirs = all_from_server key.invoke_id theirs.sends
          (server_sends_own.gets told service (n.entries key) (is_room n key free) p.apdu (s.calm key).own).0

      abbrev Goes : server.Reaction → Type 0
      Goes v = IsFollowed W ever reuses (server_acts (over n g) key v)

      apart_goes : (v : server.Reaction) → GoesApart told service (is_fresh u key t.ask) (is_idle t.phase) t.ask (is_room n key free) (n.entries key) v
          → Goes v
      apart_goes v h = by (h.goes).entry
        where
          fresh : IsFresh u key t.ask
          fresh = fresh_is u key t.ask h.is_fresh

          time : IsInTime n key
          time = soon_in_time n key is_soon

          each : Each (λ a. IsFromServer a × IsForeign (n.numbers key) (Some t) (performed (n.numbers key) v.effect g.log) a) v.sends
          each = idle_foreign (performed (n.numbers key) v.effect g.log) h.is_idle v.sends (h.goes).sends

          -- the other's entry stays
          stays : IsLeftOf h.entry v.entry → Goes v
          stays left = server_alone service fresh v (n.entries key)
              (server_aborts W x bound n s key t at time v.sends (n.entries key) (inl refl)) each (h.goes).of
              (inr (inr (h.is_fresh, h.is_idle, subst (λ (o : Option ServerTransaction). EntryIs (λ e. IsLeftOf e v.entry) o) (sym h.is) left)))

          -- it begins anew
          again : is_room n key free ≡ true → IsLeftOf (record (h.entry) { begin = server_now n key }) v.entry → Goes v
          again room left = server_alone service fresh v (Some (record (h.entry) { begin = server_now n key }))
              (server_aborts W x bound n s key t at time v.sends (Some (record (h.entry) { begin = server_now n key }))
              (inr (h.entry, h.is, h.live, refl, is_soon, room_opens n key free room))) each (h.goes).of
              (inr (inr (h.is_fresh, h.is_idle, left)))

          there : (o : Option ServerTransaction) → v.entry ≡ o
              → EntryIs (λ d. IsGiving d.state × ((d.begin ≡ h.entry.begin) ⊎ ((d.begin ≡ server_now n key) × (is_room n key free ≡ true)))) o → Goes v
          there None is q = absurd q
          there (Some d) is q = so q.1
            where
              so : (d.begin ≡ h.entry.begin) ⊎ ((d.begin ≡ server_now n key) × (is_room n key free ≡ true)) → Goes v
              so (inl same) = stays (subst (IsLeftOf h.entry) (sym is) (same, q.0))
              so (inr new) = again new.1 (subst (IsLeftOf (record (h.entry) { begin = server_now n key })) (sym is) (new.0, q.0))

          by : (v.entry ≡ None) ⊎ EntryIs (λ d. IsGiving d.state × ((d.begin ≡ h.entry.begin) ⊎ ((d.begin ≡ server_now n key) × (is_room n key free ≡ true)))) v.entry
              → Goes v
          by (inl none) = stays (subst (IsLeftOf h.entry) (sym none) tt)
          by (inr some) = there v.entry refl some

      fresh_goes : (v : server.Reaction) → ReadsFresh told service (is_fresh u key t.ask) t.ask (g.entries key) (n.entries key) v → Goes v
      fresh_goes v h = subst Goes (sym (h.2).is) (server_alone service (fresh_is u key t.ask h.0)
          (record { entry = g.entries key; sends = (h.2).answer ∷ []; effect = (h.2).effect }) (n.entries key)
          (server_aborts W x bound n s key t at (soon_in_time n key is_soon) ((h.2).answer ∷ []) (n.entries key) (inl refl)) (
            (
              given_from_server told t.ask (h.2).effect (h.2).answer (h.2).given,
              inr (given_answers (n.numbers key) t.ask g.log told (h.2).effect (h.2).answer (h.2).given
                  (λ y is. (subst (IsOfRead service t.ask) is (h.2).of).0)),
            ),
            tt,
          )
          (h.2).of (inl h.1))

      -- the entry of a read ends with its reply: its ticket has ended
      over_then : (o : Option ServerTransaction) → EntryIs (Holds true (is_idle t.phase) t.ask) o → EntryIs (λ d. is_over d.state ≡ true) o → is_idle t.phase ≡ true
      over_then None h over = absurd h
      over_then (Some d) h over = over_idle (is_idle t.phase) d.state h.0 h.1 over

      read_ends : ReadEnds told service (is_fresh u key t.ask) (is_idle t.phase) p.apdu (n.entries key) ours theirs → Goes ours
      read_ends h = subst Goes (sym h.ours) (apart_goes (server.rests None []) (record {
        is_fresh = h.is_fresh;
        is_idle = over_then theirs.entry (holds_next theirs kept_theirs service p.apdu gave_up true h.next) h.over;
        entry = h.entry;
        is = h.is;
        live = h.live;
        goes = record { sends = tt; of = tt; entry = inl refl };
      }))

      pub copy_comes : IsFollowed W ever reuses (server_acts (over n g) key ours)
      copy_comes = go (outcome told service u key t.ask (is_idle t.phase) (is_room n key free) (is_fresh u key t.ask) refl p.apdu of_ask
          (g.entries key) (n.entries key) (entry_first W x bound n s key t at) fit_at)
        where
          go : Outcome told service (is_fresh u key t.ask) (is_idle t.phase) t.ask (is_room n key free) p.apdu (g.entries key) (n.entries key) ours theirs
              → Goes ours
          go (inl h) = subst Goes (sym h.0) (server_same theirs kept_theirs from_theirs
              (inr (inl (refl, holds_next theirs kept_theirs service p.apdu gave_up (is_fresh u key t.ask) h.1))))
          go (inr (inl h)) = subst Goes (sym (h.1).1) (server_rests (g.entries key) (n.entries key) (h.1).0
              (subst (λ (v : server.Reaction). Stands W (server_acts n key v)) (h.1).2 kept_theirs)
              (subst (λ (v : server.Reaction). Each IsFromServer v.sends) (h.1).2 from_theirs) h.0)
          go (inr (inr (inl h))) = fresh_goes ours h
          go (inr (inr (inr (inl h)))) = apart_goes ours h
          go (inr (inr (inr (inr h)))) = read_ends h

    -- The entry ticks.

    -- what a service says is not looked at
    abbrev no_service : Service
    no_service choice octets = Rejects 0

    abbrev ticking : Context
    ticking = server_context x key (server_now n key)

    abbrev Ticks : server.Reaction → Type 0
    Ticks v = IsFollowed W ever reuses (server_acts (over n g) key v)

    kept_ticks : Stands W (server_acts n key (server.server_ticks ticking (n.entries key)))
    kept_ticks = entry_ticks W x bound n s key t at

    from_ticks : Each IsFromServer (server.server_ticks ticking (n.entries key)).sends
    from_ticks = all_from_server key.invoke_id (server.server_ticks ticking (n.entries key)).sends
        (server_sends_own.ticks ticking (n.entries key) (s.calm key).own).0

    gone_tick : AreGone (server_now n key) (g.entries key) (n.entries key) → Ticks (server.server_ticks ticking (g.entries key))
    gone_tick gone = subst Ticks (sym (gone_ticks ticking no_service (g.entries key) gone.0)) (server_rests (g.entries key) (n.entries key) []
        (subst (λ (v : server.Reaction). Stands W (server_acts n key v)) (gone_ticks ticking no_service (n.entries key) gone.1) kept_ticks) tt gone)

    dead_now : (e : ServerTransaction) → is_live (server_now n key) e ≡ false → e.begin + KEEP < server_now n key
    dead_now e dead = grind (arith, nat_tests)

    -- a tick is no Abort of the client: any other APDU stands for it
    abbrev no_apdu : Apdu
    no_apdu = Reject 0 0

    ticks_hold : (b : Bool) (e : ServerTransaction) → is_live (server_now n key) e ≡ true → Holds b (is_idle t.phase) t.ask e
        → EntryIs (HoldsOn ticking no_service b (is_idle t.phase) t.ask no_apdu) (server.server_ticks ticking (Some e)).entry
    ticks_hold false e live h = ticks_for ticking no_service t.ask e live h
    ticks_hold true e live h = by e.state refl h.0 h.1
      where
        join : (transfer : Transfer) → (is_transfer_over transfer ≡ true → is_idle t.phase ≡ true) → (o : Option ServerTransaction)
            → EntryIs (GoesOnFrom ticking no_service e) o → EntryIs (λ d. OverBy ticking no_service no_apdu transfer d.state) o
            → EntryIs (GivesOn ticking no_service (is_idle t.phase) no_apdu) o
        join transfer was None f k = absurd f
        join transfer was (Some d) f k = record {
          gives = f.1;
          live = subst (λ m. nat_le (server_now n key - m) KEEP ≡ true) (sym f.0) live;
          before = transfer;
          over = k;
          was = was;
        }

        by : (st : State) → e.state ≡ st → IsGiving st → OverIf (is_idle t.phase ≡ true) st
            → EntryIs (GivesOn ticking no_service (is_idle t.phase) no_apdu) (server.server_ticks ticking (Some e)).entry
        by (State.SegmentedRequest inc since) of gives k = absurd gives
        by (State.Done kept) of gives k = absurd gives
        by (State.SegmentedResponse out transfer since) of gives k = join transfer k (server.server_ticks ticking (Some e)).entry
            (ticks_gives ticking no_service e live h.0) (ticks_over ticking no_service e out transfer since of live no_apdu)
        by State.Dropped of gives k = absurd gives

    same_tick : g.entries key ≡ n.entries key → (o : Option ServerTransaction) → n.entries key ≡ o
        → EntryIs (Holds (is_fresh u key t.ask) (is_idle t.phase) t.ask) o → Ticks (server.server_ticks ticking (g.entries key))
    same_tick same None is h = absurd h
    same_tick same (Some e) is h = by (is_live (server_now n key) e) refl
      where
        by : (b : Bool) → is_live (server_now n key) e ≡ b → Ticks (server.server_ticks ticking (g.entries key))
        by false dead = gone_tick (subst (IsGone (server_now n key)) (sym (same ∙ is)) (dead_now e dead), subst (IsGone (server_now n key)) (sym is) (dead_now e dead))
        by true live = subst (λ (o : Option ServerTransaction). Ticks (server.server_ticks ticking o)) (sym same)
            (server_same (server.server_ticks ticking (n.entries key)) kept_ticks from_ticks
            (inr (inl (
              refl,
              holds_next (server.server_ticks ticking (n.entries key)) kept_ticks no_service no_apdu (λ abort. absurd abort)
                  (is_fresh u key t.ask)
                  (subst (λ (o : Option ServerTransaction). EntryIs (HoldsOn ticking no_service (is_fresh u key t.ask) (is_idle t.phase) t.ask no_apdu)
                  (server.server_ticks ticking o).entry) (sym is) (ticks_hold (is_fresh u key t.ask) e live h)),
            ))))

    apart_tick : is_fresh u key t.ask ≡ true → is_idle t.phase ≡ true → (o : Option ServerTransaction) → g.entries key ≡ o → (e : ServerTransaction)
        → n.entries key ≡ Some e → IsLeftOf e o → Ticks (server.server_ticks ticking o)
    apart_tick fresh idle o ours e theirs left = by (is_live (server_now n key) e) refl
      where
        left_gone : (q : Option ServerTransaction) → IsLeftOf e q → e.begin + KEEP < server_now n key → IsGone (server_now n key) q
        left_gone None k dead = tt
        left_gone (Some d) k dead = let same = k.0 in omega (arith, dead)

        alone : (v : server.Reaction) → is_live (server_now n key) e ≡ true → Each IsFromServer v.sends → v.effect ≡ None → IsLeftOf e v.entry → Ticks v
        alone v live from quiet k = server_alone no_service (fresh_is u key t.ask fresh) v (n.entries key)
            (server_aborts W x bound n s key t at (entry_in_time W x bound n s key t at e theirs live) v.sends (n.entries key) (inl refl))
            (idle_foreign (performed (n.numbers key) v.effect g.log) idle v.sends from)
            (subst (IsOfRead no_service t.ask) (sym quiet) tt)
            (inr (inr (fresh, idle, subst (λ (q : Option ServerTransaction). EntryIs (λ d. IsLeftOf d v.entry) q) (sym theirs) k)))

        left_on : (d : ServerTransaction) → d.begin ≡ e.begin → (q : Option ServerTransaction) → EntryIs (GoesOnFrom ticking no_service d) q → IsLeftOf e q
        left_on d same None k = absurd k
        left_on d same (Some f) k = (k.0 ∙ same, k.1)

        live_tick : (q : Option ServerTransaction) → IsLeftOf e q → is_live (server_now n key) e ≡ true → Ticks (server.server_ticks ticking q)
        live_tick None k live = alone (server.rests None []) live tt refl tt
        live_tick (Some d) k live =
            let lives : is_live (server_now n key) d ≡ true = subst (λ m. nat_le (server_now n key - m) KEEP ≡ true) (sym k.0) live in
            alone (server.server_ticks ticking (Some d)) live
            (all_from_server key.invoke_id (server.server_ticks ticking (Some d)).sends
            (server_sends_own.ticks ticking (Some d) (giving_own ticking no_service t.ask u.reads (fresh_is u key t.ask fresh).read
            (fresh_is u key t.ask fresh).whole key.invoke_id d.state k.1)).0)
            (ticks_quiet ticking (Some d))
            (left_on d k.0 (server.server_ticks ticking (Some d)).entry (ticks_gives ticking no_service d lives k.1))

        by : (b : Bool) → is_live (server_now n key) e ≡ b → Ticks (server.server_ticks ticking o)
        by true live = live_tick o left live
        by false dead = subst (λ (q : Option ServerTransaction). Ticks (server.server_ticks ticking q)) ours
            (gone_tick (
              subst (IsGone (server_now n key)) (sym ours) (left_gone o left (dead_now e dead)),
              subst (IsGone (server_now n key)) (sym theirs) (dead_now e dead),
            ))

    pub ticks_on : Ticks (server.server_ticks ticking (g.entries key))
    ticks_on = by fit_at
      where
        apart : is_fresh u key t.ask ≡ true → is_idle t.phase ≡ true → (o : Option ServerTransaction) → n.entries key ≡ o → EntryIs (λ e. IsLeftOf e (g.entries key)) o
            → Ticks (server.server_ticks ticking (g.entries key))
        apart fresh idle None is left = absurd left
        apart fresh idle (Some e) is left = apart_tick fresh idle (g.entries key) refl e is left

        by : FitOf (server_now n key) (is_fresh u key t.ask) (is_idle t.phase) t.ask (g.entries key) (n.entries key)
            → Ticks (server.server_ticks ticking (g.entries key))
        by (inl gone) = gone_tick gone
        by (inr (inl same)) = same_tick same.0 (n.entries key) refl same.1
        by (inr (inr h)) = apart h.0 h.1 (n.entries key) refl h.2
