-- Repeats make an ask robust.
use Rattle.std.specs.List.{Contains}
use Rattle.std.proofs.Common.{◌≡◌, ℕ, ◌+◌, ◌-◌, ◌<◌, ◌≤◌, ◌⊎◌, Bool, true, false, List, [], ◌∷◌, ◌++◌, length, Option, Some, None, slice_get, if◌then◌else◌}
use Rattle.std.proofs.Common.{refl, sym, ap, subst, inl, inr, ◌∙◌, arith}
use Rattle.std.proofs.lemmas.Bool.Decides.{nat_tests}
use Rattle.bac_apdu.specs.Apdu.{Apdu}
use Rattle.bac_segment.specs.Pieces.{join}
use Rattle.bac_protocol.specs.declared.times.TheConstants.{T_OUT, KEEP}
use Rattle.bac_protocol.specs.Service.{Octets, Reply}
use Rattle.bac_protocol.specs.Service.Ending.{Answered}
use Rattle.bac_protocol.specs.Client as client
use Rattle.bac_protocol.specs.Client.{Ask, ClientTransaction, is_idle, request_of}
use Rattle.bac_protocol.specs.Client.Phase.{AwaitConfirmation}
use Rattle.bac_protocol.specs.Server.{ServerTransaction, is_live, is_none_live}
use Rattle.bac_protocol.specs.Log.{Fact, Has, StoreModel}
use Rattle.bac_protocol.specs.Log.Fact.{Asked, Performed, Ended}
use Rattle.bac_protocol.specs.Transaction.{Key, Rules, client_context}
use Rattle.bac_protocol.specs.World.{Net, World, Post, Event, is_deliverable, is_id_held, asked_at, ask_made, happens, run, start, post_of, later, copies_of}
use Rattle.bac_protocol.specs.World.{service_of, client_now, server_now}
use Rattle.bac_protocol.specs.World.Event.{MakeAsk, Deliver, Tick, Noise, Advance, Change, RestartClient, RestartServer, Begin, BeginAgain, Stray, AskAway, TickAway}
use Rattle.bac_protocol.specs.Claims.{IsBounded}
use Rattle.bac_protocol.specs.Pace.{Pace, IsTimely}
use Rattle.bac_protocol.proofs.Alone.{one}
use Rattle.bac_protocol.proofs.Asks.{IsSpent}
use Rattle.bac_protocol.proofs.Facts.{Grows}
use Rattle.bac_protocol.proofs.Standing.{Stands, spent_stands}
use Rattle.bac_protocol.proofs.Headline.{Kept, run_kept, event_kept, start_kept}
use Rattle.bac_protocol.proofs.Keys.{copy_at, set_same}
use Rattle.bac_protocol.proofs.Paces.{since_now}
use Rattle.bac_liveness.specs.Runs.{Throughout, IsOnItsWay, StaysSince}
use Rattle.bac_liveness.specs.RoundTrip.{FitsInOne, CanPerform, HasPerformed, IsServed, request_to, answer_to}
use Rattle.bac_liveness.specs.Repeats.{PATIENCE, FindsServer, IsAnswered, IsWaiting, IsSentAgain, IsRobust, RepeatsSuffice}
use Rattle.bac_liveness.proofs.Paths.{Bounded, Path, sent_now, path_bounded, some_is, ask_of, Gives, event_steps, run_steps, path_log, path_posts, run_path, Any}
use Rattle.bac_liveness.proofs.RoundTrips.{room_is, trip, bounded_in}
use Rattle.bac_liveness.proofs.Clocks.{AskedIn, SoonIn, made_of, soon_of, asked_path, soon_since}
use Rattle.bac_liveness.proofs.Ticking.{tick_sends}
use Rattle.bac_liveness.proofs.Waits.{IsFine, DoneFor, PatientOrOver, Waits, Finds, answered_grows, done_live, repeat_left, waits_path, got, of_map}

pub at_end : (xs : List Post) (q : Post) → slice_get (xs ++ q ∷ []) (length xs) ≡ Some q
at_end [] q = refl
at_end (p ∷ xs) q = at_end xs q

module _ (S : Type 0) (model : StoreModel S) (x : Rules) (key : Key) (ask : Ask) (number made : ℕ) (whole : ask.whole ≡ true) where
  abbrev On : World S → Type 0
  On w = Waits x key ask number made w.net

  abbrev Young : World S → Type 0
  Young w = client_now w.net key < ask.first + PATIENCE

  abbrev Stays_ : World S → Type 0
  Stays_ w = StaysSince w.net key made

  abbrev Soon_ : World S → Type 0
  Soon_ w = SoonIn w.net made

  -- what is said of events is what is said of the steps that they are
  finds_event : (w : World S) (e : Event) → FindsServer S model x key ask w e → Gives x (Finds x key ask number made) S model w e
  finds_event w (MakeAsk k choice b front rest) h = tt
  finds_event w (Deliver i free) h = λ p at up arrives m none.
      let f = h m none in
      let same : p.key ≡ key = ap (λ (y : Post). y.key) (some_is p m.post (sym at ∙ m.at)) ∙ m.key_is in
      (f.0, room_is w key free (f.1).slot (f.1).serving, ap (λ (k : Key). service_of S model w k ask.choice (join ask.pieces)) same ∙ (f.1).outcome, f.2)
  finds_event w (Tick as_client as_server) h = tt
  finds_event w Noise h = tt
  finds_event w (Stray k free a) h = tt
  finds_event w (AskAway k choice whole front rest) h = tt
  finds_event w (TickAway as_client as_server) h = tt
  finds_event w (Advance by clients servers) h = tt
  finds_event w (Change node change) h = tt
  finds_event w (RestartClient node exact) h = tt
  finds_event w (RestartServer node exact store) h = tt
  finds_event w (Begin node exact) h = tt
  finds_event w (BeginAgain node exact) h = tt

  finds_run : (events : List Event) (w : World S) → Throughout S model x (FindsServer S model x key ask) events w
      → Throughout S model x (Gives x (Finds x key ask number made) S model) events w
  finds_run [] w h = tt
  finds_run (e ∷ es) w h = (finds_event w e h.0, finds_run es (happens S model x w e) h.1)

  run_on : (events : List Event) (w : World S) → Bounded w.net → Throughout S model x (FindsServer S model x key ask) events w → On w
      → Soon_ (run S model x events w) → On (run S model x events w)
  run_on events w bounded served h soon = waits_path x key ask number made whole w.net (run S model x events w).net
      (run_path x (Finds x key ask number made) S model events w bounded (finds_run events w served)) h soon

  event_on : (w : World S) (e : Event) → Bounded w.net → FindsServer S model x key ask w e → On w → Soon_ (happens S model x w e) → On (happens S model x w e)
  event_on w e bounded served h soon = run_on (e ∷ []) w bounded (served, tt) h soon

  -- a client that has not restarted, and is in time, is not late by real time
  soon_at : (v : World S) → AskedIn v.net key ask.first made → Stays_ v → Young v → Soon_ v
  soon_at v h stays young = soon_of v.net key ask.first made h stays (omega arith)

  on_at : (events : List Event) (w : World S) → Bounded w.net → Throughout S model x (FindsServer S model x key ask) events w → On w
      → Stays_ (run S model x events w) → Young (run S model x events w) → On (run S model x events w)
  on_at events w bounded served h stays young = run_on events w bounded served h (soon_at (run S model x events w)
      (asked_path x Any key ask.first made w.net (run S model x events w).net (run_steps x S model events w bounded) h.clock) stays young)

  split : (before : List Event) (e : Event) (between : List Event) (w : World S)
      → Throughout S model x (FindsServer S model x key ask) (before ++ e ∷ between) w
      → Throughout S model x (FindsServer S model x key ask) before w
      × FindsServer S model x key ask (run S model x before w) e
      × Throughout S model x (FindsServer S model x key ask) between (happens S model x (run S model x before w) e)
  split [] e between w h = (tt, h.0, h.1)
  split (f ∷ before) e between w h = let r = split before e between (happens S model x w f) h.1 in ((h.0, r.0), r.1, r.2)

  waiting_of : (w : World S) → On w → Stays_ w → Young w → IsWaiting w.net key ask ⊎ IsAnswered number ask w.net.log
  waiting_of w h stays young = go h.ticket.state
    where
      go : PatientOrOver x key ask number made (w.net.restarted key.client) (client_now w.net key) h.ticket.ticket w.net.log
          → IsWaiting w.net key ask ⊎ IsAnswered number ask w.net.log
      go (inl p) = inl (record { ticket = h.ticket.ticket; at = h.ticket.at; ask_is = h.ticket.is; waits = p.waits })
      go (inr (idle, inl answered)) = inr answered
      go (inr (idle, inr (inl lost))) = let le = stays in absurd (omega arith)
      go (inr (idle, inr (inr late))) = let lt = young in absurd (omega arith)

  -- a tick that is due
  sent_again : (v : World S) → On v → Stays_ v → Young v → (t : ClientTransaction) → v.net.tickets key ≡ Some t → t.phase ≡ AwaitConfirmation
      → T_OUT ≤ client_now v.net key - t.since
      → (as_client as_server : List Key) → Contains as_client key
      → IsSentAgain x key ask t v.net (happens S model x v (Tick as_client as_server)).net
  sent_again v h stays young t at awaits due as_client as_server i =
      go (subst (λ (y : ClientTransaction). PatientOrOver x key ask number made (v.net.restarted key.client)
      (client_now v.net key) y v.net.log) same h.ticket.state)
    where
      same : h.ticket.ticket ≡ t
      same = some_is h.ticket.ticket t (sym h.ticket.at ∙ at)

      go : PatientOrOver x key ask number made (v.net.restarted key.client) (client_now v.net key) t v.net.log
          → IsSentAgain x key ask t v.net (happens S model x v (Tick as_client as_server)).net
      go (inr o) = absurd (let z = sym o.0 ∙ ap is_idle awaits in cc)
      go (inl w) =
          let sends = tick_sends S model x key ask number made whole v t as_client as_server (made_of v.net key ask.first made h.clock stays) at
          (subst (λ (y : ClientTransaction). y.ask ≡ ask) same h.ticket.is) w young due h.entry i in
          record { left = repeat_left x key ask number made (client_now v.net key) t w young due; sent = sends.copies_are; ticket = sends.ticket }

  -- where a copy of the request and the answer that it brings get through
  module _ (opening : ℕ → S) (W : ℕ) (bound : IsBounded W x) where
    record Brings (v u : World S) : Type 0 where
      reply : Reply
      served : IsServed S model x key ask reply v u

    brings : (v : World S) → Kept S model opening W x bound v → Bounded v.net → On v → Soon_ v → (i : ℕ) (free : Bool)
        → IsOnItsWay x v.net key (request_to x key ask) i
        → FindsServer S model x key ask v (Deliver i free) → Brings v (happens S model x v (Deliver i free))
    brings v s bounded h soon i free m finds = go h.entry
      where
        is : h.ticket.ticket.ask ≡ ask
        is = h.ticket.is

        served : (p : Reply) → FitsInOne x key ask p → CanPerform S model v key ask free p ⊎ HasPerformed x v.net key ask (Some (join ask.pieces)) p
            → Brings v (happens S model x v (Deliver i free))
        served p fits can = record {
          reply = p;
          served = subst (λ (k : Ask). IsServed S model x key k p v (happens S model x v (Deliver i free))) is
              (trip S model opening W x bound v s bounded key h.ticket.ticket h.ticket.at p (subst (λ (k : Ask). FitsInOne x key k p) (sym is) fits)
              (ap (λ (k : Ask). k.whole) is ∙ whole) free
              (subst (λ (k : Ask). CanPerform S model v key k free p ⊎ HasPerformed x v.net key k (Some (join k.pieces)) p) (sym is) can) i
              (subst (λ (k : Ask). IsOnItsWay x v.net key (request_to x key k) i) (sym is) m));
        }

        go : (is_none_live (server_now v.net key) (v.net.entries key) ≡ true) ⊎ DoneFor x key ask number made v.net (v.net.entries key) v.net.log
            → Brings v (happens S model x v (Deliver i free))
        go (inl none) = let f = finds m none in served f.0 f.2 (inl f.1)
        go (inr d) = served d.reply d.given.0
            (inr (record { entry = d.entry; at = d.at; live = done_live x key ask number made v.net h.clock soon d; request_is = d.request; state = d.state }))

    through : (v : World S) → Kept S model opening W x bound v → Bounded v.net → On v → Soon_ v → (i : ℕ) (free : Bool)
        → IsOnItsWay x v.net key (request_to x key ask) i
        → FindsServer S model x key ask v (Deliver i free) → (between : List Event) (answer : Apdu) (other : Bool)
        → (let u = run S model x between (happens S model x v (Deliver i free)) in
        On u → Stays_ u → Young u → IsOnItsWay x u.net key answer (length v.net.posts)
        → IsAnswered number ask (happens S model x u (Deliver (length v.net.posts) other)).net.log)
    through v s bounded h soon i free m finds between answer other on stays young_u m_u = go on.ticket.state
      where
        b : World S
        b = happens S model x v (Deliver i free)

        u : World S
        u = run S model x between (happens S model x v (Deliver i free))

        bounded_b : Bounded b.net
        bounded_b = path_bounded x Any v.net b.net (event_steps x S model v bounded (Deliver i free)) bounded

        to_u : Path x Any b.net u.net
        to_u = run_steps x S model between b bounded_b

        z : World S
        z = happens S model x (run S model x between (happens S model x v (Deliver i free))) (Deliver (length v.net.posts) other)

        r : Brings v (happens S model x v (Deliver i free))
        r = brings v s bounded h soon i free m finds

        post : Post
        post = post_of key v.net.now (answer_to x key ask r.reply)

        in_b : slice_get b.net.posts (length v.net.posts) ≡ Some post
        in_b = ap (λ (ps : List Post). slice_get ps (length v.net.posts)) (r.served).sent ∙ at_end v.net.posts post

        in_u : slice_get u.net.posts (length v.net.posts) ≡ Some post
        in_u = path_posts x Any b.net u.net to_u (length v.net.posts) post in_b

        arrives : is_deliverable x u.net (length v.net.posts) post ≡ true
        arrives = subst (λ (q : Post). is_deliverable x u.net (length v.net.posts) q ≡ true)
            (some_is m_u.post post (sym m_u.at ∙ in_u)) m_u.arrives

        grown : Grows u.net.log z.net.log
        grown = path_log x Any u.net z.net (event_steps x S model u (path_bounded x Any b.net u.net to_u bounded_b)
            (Deliver (length v.net.posts) other))

        performed : Has (Performed number (request_of ask) r.reply) z.net.log
        performed = grown (Performed number (request_of ask) r.reply)
            (path_log x Any b.net u.net to_u (Performed number (request_of ask) r.reply)
            (subst (λ (k : ℕ). Has (Performed k (request_of ask) r.reply) b.net.log) h.number_is (r.served).performed))

        go : PatientOrOver x key ask number made (u.net.restarted key.client) (client_now u.net key) on.ticket.ticket u.net.log
            → IsAnswered number ask z.net.log
        go (inr (idle, inl answered)) = answered_grows x key ask number made u.net.log z.net.log grown answered
        go (inr (idle, inr (inl lost))) = let le = stays in absurd (omega arith)
        go (inr (idle, inr (inr late))) = let lt = young_u in absurd (omega arith)
        go (inl p) =
            let now = (r.served).answered between (subst (λ (k : ℕ). StaysSince u.net key k) (sym h.made_is) stays)
            (record { ticket = on.ticket.ticket; at = on.ticket.at; going = ap is_idle p.waits; in_time = omega arith }) (length v.net.posts)
            (record { post = post; at = in_u; key_is = refl; apdu_is = refl; arrives = arrives }) other in (
              r.reply,
              performed,
              subst (λ (l : List Fact). Has (Ended number (Answered r.reply)) l)
                  (sym (now.log ∙ ap (λ (k : ℕ). Ended k (Answered r.reply) ∷ u.net.log) h.number_is)) (inl refl),
            )

    robust : (w : World S) → Kept S model opening W x bound w → Bounded w.net → On w → IsRobust S model x key ask number w
    robust w s bounded h = record {
      waits = λ events served stays young.
          let v = run S model x events w in
          let kept = stays_at w v h stays in
          waiting_of v (on_at events w bounded served h kept young) kept young;
      repeats = λ events as_client as_server served stays young t at awaits due there.
          let v = run S model x events w in
          let kept = stays_at w v h stays in
          sent_again v (on_at events w bounded served h kept young) kept young t at awaits due as_client as_server there;
      answered = λ before between i free other answer served stays young m m_u.
          let sp = split before (Deliver i free) between w served in
          let v = run S model x before w in
          let b = happens S model x v (Deliver i free) in
          let u = run S model x between b in
          let kept = stays_at w u h stays in
          let to_v = run_steps x S model before w bounded in
          let bounded_v = path_bounded x Any w.net v.net to_v bounded in
          let to_b = event_steps x S model v bounded_v (Deliver i free) in
          let bounded_b = path_bounded x Any v.net b.net to_b bounded_v in
          let to_u = run_steps x S model between b bounded_b in
          let asked_v = asked_path x Any key ask.first made w.net v.net to_v h.clock in
          let asked_b = asked_path x Any key ask.first made v.net b.net to_b asked_v in
          let asked_u = asked_path x Any key ask.first made b.net u.net to_u asked_b in
          let soon_u = soon_at u asked_u kept young in
          let soon_b = soon_since x Any key ask.first made b.net u.net to_u soon_u in
          let soon_v = soon_since x Any key ask.first made v.net b.net to_b soon_b in
          let on_v = run_on before w bounded sp.0 h soon_v in
          let on_b = event_on v (Deliver i free) bounded_v sp.1 on_v soon_b in
          through v (run_kept S model opening W x bound before w s) bounded_v on_v soon_v
          i free m sp.1 between answer other (run_on between b bounded_b sp.2 on_b soon_u) kept young m_u;
    }
      where
        stays_at : (y u : World S) → On y → StaysSince u.net key (y.net.made key) → Stays_ u
        stays_at y u on stays = subst (λ (k : ℕ). StaysSince u.net key k) on.made_is stays

-- An ask is made.
pub asked_on : (W : ℕ) (x : Rules) (n : Net) → Stands W n → (key : Key) (choice : ℕ) (front : Octets) (rest : List Octets)
    → is_id_held n key ≡ false
    → Waits x key (ask_of (client_now n key) choice true front rest) n.asks n.now (asked_at x n key (ask_of (client_now n key) choice true front rest))
asked_on W x n s key choice front rest free = record {
  clock = record {
    timely = (s.calm key).timely;
    sent = sent_now n key;
    client_told = (s.calm key).client;
    server_told = (s.calm key).server;
    on = omega arith;
    life = inl (record { stays = spent.lives; since = since_now n.pace n.now (n.client_clocks key.client) (s.calm key).client });
  };
  entry = inl (none_live (n.entries key) (λ e at. spent.dead e at));
  posts = λ i q at is young. posts i q at is young (got n.posts (post_of key n.now (request_to x key ask) ∷ []) i q at);
  ticket = record {
    ticket = client.asked_ticket (client_context x key (client_now n key)) ask;
    at = set_same n.tickets key (Some (client.asked_ticket (client_context x key (client_now n key)) ask));
    is = refl;
    state = inl (record { waits = refl; few = omega arith; since = omega arith; passed = omega arith });
  };
  number_is = set_same n.numbers key n.asks;
  made_is = set_same n.made key n.now;
}
  where
    ask : Ask
    ask = ask_of (client_now n key) choice true front rest

    spent : IsSpent (one n key)
    spent = spent_stands W n s key free

    none_live : (o : Option ServerTransaction) → ((e : ServerTransaction) → o ≡ Some e → e.begin + KEEP < server_now n key)
        → is_none_live (server_now n key) o ≡ true
    none_live None d = refl
    none_live (Some e) d =
        let lt = d e refl in
        let dead : is_live (server_now n key) e ≡ false = grind (arith, nat_tests) in
        ap (λ b. if b then false else true) dead

    old : (i : ℕ) (q : Post) → slice_get n.posts i ≡ Some q → q.key ≡ key → n.now - q.copy.moment ≤ n.pace.life → ⊥
    old i q at is young = spent.old (later q.key i n.posts) q.copy
        (subst (λ (k : Key). slice_get (copies_of k n.posts) (later q.key i n.posts) ≡ Some q.copy) is (copy_at i n.posts q at)) young

    asked_log : List Fact
    asked_log = Asked n.asks key.client key.server (request_of ask) ∷ n.log

    posts : (i : ℕ) (q : Post) → slice_get (n.posts ++ post_of key n.now (request_to x key ask) ∷ []) i ≡ Some q → q.key ≡ key
        → n.now - q.copy.moment ≤ n.pace.life
        → (slice_get n.posts i ≡ Some q) ⊎ ((j : ℕ) × (slice_get (post_of key n.now (request_to x key ask) ∷ []) j ≡ Some q))
        → IsFine x key ask n.asks n.now asked_log q.copy.apdu
    posts i q at is young (inl was) = absurd (old i q was is young)
    posts i q at is young (inr new) =
        of_map (IsFine x key ask n.asks n.now asked_log) key n.now (request_to x key ask ∷ []) (inl refl, tt) new.0 q new.1

module _ (S : Type 0) (model : StoreModel S) (opening : ℕ → S) (W : ℕ) (x : Rules) (bound : IsBounded W x) where
  repeats_suffice : (w : World S) → Kept S model opening W x bound w → Bounded w.net → RepeatsSuffice S model x w
  repeats_suffice w s bounded key choice front rest free =
      subst (λ (u : World S). IsRobust S model x key ask w.net.asks u) (sym path)
      (robust S model x key ask w.net.asks w.net.now refl opening W bound (ask_made S x w key ask)
      (subst (λ (u : World S). Kept S model opening W x bound u) path (event_kept S model opening W x bound w s (MakeAsk key choice true front rest)))
      (subst (λ (u : World S). Bounded u.net) path (path_bounded x Any w.net (happens S model x w (MakeAsk key choice true front rest)).net
      (event_steps x S model w bounded (MakeAsk key choice true front rest)) bounded))
      (asked_on W x w.net s.stands key choice front rest free))
    where
      ask : Ask
      ask = ask_of (client_now w.net key) choice true front rest

      path : happens S model x w (MakeAsk key choice true front rest) ≡ ask_made S x w key ask
      path = ap (λ b. if b then w else ask_made S x w key ask) free

  pub all_repeats_suffice : (pace : Pace) → IsTimely pace → (clocks : ℕ → ℕ) → (events : List Event)
      → RepeatsSuffice S model x (run S model x events (start S pace clocks opening))
  all_repeats_suffice pace timely clocks events = repeats_suffice (run S model x events (start S pace clocks opening))
      (run_kept S model opening W x bound events (start S pace clocks opening) (start_kept S model opening W x bound pace timely clocks))
      (bounded_in S model opening W x bound pace timely clocks events)
