-- One round trip suffices, in every world.
use Rattle.std.specs.Prelude.{None}
use Rattle.std.proofs.Common.{◌≡◌, ℕ, ◌-◌, ◌≤◌, Bool, true, false, List, [], ◌∷◌, ◌++◌, length, Option, Some, slice_get, refl, sym, ap, subst, inl, inr, ◌∙◌}
use Rattle.std.proofs.Common.{arith}
use Rattle.bac_apdu.specs.Apdu.{Apdu, Limits}
use Rattle.bac_service.specs.Services.{reads_reply}
use Rattle.bac_service.specs.Values.{Request, choice_of}
use Rattle.bac_service.specs.Requests.{SpellsRequest}
use Rattle.bac_protocol.specs.declared.times.TheConstants.{DEADLINE}
use Rattle.bac_protocol.specs.Context.{Settings, Context}
use Rattle.bac_protocol.specs.Sizes.{request_way_of, reply_way_of}
use Rattle.bac_protocol.specs.Sizes.Way.{InOne}
use Rattle.bac_protocol.specs.Service.{Octets}
use Rattle.bac_protocol.specs.Service.Ending.{Answered}
use Rattle.bac_protocol.specs.Wire.{is_from_client}
use Rattle.bac_protocol.specs.Client as client
use Rattle.bac_protocol.specs.Client.{Ask, ClientTransaction, is_idle, request_of}
use Rattle.bac_protocol.specs.Client.Reaction.{Ends}
use Rattle.bac_protocol.specs.Server as server
use Rattle.bac_protocol.specs.Log as octets
use Rattle.bac_protocol.specs.Transaction.{Key, Rules, client_context, server_context}
use Rattle.bac_protocol.specs.World.{Net, Post, post_of, client_acts, server_acts, client_now, server_now}
use Rattle.bac_protocol.specs.Moves.{taken_by_client}
use Rattle.bac_protocol.specs.Straight.{KindFits}
use Rattle.bac_protocol.specs.Claims as claims
use Rattle.bac_protocol.specs.Pace.{Clock, IsTimely}
use Rattle.bac_protocol.proofs.Paces.{since_now}
use Rattle.bac_protocol.proofs.Keys.{set_same}
use Rattle.bac_protocol.proofs.SingleMoves.{reached_net}
use Rattle.bac_transaction.specs.Sends.{Pairwise}
use Rattle.bac_world.specs.Node.{Node}
use Rattle.bac_world.specs.Once.{Stores, IsOnce}
use Rattle.bac_world.specs.World.{World, Event, Copy, WorldStep, WorldRun, IsFresh, IsBounded, IsAsked, RunsOn, told, link_at, stores_of, peer_at}
use Rattle.bac_world.specs.World.Event.{Deliver}
use Rattle.bac_world.proofs.Pairs.{IsPaired}
use Rattle.bac_world.proofs.Bridge.{here_at, IsCopyOf}
use Rattle.bac_world.proofs.Steps.{Over}
use Rattle.bac_world.proofs.Asking.{accepted_whole}
use Rattle.bac_world.proofs.Headline.{headline, fresh_over, rules_of, rules_bounded}
use Rattle.bac_liveness.specs.Runs.{StaysSince}
use Rattle.bac_liveness.specs.RoundTrip.{FitsInOne, request_to, answer_to}
use Rattle.bac_liveness.specs.WorldRuns.{endings_of}
use Rattle.bac_liveness.specs.WorldRoundTrip.{MayArrive, IsRequest, CanPerform, IsAnswered, IsServed, RoundTripSuffices}
use Rattle.bac_liveness.proofs.Clocks.{MadeIn, made_path, here_path}
use Rattle.bac_liveness.proofs.Paths.{Any, some_is, Path, path_now, path_log, path_posts}
use Rattle.bac_liveness.proofs.Changes.{IdleIsLogged, HasEnded, IsThere, logged_path}
use Rattle.bac_liveness.proofs.Endings.{Tracked, tracked_path}
use Rattle.bac_liveness.proofs.Serving.{answer_not_from_client, performed_entry}
use Rattle.bac_liveness.proofs.Kept.{IsKept}
use Rattle.bac_liveness.proofs.Awaiting.{IsAwaited, awaited_path}
use Rattle.bac_liveness.proofs.RoundTrips.{TakesAnswer, takes_ends, awaited_at, takes_awaited, answer_whole}
use Rattle.bac_liveness.proofs.Robust.{at_end}
use Rattle.bac_liveness.proofs.Following.{Followed, Parts, IsTaken, IsServedBy, served_reaction, accepted, post, heard_now, served_over, told_over}
use Rattle.bac_liveness.proofs.Asked.{key, ask, made, made_over, made_bounded, made_path as asked_path, made_clock, bounded_over, there, stays, foreign}
use Rattle.bac_liveness.proofs.Asked.{request_is, pairwise_rest, pairwise_length, just_one}
use Rattle.bac_liveness.proofs.WorldEndings.{run_join, on_run, once_in, opened_net, opened_bounded}
use Rattle.bac_liveness.proofs.Performing.{way, does, reaction}
use Rattle.bac_liveness.proofs.Values.{answered_values, kind_fits}

module _ (links : ℕ → Option Octets) (apart : (i j : ℕ) (l : Octets) → links i ≡ Some l → links j ≡ Some l → i ≡ j) (W : ℕ) (x : Rules)
    (bound : claims.IsBounded W x) (readable : x.readable ≡ reads_reply) (opening : Stores) (old : World) (n : Net) (h : Over links apart W x None old n)
    (logged : IdleIsLogged n) (c s : ℕ) (limits : Limits) (r : Request) (asked : World) (a : IsAsked old c s limits r asked)
    (p : Parts links apart W x bound readable old n c s limits r asked a) (whole : p.whole ≡ true)
    (once : (events : List Event) (w : World) → WorldRun x.overtake asked events w → IsOnce opening w.log (stores_of w.nodes)) where
  abbrev its_key : Key
  its_key = key links apart W x bound readable old n h c s limits r asked a p

  abbrev its_ask : Ask
  its_ask = ask links apart W x bound readable old n h c s limits r asked a p

  abbrev first : Net
  first = made links apart W x bound readable old n h c s limits r asked a p

  logged_on : (m : Net) → Path x Any first m → IdleIsLogged m
  logged_on m path = logged_path x Any first m path (made_bounded links apart W x bound readable old n h c s limits r asked a p)
      (logged_path x Any n first (asked_path links apart W x bound readable old n h c s limits r asked a p Any) (bounded_over links apart W x old n h) logged)

  -- an ask that has no ending is open
  abbrev IsOpenIn : Net → Type 0
  IsOpenIn m = (t : IsThere x Any its_key n.asks its_ask n.now m) × (is_idle t.ticket.phase ≡ false)

  unended_open : (w : World) (m : Net) → Over links apart W x None w m → StaysSince m its_key n.now → endings_of (length old.notes) w.log ≡ 0
      → IdleIsLogged m → IsThere x Any its_key n.asks its_ask n.now m → IsOpenIn m
  unended_open w m over life none log t = go (is_idle t.ticket.phase) refl
    where
      go : (b : Bool) → is_idle t.ticket.phase ≡ b → IsOpenIn m
      go false e = (t, e)
      go true e = absurd (
          let ended = subst (λ (k : ℕ). HasEnded k m.log) t.number_is
          (log its_key t.ticket t.at (let le = life in let same = t.made_is in omega arith) e) in
          let one = once_in links apart W x bound readable w m over n.asks ended in
          let zero = subst (λ (k : ℕ). endings_of k w.log ≡ 0) (sym h.asks) none in
          omega arith
          )

  open_in : (w : World) (m : Net) → Path x Any first m → Over links apart W x None w m → StaysSince m its_key n.now
      → endings_of (length old.notes) w.log ≡ 0 → IsOpenIn m
  open_in w m path over life none = go (tracked_path x its_key n.asks its_ask n.now first m path
      (made_bounded links apart W x bound readable old n h c s limits r asked a p) life
      (logged_path x Any n first (asked_path links apart W x bound readable old n h c s limits r asked a p Any) (bounded_over links apart W x old n h) logged)
      (inl (there links apart W x bound readable old n h c s limits r asked a p Any)))
    where
      go : Tracked x its_key n.asks its_ask n.now m → IsOpenIn m
      go (inl t) = unended_open w m over life none (logged_on m path) t
      go (inr ended) = absurd (
          let one = once_in links apart W x bound readable w m over n.asks ended in
          let zero = subst (λ (k : ℕ). endings_of k w.log ≡ 0) (sym h.asks) none in
          omega arith
          )

  same_node : its_key.client ≡ its_key.server → ⊥
  same_node = foreign links apart W x bound readable old n h c s limits r asked a p

  away : (k : Key) → k ≡ its_key → k.client ≡ k.server → ⊥
  away k is e = same_node (sym (ap (λ (y : Key). y.client) is) ∙ e ∙ ap (λ (y : Key). y.server) is)

  -- A copy of the request is performed.

  module _ (before : List Event) (w served : World) (run : WorldRun x.overtake asked before w) (m : Net) (path : Path x Any first m)
      (lives : m.restarted c ≡ n.restarted c) (over : Over links apart W x None w m) (t : IsThere x Any its_key n.asks its_ask n.now m) (number : ℕ) (d : Copy)
      (may : MayArrive x.overtake w number d) (q : IsRequest a.sent d) (node : Node) (at : slice_get w.nodes s ≡ Some node)
      (can : CanPerform (told w s) a.before node a.accepted.invoke_id r) (did : WorldStep x.overtake w (Deliver number) served) where
    abbrev y : IsPaired (IsCopyOf links apart) m.posts number d
    y = post links apart W x bound readable w served m over number d may.at

    is : (y.other.key ≡ its_key) × (y.other.copy.apdu ≡ request_to x its_key its_ask)
    is = request_is links apart W x bound readable old n h c s limits r asked a p whole y.other d y.goes q

    taken : IsTaken links apart W x bound readable w served m number y.other d
    taken = heard_now links apart W x bound readable w served m over number d may.at may.arrives (away y.other.key is.0) did

    so : IsServedBy links apart W x bound readable w served m over number y.other d taken
    so = served_over links apart W x bound readable w served m over number y.other d taken (ap is_from_client is.1)

    node_is : taken.before ≡ node
    node_is = let e : Some taken.before ≡ Some node = sym so.node ∙ ap (λ (k : Key). slice_get w.nodes k.server) is.0 ∙ at in cc

    way_is : reply_way_of (x.settings s) (x.settings c).limits can.reply ≡ InOne
    way_is = way links apart W x bound readable old n h c s limits r asked a p w m over node at can

    abbrev sender : Context
    sender = client_context x its_key its_ask.first

    abbrev answer : Apdu
    answer = answer_to x its_key its_ask can.reply

    abbrev its_reaction : server.Reaction
    its_reaction = does links apart W x bound readable old n h c s limits r asked a p w m over node at can

    reaction_is : served_reaction links apart W x bound readable w served m over number y.other d taken ≡ its_reaction
    reaction_is = reaction links apart W x bound readable old n h c s limits r asked a p w m over node at can y.other is.0 is.1 taken.before node_is

    abbrev u : Net
    u = server_acts m its_key its_reaction

    u_over : Over links apart W x None served u
    u_over = subst (λ (z : server.Reaction). Over links apart W x None served (server_acts m its_key z)) reaction_is
        (subst (λ (k : Key). Over links apart W x None served (server_acts m k
        (served_reaction links apart W x bound readable w served m over number y.other d taken))) is.0 so.over)

    -- the ask by the clocks of its two ends
    clock : MadeIn m its_key its_ask.first n.now
    clock = made_path x Any its_key its_ask.first n.now first m path
        (made_bounded links apart W x bound readable old n h c s limits r asked a p)
        (stays links apart W x bound readable old n h c s limits r asked a p m lives)
        (made_clock links apart W x bound readable old n h c s limits r asked a p)

    kept : IsKept x Any its_key n.asks its_ask n.now (server_now m its_key) answer u
    kept = record {
      there = record { ticket = t.ticket; at = t.at; is = t.is; number_is = t.number_is; made_is = t.made_is };
      entry = performed_entry (server_now m its_key) sender its_ask answer;
      at = set_same m.entries its_key (Some (performed_entry (server_now m its_key) sender its_ask answer));
      begun = refl;
      state = refl;
      runs = clock;
      since = record {
        began = m.now;
        after = path_now x Any first m path;
        since = since_now m.pace m.now (m.server_clocks its_key.server) clock.server_told;
      };
    }

    performed : octets.Has (octets.Fact.Performed n.asks (request_of its_ask) can.reply) u.log
    performed = inl (ap (λ (k : ℕ). octets.Fact.Performed k (request_of its_ask) can.reply) t.number_is)

    -- its answer
    one : (b : Copy) × (taken.acts.sent ≡ b ∷ [])
    one = just_one (IsCopyOf links apart) (post_of its_key m.now answer) taken.acts.sent
        (pairwise_rest (IsCopyOf links apart) m.posts (post_of its_key m.now answer ∷ []) w.copies taken.acts.sent over.posts
        (subst (λ (cs : List Copy). Pairwise (IsCopyOf links apart) u.posts cs) taken.acts.copies u_over.posts))

    spelled : SpellsRequest (request_of its_ask).choice r (request_of its_ask).service
    spelled = subst (λ (z : Octets). SpellsRequest (choice_of r) r z) (sym p.joined) a.asks.spelled

    -- The answer is delivered.

    module _ (between : List Event) (v answered : World) (after : WorldRun x.overtake served between v) (on_between : RunsOn c between)
        (unended : endings_of (length old.notes) v.log ≡ 0) (young : told v c - told old c ≤ DEADLINE)
        (comes : MayArrive x.overtake v (length w.copies) one.0) (hears : WorldStep x.overtake v (Deliver (length w.copies)) answered) where
      f : Followed links apart W x bound readable Any between v u
      f = on_run links apart W x bound readable between served v u u_over after

      abbrev reply_post : IsPaired (IsCopyOf links apart) f.net.posts (length w.copies) one.0
      reply_post = post links apart W x bound readable v answered f.net f.over (length w.copies) one.0 comes.at

      sent : slice_get f.net.posts (length m.posts) ≡ Some (post_of its_key m.now answer)
      sent = path_posts x Any u f.net f.path (length m.posts) (post_of its_key m.now answer) (at_end m.posts (post_of its_key m.now answer))

      post_is : reply_post.other ≡ post_of its_key m.now answer
      post_is = some_is reply_post.other (post_of its_key m.now answer) (sym reply_post.there
          ∙ ap (slice_get f.net.posts) (sym (pairwise_length (IsCopyOf links apart) m.posts w.copies over.posts)) ∙ sent)

      down : is_from_client reply_post.other.copy.apdu ≡ false
      down = ap (λ (z : Post). is_from_client z.copy.apdu) post_is
          ∙ answer_not_from_client (server_context x its_key its_ask.first) its_ask.choice can.reply

      reply_taken : IsTaken links apart W x bound readable v answered f.net (length w.copies) reply_post.other one.0
      reply_taken = heard_now links apart W x bound readable v answered f.net f.over (length w.copies) one.0 comes.at comes.arrives
          (away reply_post.other.key (ap (λ (z : Post). z.key) post_is)) hears

      in_time : client_now f.net its_key - its_ask.first ≤ DEADLINE
      in_time =
          let one : here_at f.net c ≡ told v c = ap (λ (y : Clock). y.shows) (f.over.here c) in
          let two : here_at n c ≡ told old c = ap (λ (y : Clock). y.shows) (h.here c) in
          omega arith

      life : StaysSince f.net its_key n.now
      life = stays links apart W x bound readable old n h c s limits r asked a p f.net (f.lives c on_between ∙ lives)

      -- the client's clock has gone on since
      early : client_now u its_key - its_ask.first ≤ DEADLINE
      early = let late = in_time in let on = here_path x Any its_key its_ask.first n.now u f.net f.path
          (bounded_over links apart W x served u u_over) life clock in omega arith

      kept_then : IsAwaited x Any its_key n.asks its_ask n.now answer (answer_whole x its_key its_ask can.reply) f.net
      kept_then = awaited_path x Any its_key n.asks its_ask n.now answer (answer_whole x its_key its_ask can.reply) u f.net f.path
          (bounded_over links apart W x served u u_over)
          (awaited_at W x its_key its_ask n.asks (server_now m its_key) can.reply n.now u
          (reached_net W x bound u_over.sound.0 u_over.sound.2 u_over.sound.1 u u_over.sound.3) kept early (inl whole)) life in_time

      logged_then : IdleIsLogged f.net
      logged_then = logged_path x Any u f.net f.path (bounded_over links apart W x served u u_over)
          (λ k z is_at on idle. let ended = logged_on m path k z is_at on idle in (ended.0, inr ended.1))

      going : is_idle kept_then.there.ticket.phase ≡ false
      going = still (unended_open v f.net f.over life unended logged_then kept_then.there)
        where
          still : IsOpenIn f.net → is_idle kept_then.there.ticket.phase ≡ false
          still o = subst (λ (z : ClientTransaction). is_idle z.phase ≡ false)
              (some_is o.0.ticket kept_then.there.ticket (sym o.0.at ∙ kept_then.there.at)) o.1

      performed_then : octets.Has (octets.Fact.Performed n.asks (request_of its_ask) can.reply) f.net.log
      performed_then = path_log x Any u f.net f.path (octets.Fact.Performed n.asks (request_of its_ask) can.reply) performed

      events : List Event
      events = before ++ Deliver number ∷ between

      run_v : WorldRun x.overtake asked (before ++ Deliver number ∷ between) v
      run_v = run_join x.overtake before (Deliver number ∷ between) asked w v run (served, did, after)

      kind : KindFits x.readable its_ask.choice can.reply
      kind = subst (λ z. KindFits z its_ask.choice can.reply) (sym readable)
          (kind_fits opening (stores_of v.nodes) n.asks (request_of its_ask) can.reply f.net.log v.log f.over.log
          (once (before ++ Deliver number ∷ between) v run_v) performed_then)

      takes : TakesAnswer kept_then.there.ticket.phase
      takes = takes_awaited kept_then.there.ticket.phase going kept_then.phase

      ends : client.client_on_apdu (client_context x its_key (client_now f.net its_key)) x.readable kept_then.there.ticket answer ≡ Ends [] (Answered can.reply)
      ends = subst (λ (k : Ask). client.client_on_apdu (client_context x its_key (client_now f.net its_key)) x.readable kept_then.there.ticket
          (answer_to x its_key k can.reply)
          ≡ Ends [] (Answered can.reply)) kept_then.there.is
          (takes_ends x (client_now f.net its_key) its_key kept_then.there.ticket can.reply takes
          (subst (λ (k : Ask). client_now f.net its_key - k.first ≤ DEADLINE) (sym kept_then.there.is) in_time)
          (subst (λ (k : Ask). FitsInOne x its_key k can.reply) (sym kept_then.there.is) (record { way = way_is; kind = kind })))

      last_over : Over links apart W x None answered (client_acts f.net its_key kept_then.there.ticket (Ends [] (Answered can.reply)))
      last_over = subst (λ z. Over links apart W x None answered (client_acts f.net its_key kept_then.there.ticket z)) ends
          (subst (λ (o : Option ClientTransaction). Over links apart W x None answered (taken_by_client x f.net (post_of its_key m.now answer) o)) kept_then.there.at
          (subst (λ (z : Post). Over links apart W x None answered (taken_by_client x f.net z (f.net.tickets z.key))) post_is
          (told_over links apart W x bound readable v answered f.net f.over (length w.copies) reply_post.other one.0 reply_taken down)))

      -- the net in which it is answered
      abbrev ended_net : Net
      ended_net = client_acts f.net its_key kept_then.there.ticket (Ends [] (Answered can.reply))

      is_answered : (more : List Event) (last : World) → WorldRun x.overtake answered more last → IsAnswered (length old.notes) r last.log
      is_answered more last ran = subst (λ (k : ℕ). IsAnswered k r last.log) h.asks
          (answered_values opening (stores_of last.nodes) n.asks (request_of its_ask) can.reply end.net.log last.log end.over.log
          (once (((before ++ Deliver number ∷ between) ++ Deliver (length w.copies) ∷ []) ++ more) last
          (run_join x.overtake ((before ++ Deliver number ∷ between) ++ Deliver (length w.copies) ∷ []) more asked answered last
          (run_join x.overtake (before ++ Deliver number ∷ between) (Deliver (length w.copies) ∷ []) asked v answered run_v (answered, hears, refl)) ran))
          (grown (octets.Fact.Performed n.asks (request_of its_ask) can.reply) (inr performed_then)) r spelled
          (grown (octets.Fact.Ended n.asks (Answered can.reply))
          (inl (ap (λ (k : ℕ). octets.Fact.Ended k (Answered can.reply)) kept_then.there.number_is))))
        where
          end : Followed links apart W x bound readable Any more last ended_net
          end = on_run links apart W x bound readable more answered last ended_net last_over ran

          grown : (q : octets.Fact) → octets.Has q ended_net.log → octets.Has q end.net.log
          grown q has = path_log x Any ended_net end.net end.path q has

    is_served : IsServed x.overtake old c r w served
    is_served = record {
      answer = one.0;
      sent = taken.acts.copies ∙ ap (λ (cs : List Copy). w.copies ++ cs) one.1;
      answered = λ between v answered after on_between unended young comes hears more last ran.
          is_answered between v answered after on_between unended young comes hears more last ran;
    }

  pub suffices : (before : List Event) (w served : World) → WorldRun x.overtake asked before w → RunsOn c before → endings_of (length old.notes) w.log ≡ 0
      → (number : ℕ) (d : Copy) → MayArrive x.overtake w number d → IsRequest a.sent d
      → (node : Node) → slice_get w.nodes s ≡ Some node → CanPerform (told w s) a.before node a.accepted.invoke_id r
      → WorldStep x.overtake w (Deliver number) served → IsServed x.overtake old c r w served
  suffices before w served run on none number d may q node at can did =
      let f = on_run links apart W x bound readable before asked w first (made_over links apart W x bound readable old n h c s limits r asked a p) run in
      let life = stays links apart W x bound readable old n h c s limits r asked a p f.net (f.lives c on) in
      let o = open_in w f.net f.path f.over life none in
      is_served before w served run f.net f.path (f.lives c on) f.over o.0 number d may q node at can did

pub round_trip_suffices : (W overtake : ℕ) (opening reached : World) → IsFresh opening → IsTimely opening.time.pace → IsBounded W overtake opening
    → (events : List Event) → WorldRun overtake opening events reached → RoundTripSuffices overtake reached
round_trip_suffices W overtake opening reached fresh timely bounded events run c s limits r asked a in_one =
    let links : ℕ → Option Octets = link_at opening.nodes in
    let x : Rules = rules_of overtake opening in
    let bound = rules_bounded W overtake opening bounded in
    let f = on_run links fresh.apart W x bound refl events opening reached (opened_net opening)
    (fresh_over None W overtake opening fresh timely bounded) run in
    let p = accepted_whole (x.settings c) (here_at f.net c) (peer_at a.link) (choice_of r) a.asks.octets a.before.clients a.accepted limits
    (accepted links fresh.apart W x bound refl reached f.net f.over c s limits r asked a)
    (subst (λ (z : Settings). request_way_of z limits a.asks.octets ≡ InOne) (f.over.nodes c a.before a.at).settings in_one) in
    suffices links fresh.apart W x bound refl (stores_of opening.nodes) reached f.net f.over
    (logged_path x Any (opened_net opening) f.net f.path (opened_bounded opening) (λ key t at stays. absurd cc)) c s limits r asked a p.0 p.1
    (λ more w after. headline W overtake opening w fresh timely bounded (events ++ Event.Ask c s limits r ∷ more)
    (run_join overtake events (Event.Ask c s limits r ∷ more) opening reached w run (asked, inl a, after)))
