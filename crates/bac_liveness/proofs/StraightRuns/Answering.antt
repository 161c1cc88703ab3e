-- A straight run answers its ask.
use Rattle.std.specs.Prelude.{None}
use Rattle.std.specs.Option.{option_map}
use Rattle.std.proofs.Common.{◌≡◌, ◌+◌, ◌≤◌, ◌<◌, ◌⊎◌, ℕ, suc, Bool, true, false, List, [], ◌∷◌, ◌++◌, length, Option, Some, slice_get, if◌then◌else◌, ◌&&◌}
use Rattle.std.proofs.Common.{not, nat_eq, Ok, refl, sym, ap, subst, inl, inr, ◌∙◌, arith, append_assoc}
use Rattle.std.proofs.lemmas.Bool.Decides.{nat_tests}
use Rattle.bac_apdu.specs.Apdu.{Limits}
use Rattle.bac_service.specs.Values.{Request, Complex, choice_of}
use Rattle.bac_service.specs.Replies.{Reply}
use Rattle.bac_service.specs.Replies as plain
use Rattle.bac_service.specs.Spellings.{complex_spelling}
use Rattle.bac_service.specs.Requests.{SpellsRequest}
use Rattle.bac_service.specs.Services.{request_at, reads_reply}
use Rattle.bac_service.proofs.Wholes.{request_again, reply_is_read}
use Rattle.bac_segment.specs.Pieces.{join}
use Rattle.bac_store.specs.Stores.{Store}
use Rattle.bac_store.specs.Replies.{reply_to}
use Rattle.bac_store.proofs.ReplyKinds.{replies_fit}
use Rattle.bac_protocol.specs.Context.{Settings}
use Rattle.bac_protocol.specs.Sizes.{request_way_of, reply_way_of}
use Rattle.bac_protocol.specs.Service as machine
use Rattle.bac_protocol.specs.Service.{Octets}
use Rattle.bac_protocol.specs.Service.Outcome.{Replies}
use Rattle.bac_protocol.specs.Client as client
use Rattle.bac_protocol.specs.Client.{Ask}
use Rattle.bac_protocol.specs.Server.{is_none_live}
use Rattle.bac_protocol.specs.Log as machine_log
use Rattle.bac_protocol.specs.Transaction.{Key, Rules, client_context}
use Rattle.bac_protocol.specs.World.{Net, ask_made, asked_at, server_now, is_lost, is_key_held, is_id_held}
use Rattle.bac_protocol.specs.Claims.{IsBounded}
use Rattle.bac_protocol.specs.Pace.{Clock}
use Rattle.bac_protocol.specs.Straight.{IsLike, CanAsk, KindFits, AreStraight, RequestFits, Stops, WayFits, request_count, way_count, way_to, cost}
use Rattle.bac_protocol.specs.Straight as machine_straight
use Rattle.bac_protocol.proofs.Nets.{room_opens}
use Rattle.bac_protocol.proofs.SingleMoves.{in_order}
use Rattle.bac_protocol.proofs.StraightRuns.{machines_answer}
use Rattle.bac_slots.specs.Slots.{value_at}
use Rattle.bac_transaction.specs.Keys.{PeerKey, same_key}
use Rattle.bac_transaction.specs.Sends.{Pairwise}
use Rattle.bac_transaction.specs.Meanings.{Ending, MeansReply}
use Rattle.bac_transaction.specs.Meanings.Ending.{Answered}
use Rattle.bac_transaction.specs.Ends.{Accepted, AskOutcome, requester_ask, is_free}
use Rattle.bac_transaction.specs.Ends.AskOutcome.{Asked}
use Rattle.bac_transaction.specs.Services.{outcome_of, outcome_by}
use Rattle.bac_world.specs.Node.{Node}
use Rattle.bac_world.specs.Once.{Fact, Stores, IsOnce}
use Rattle.bac_world.specs.World.{World, Time, stores_of, told, peer_at}
use Rattle.bac_world.proofs.Pairs.{pairwise_get}
use Rattle.bac_world.proofs.Logs.{FactMeans, performed_as}
use Rattle.bac_world.proofs.Bridge.{here_at, IsCopyOf, key_of, slot_key}
use Rattle.bac_world.proofs.AsEver.{once_after}
use Rattle.bac_world.proofs.Steps.{Over, Goes, stores_same}
use Rattle.bac_world.proofs.Serving.{room_is}
use Rattle.bac_world.proofs.Asking.{IsAccepted, accepted_is, asks_with, free_ticket, key_free}
use Rattle.bac_liveness.specs.StraightRuns.{is_open, DeliverEach, ending_in, IsStraight, key_of_ask, AreOf}
use Rattle.bac_liveness.specs.StraightAnswers.{datagrams, way_between, CanAnswer, IsAnswered}
use Rattle.bac_liveness.proofs.StraightRuns.Posts.{AreOwn, own_none, own_more, own_at}
use Rattle.bac_liveness.proofs.StraightRuns.StoreModels.{Machines, model, outcome_at, after_read}
use Rattle.bac_liveness.proofs.StraightRuns.Delivering.{Fit}
use Rattle.bac_liveness.proofs.StraightRuns.Following.{Followed, follows}
use Rattle.bac_liveness.proofs.StraightRuns.Tickets.{closed_there}
use Rattle.bac_liveness.proofs.StraightRuns.Facts.{three, IsThree, AreFacts, three_more, pairwise_length, facts_are}
use Rattle.bac_liveness.proofs.StraightRuns.Rights.{reply_is}
use Rattle.bac_liveness.proofs.StraightRuns.Reading.{was_performed}
use Rattle.bac_liveness.proofs.StraightRuns.Ways.{asked_goes, way_is, way_fits, counted_so, kind_fits}
use Rattle.bac_liveness.proofs.StraightRuns.Ways as ways

-- octets that mean a reply can be read
means_read : (choice : ℕ) (octets : Octets) (p : Reply) → MeansReply choice (machine.Reply.Complex octets) p → reads_reply choice octets ≡ true
means_read choice octets plain.Reply.Simple h = absurd h
means_read choice octets (plain.Reply.Complex c) h = reply_is_read choice octets (record { complex = c; spelled = h })
means_read choice octets (plain.Reply.Error class code) h = absurd h
means_read choice octets (plain.Reply.Reject reason) h = absurd h

equal_self : (k : ℕ) → nat_eq k k ≡ true
equal_self k = grind (arith, nat_tests)

-- The run as one of the machines.
module _ (links : ℕ → Option Octets) (apart : (i j : ℕ) (l : Octets) → links i ≡ Some l → links j ≡ Some l → i ≡ j) (W : ℕ) (x : Rules)
    (bound : IsBounded W x) (readable : x.readable ≡ reads_reply) (opening : Stores) (w : World) (n : Net) (h : Over links apart W x None w n)
    (once : IsOnce opening w.log (stores_of w.nodes)) (i s : ℕ) (limits : Limits) (r : Request) (ending : Option Ending) (count : ℕ) (new : World)
    (run : IsStraight x.overtake w i s limits r ending count new) (b : Node) (there : slice_get w.nodes s ≡ Some b) where
  abbrev a : Node
  a = run.asks.before

  abbrev p : Reply
  p = reply_to b.store r

  client_set : a.settings ≡ x.settings i
  client_set = (h.nodes i a run.asks.at).settings

  server_set : b.settings ≡ x.settings s
  server_set = (h.nodes s b there).settings

  client_at : links i ≡ Some a.link
  client_at = (h.nodes i a run.asks.at).link

  server_at : links s ≡ Some run.asks.link
  server_at = sym (h.linked s) ∙ run.asks.peer

  asks_so : requester_ask (x.settings i) (here_at n i) (peer_at run.asks.link) limits (choice_of r) run.asks.asks.octets a.clients ≡ Asked run.asks.accepted
  asks_so =
      let by : Settings → ℕ → AskOutcome = λ c now. requester_ask c now (peer_at run.asks.link) limits (choice_of r) run.asks.asks.octets a.clients in
      (λ d. by (sym client_set d) (h.here i d).shows) ∙ run.asks.asks.accepted

  parts : IsAccepted (x.settings i) (here_at n i) (peer_at run.asks.link) (choice_of r) run.asks.asks.octets a.clients run.asks.accepted
  parts = accepted_is (x.settings i) (here_at n i) (peer_at run.asks.link) (choice_of r) run.asks.asks.octets a.clients run.asks.accepted limits asks_so

  abbrev key : Key
  key = key_of i s parts.id

  abbrev pieces : List Octets
  pieces = parts.front ∷ parts.rest

  abbrev ask : Ask
  ask = record { first = here_at n i; choice = choice_of r; whole = parts.whole; pieces = pieces }

  went : Goes links apart W x None w run.asked (asked_at x n key ask)
  went = asks_with links apart W x None bound w run.asked n h i s limits r run.asks server_at parts

  free : (not (is_lost n key) && is_key_held (here_at n i) (n.tickets key)) ≡ false
  free = free_ticket (is_lost n key) (here_at n i) w.notes i (n.numbers key) (value_at same_key (slot_key run.asks.link parts.id) a.clients.slots)
      (n.tickets key)
      ((h.nodes i a run.asks.at).clients.found s run.asks.link parts.id server_at) parts.free

  unheld : is_id_held n key ≡ false
  unheld = key_free n key a.clients (h.nodes i a run.asks.at).asks parts.awake free

  abbrev v0 : Machines
  v0 = record { net = n; stores = stores_of w.nodes }

  abbrev v1 : Machines
  v1 = ask_made (Option Store) x v0 key ask

  spelled : SpellsRequest (choice_of r) r (join pieces)
  spelled = subst (SpellsRequest (choice_of r) r) (sym parts.joined) run.asks.asks.spelled

  read : request_at (choice_of r) (join pieces) ≡ Ok r
  read = request_again (choice_of r) (join pieces) r spelled

  two : i ≡ s → ⊥
  two same =
      let e : Some run.asks.link ≡ Some a.link = sym server_at ∙ sym (ap links same) ∙ client_at in
      run.asks.asks.foreign cc

  store_at : stores_of w.nodes s ≡ Some b.store
  store_at = ap (λ (y : Option Node). option_map (λ (m : Node). m.store) y) there

  fit : Fit links apart W x bound readable opening run.asked v1
  fit = record {
    over = went.bridge;
    once = once_after opening w.log run.asked.log (stores_of w.nodes) (stores_of run.asked.nodes) (went.once opening) once;
    stores = λ j. sym (stores_same w.nodes run.asked.nodes i a run.asks.after run.asks.nodes run.asks.at (ap (λ (d : Node). d.store) run.asks.asks.node) j);
  }

  own : AreOwn n.posts key v1.net.posts
  own = own_more n.posts key n.posts (own_none n.posts key) n.now (client.sends_of (client.asks (client_context x key (here_at n i)) ask))

  counted : length n.posts ≡ length w.copies
  counted = pairwise_length _ n.posts w.copies h.posts

  key_is : key_of_ask w i s limits r run.asked run.asks ≡ slot_key run.asks.link key.invoke_id
  key_is = λ d. slot_key run.asks.link ((parts.is d).invoke_id)

  followed : (has_slot : Bool) → (has_slot ≡ true → is_free (told w s) b.servers ≡ true)
      → Followed links apart W x bound readable opening run.asked new v1 n.posts key has_slot count (length n.posts)
  followed has_slot slot = follows links apart W x bound readable opening n.posts key two run.asks.link server_at count (length n.posts) run.asked new
      v1 fit own (omega arith)
      (subst (λ (k : ℕ). DeliverEach x.overtake i (slot_key run.asks.link key.invoke_id) count k run.asked new) (sym counted)
      (subst (λ (q : PeerKey). DeliverEach x.overtake i q count (length w.copies) run.asked new) key_is run.delivers))
      has_slot
      (λ e. (b, run.asks.nodes.others s (λ same. two (sym same)) ∙ there, ap (λ (t : Time). is_free (t.clocks s).shows b.servers) run.asks.time ∙ slot e))

  -- what arises is the ask's
  pub copies_own : AreOf (key_of i s run.asks.accepted.invoke_id) (length w.copies) new.copies
  copies_own number c le at =
      let f = followed false (λ e. absurd cc) in
      let q = pairwise_get (IsCopyOf links apart) f.end.net.posts new.copies number c f.fit.over.posts at in
      let k = counted in
      q.goes.key
      ∙ own_at n.posts key f.end.net.posts f.own number q.other (omega arith) q.there
      ∙ sym (ap (λ (y : Accepted). key_of i s y.invoke_id) parts.is)

  -- it stops where the run does
  stops : (end : Machines) → Fit links apart W x bound readable opening new end → Stops (Option Store) key (length n.posts + count) end
  stops end f = go run.stops
    where
      go : ((is_open new i (key_of_ask w i s limits r run.asked run.asks) ≡ false) ⊎ (length new.copies ≤ length w.copies + count))
          → Stops (Option Store) key (length n.posts + count) end
      go (inl e) = inl (closed_there links apart W x new end.net f.over key run.asks.link server_at a.link client_at
          (subst (λ (q : PeerKey). is_open new i q ≡ false) key_is e))
      go (inr e) = inr (let all = pairwise_length _ end.net.posts new.copies f.over.posts in let c = counted in omega arith)

  -- Where it can be answered.
  module _ (can : CanAnswer x.overtake (told w s) a b r) (m : machine.Reply) (says : outcome_of p ≡ Replies m) where
    way_so : way_to x key m ≡ way_between a.settings b.settings p
    way_so = (λ d. reply_way_of (sym server_set d) (sym client_set d).limits m) ∙ way_is a.settings b.settings p m says

    way_goes : WayFits (way_to x key m)
    way_goes = subst WayFits (sym way_so) (way_fits a.settings b.settings p can.goes can.short)

    goes : ways.Goes (x.settings i) (here_at n i) (peer_at run.asks.link) a.clients run.asks.accepted
        (request_way_of (x.settings i) limits run.asks.asks.octets)
    goes = asked_goes (x.settings i) (here_at n i) (peer_at run.asks.link) a.clients run.asks.accepted limits (choice_of r) run.asks.asks.octets asks_so

    ask_so : run.asks.accepted.ask ≡ ask
    ask_so = ap (λ (y : Accepted). y.ask) parts.is

    request_fits : RequestFits parts.whole pieces
    request_fits = subst (λ (y : Ask). RequestFits y.whole y.pieces) ask_so goes.fits

    request_counted : request_count parts.whole pieces ≡ datagrams (request_way_of a.settings limits run.asks.asks.octets)
    request_counted = ap (λ (y : Ask). request_count y.whole y.pieces) (sym ask_so) ∙ goes.counted
        ∙ ap (λ (c : Settings). datagrams (request_way_of c limits run.asks.asks.octets)) (sym client_set)

    outcome : outcome_at (stores_of w.nodes s) (choice_of r) (join pieces) ≡ Replies m
    outcome = ap (λ (y : Option Store). outcome_at y (choice_of r) (join pieces)) store_at ∙ ap (outcome_by b.store) read ∙ says

    good : AreStraight x key
    good = record {
      client = subst (λ (y : Settings). 0 < y.window) client_set (let k = can.client_window in omega arith);
      server = subst (λ (y : Settings). 0 < y.window) server_set (let k = can.server_window in omega arith);
      small = let few = bound.windows i in let room = bound.room in omega arith;
      room = subst (λ (y : Settings). y.window ≤ x.overtake) client_set can.room;
    }

    f : Followed links apart W x bound readable opening run.asked new v1 n.posts key true count (length n.posts)
    f = followed true (λ e. can.slot)

    abbrev end : Machines
    end = f.end

    dead : is_none_live (server_now n key) (n.entries key) ≡ true
    dead = (in_order W x bound h.sound.0 h.sound.2 h.sound.1 n h.sound.3).dead key unheld

    serving : n.serves_from key.server ≤ server_now n key
    serving = room_opens n key (is_free (server_now n key) b.servers)
        (room_is n key b.servers (h.nodes s b there).serves ∙ ap (λ (c : Clock). is_free c.shows b.servers) (h.there s) ∙ can.slot)

    -- the request is performed, so its reply can be read
    reads : (c : Complex) → m ≡ machine.Reply.Complex (complex_spelling c) → x.readable (choice_of r) (complex_spelling c) ≡ true
    reads c is =
        let has = was_performed (Option Store) model x v0 key good
        (choice_of r) parts.front parts.rest m dead outcome way_goes serving parts.whole request_fits count
        end f.run (stops end f.fit) in
        let was = performed_as None n.asks (record { choice = choice_of r; service = join pieces }) m end.net.log new.log f.fit.over.log has in
        ap (λ (y : machine.Readable). y (choice_of r) (complex_spelling c)) readable
        ∙ means_read (choice_of r) (complex_spelling c) was.reply (subst (λ (y : machine.Reply). MeansReply (choice_of r) y was.reply) is was.means)

    module _ (kind : KindFits x.readable (choice_of r) m) where
      can_ask : CanAsk (Option Store) model x v0 key (choice_of r) parts.whole pieces m
      can_ask = record {
        free = unheld;
        serving = serving;
        dead = dead;
        request = request_fits;
        outcome = outcome;
        kind = kind;
        way = way_goes;
      }

      answered_so : machine_straight.IsAnswered (Option Store) model x key (record { choice = choice_of r; service = join pieces }) m
          (request_count parts.whole pieces) count v0 end
      answered_so = machines_answer (Option Store) model x key good v0 (choice_of r) parts.whole parts.front parts.rest m can_ask v1
          (inl (subst (λ (y : Machines). IsLike (Option Store) key v1 y) (sym (ap (λ b'. if b' then v0 else v1) unheld))
          (record {
            moment = refl;
            client = refl;
            server = refl;
            asks = refl;
            number = refl;
            ticket = refl;
            entry = refl;
            posts = refl;
            stores = refl;
            log =
                refl;
            serves = refl;
          })))
          count end f.run (stops end f.fit)

      abbrev asked_octets : machine.Request
      asked_octets = record { choice = choice_of r; service = join pieces }

      abbrev machine_facts : List machine_log.Fact
      machine_facts = machine_log.Fact.Ended n.asks (machine.Ending.Answered m) ∷ machine_log.Fact.Performed n.asks asked_octets m
          ∷ machine_log.Fact.Asked n.asks i s asked_octets ∷ n.log

      log_means : Pairwise (FactMeans None) machine_facts new.log
      log_means = subst (λ lg. Pairwise (FactMeans None) lg new.log) answered_so.log f.fit.over.log

      log_three : IsThree w.log new.log
      log_three =
          let more = f.grows in
          three_more w.log new.log (more.0 ++ (Fact.Asked (length w.notes) i s r ∷ []))
          (more.1 ∙ ap (λ l. more.0 ++ l) run.asks.log ∙ sym (append_assoc more.0 (Fact.Asked (length w.notes) i s r ∷ []) w.log))
          (let e : suc (suc (suc (length n.log))) ≡ length new.log = pairwise_length (FactMeans None) machine_facts new.log log_means in
          let g : length n.log ≡ length w.log = pairwise_length (FactMeans None) n.log w.log h.log in omega arith)

      abbrev with_reply : ℕ → Reply → List Fact
      with_reply k y = three (Fact.Ended k (Answered y)) (Fact.Performed k r y) (Fact.Asked k i s r) w.log

      means : Pairwise (FactMeans None) machine_facts (three log_three.first log_three.second log_three.third w.log)
      means = subst (Pairwise (FactMeans None) machine_facts) log_three.is log_means

      facts : AreFacts opening (stores_of new.nodes) n.asks i s (choice_of r) (join pieces) r spelled m w.log log_three.first log_three.second log_three.third
      facts = facts_are opening (stores_of new.nodes) n.asks i s (choice_of r) (join pieces) r spelled m w.log log_three.first log_three.second log_three.third
          means.0 means.1.0 means.1.1.0 (subst (λ (l : List Fact). IsOnce opening l (stores_of new.nodes)) log_three.is f.fit.once)

      log_so : new.log ≡ with_reply n.asks facts.reply'
      log_so = log_three.is ∙ facts.is

      right : IsOnce opening (with_reply n.asks facts.reply') (stores_of new.nodes)
      right = subst (λ (l : List Fact). IsOnce opening l (stores_of new.nodes)) log_so f.fit.once

      reply_so : facts.reply' ≡ p
      reply_so = reply_is opening n.asks i s r facts.reply' w.log right.0 (stores_of w.nodes) b.store right.2 once store_at

      log_is : new.log ≡ with_reply (length w.notes) p
      log_is = log_so ∙ ap (with_reply n.asks) reply_so ∙ ap (λ (k : ℕ). with_reply k p) h.asks

      cheap : count ≤ cost (datagrams (request_way_of a.settings limits run.asks.asks.octets)) (datagrams (way_between a.settings b.settings p))
      cheap = subst (λ (k : ℕ). count ≤ cost (datagrams (request_way_of a.settings limits run.asks.asks.octets)) k)
          (ap way_count way_so ∙ counted_so (way_between a.settings b.settings p) can.goes)
          (subst (λ (k : ℕ). count ≤ cost k (way_count (way_to x key m))) request_counted answered_so.cheap)

      answered_by : IsAnswered w i s r b.store (datagrams (request_way_of a.settings limits run.asks.asks.octets))
          (datagrams (way_between a.settings b.settings p)) ending count new
      answered_by = record {
        ending_is = run.ending_is ∙ ap (ending_in (length w.notes)) log_is
            ∙ ap (λ b'. if b' then Some (Answered p) else ending_in (length w.notes) w.log) (equal_self (length w.notes));
        log = log_is;
        stores = λ j. sym (f.fit.stores j) ∙ answered_so.stores j
            ∙ ap (λ (y : Option Store). if nat_eq j s then y else stores_of w.nodes j)
            (ap (λ (y : Option Store). after_read y (request_at (choice_of r) (join pieces))) store_at ∙ ap (after_read (Some b.store)) read);
        time = f.time ∙ run.asks.time;
        cheap = cheap;
      }

    pub answered : IsAnswered w i s r b.store (datagrams (request_way_of a.settings limits run.asks.asks.octets))
        (datagrams (way_between a.settings b.settings p)) ending count new
    answered = answered_by (kind_fits x.readable (choice_of r) p m says (replies_fit b.store r) reads)
