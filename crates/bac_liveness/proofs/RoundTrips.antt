-- One round trip suffices.
use Rattle.std.proofs.Common.{◌≡◌, ℕ, ◌-◌, ◌≤◌, ◌⊎◌, Bool, true, false, List, [], ◌∷◌, Option, Some, None, nat_lt, ◌&&◌, not, refl, sym, ap, subst, inl, inr}
use Rattle.std.proofs.Common.{◌∙◌, arith}
use Rattle.std.proofs.lemmas.Bool.Decides.{nat_tests}
use Rattle.bac_apdu.specs.Apdu.{Apdu}
use Rattle.bac_apdu.specs.Apdu.Apdu.{ComplexAck}
use Rattle.bac_segment.specs.Window.{Outgoing}
use Rattle.bac_segment.specs.Pieces.{join}
use Rattle.bac_protocol.specs.declared.times.TheConstants.{DEADLINE}
use Rattle.bac_protocol.specs.Service.{Octets, Reply, Reply as reply}
use Rattle.bac_protocol.specs.Wire.{is_from_client}
use Rattle.bac_protocol.specs.Service.Ending.{Answered}
use Rattle.bac_protocol.specs.Client as client
use Rattle.bac_protocol.specs.Client.{Ask, Phase, ClientTransaction, is_idle, is_expired}
use Rattle.bac_protocol.specs.Client.Phase.{SegmentedRequest, AwaitConfirmation, SegmentedConf, Idle}
use Rattle.bac_protocol.specs.Client.Reaction.{Ends}
use Rattle.bac_protocol.specs.Server as server
use Rattle.bac_protocol.specs.Server.{State, ServerTransaction}
use Rattle.bac_protocol.specs.Server.State.{Done}
use Rattle.bac_protocol.specs.Log.{Fact, Has, StoreModel}
use Rattle.bac_protocol.specs.Log.Fact.{Performed, Ended}
use Rattle.bac_protocol.specs.Transaction.{Key, Rules, client_context, server_context, performed}
use Rattle.bac_protocol.specs.World.{Net, World, Event, is_room, takes_at_client, reacts, serves, service_of, happens, run, start, client_now, server_now}
use Rattle.bac_protocol.specs.World.Event.{Deliver}
use Rattle.bac_protocol.specs.Claims.{IsBounded, WasPerformed, Moments, moments_of}
use Rattle.bac_protocol.specs.Straight.{is_ended}
use Rattle.bac_protocol.specs.Pace.{Pace, IsTimely}
use Rattle.bac_protocol.proofs.Alone.{one}
use Rattle.bac_protocol.proofs.Sound.{Up, Down, Says, ClientFits, StateFits, ServerFits, IsBegunFor, IsKeptFor, Sound, IsTimed}
use Rattle.bac_protocol.proofs.Sound.Down.{Unsent, Sent}
use Rattle.bac_protocol.proofs.Nets.{NetSound, sound_at}
use Rattle.bac_protocol.proofs.Headline.{Kept, run_kept, event_kept, start_kept}
use Rattle.bac_protocol.proofs.Keys.{set_same}
use Rattle.bac_protocol.proofs.Paces.{since_now}
use Rattle.bac_liveness.specs.Runs.{IsOnItsWay, StaysSince}
use Rattle.bac_liveness.specs.RoundTrip.{request_to, segment_to, answer_to, FitsInOne, CanPerform, HasPerformed, IsOpenInTime, IsAnsweredNow, IsServed}
use Rattle.bac_liveness.specs.RoundTrip.{RoundTripSuffices}
use Rattle.bac_liveness.proofs.Paths.{Path, Bounded, WasMadeIn, bounded_start, path_bounded, path_stays, was_made_path, event_steps, some_is, Any, run_steps}
use Rattle.bac_liveness.proofs.Endings.{request_now, answer_now}
use Rattle.bac_liveness.proofs.Serving.{answer_any_time, answer_not_from_client, answer_ends, answer_ends_sending, performed_entry, answers_first}
use Rattle.bac_liveness.proofs.Serving.{answers_again, serves_new, serves_again, serves_segment}
use Rattle.bac_liveness.proofs.Clocks.{MadeIn, BegunIn, alive, here_path}
use Rattle.bac_liveness.proofs.Kept.{IsKept}
use Rattle.bac_liveness.proofs.Awaiting.{IsWhole, Awaits, IsAwaited, awaited_path}

-- a ticket that sends segments has sent the last one (SentAllSegments of clause 5.4.4.2)
abbrev pub HasSentAll : Phase → Type 0
HasSentAll (SegmentedRequest out all_sent) = all_sent ≡ true
HasSentAll AwaitConfirmation = Unit {0}
HasSentAll (SegmentedConf inc) = Unit {0}
HasSentAll Idle = Unit {0}

-- a ticket takes an answer of one APDU: it waits for it, or has sent all segments
abbrev pub TakesAnswer : Phase → Type 0
TakesAnswer phase = (phase ≡ AwaitConfirmation) ⊎ ((out : Outgoing) × (phase ≡ SegmentedRequest out true))

-- where an entry is done for an ask, its ticket waits for the answer, or is over
awaits : (W number : ℕ) (ask : Ask) (kept : Apdu) (phase : Phase) (up : Up) (down : Down) (log : List Fact) → HasSentAll phase
    → ClientFits W ask phase up down → StateFits W number ask (Done kept) up down log → Awaits phase
awaits W number ask kept AwaitConfirmation up down log all c s = tt
awaits W number ask kept (SegmentedRequest out b) up down log all c s = all
awaits W number ask kept (SegmentedConf inc) up Unsent log all c s = absurd c
awaits W number ask kept (SegmentedConf inc) up (Sent ps t n) log all c s = absurd s
awaits W number ask kept Idle up down log all c s = tt

-- and takes it, where it is open
pub takes_awaited : (phase : Phase) → is_idle phase ≡ false → Awaits phase → TakesAnswer phase
takes_awaited AwaitConfirmation going h = inl refl
takes_awaited (SegmentedRequest out b) going h = inr (out, ap (λ (d : Bool). SegmentedRequest out d) h)
takes_awaited (SegmentedConf inc) going h = absurd h
takes_awaited Idle going h = absurd cc

-- then no segment of a reply may arrive
said_whole : (W : ℕ) (times : Moments) (number m k : ℕ) (ask : Ask) (kept : Apdu) (up : Up) (down : Down) (log : List Fact)
    → StateFits W number ask (Done kept) up down log
    → (a : Apdu) → Says W times number ask log up down m k a → IsWhole a
said_whole W times number m k ask kept up Unsent log s (ComplexAck id (Some g) choice o) h = absurd h.1
said_whole W times number m k ask kept up (Sent ps t n) log s (ComplexAck id (Some g) choice o) h = absurd s
said_whole W times number m k ask kept up down log s _ h = tt

pub answer_whole : (x : Rules) (key : Key) (ask : Ask) (p : Reply) → IsWhole (answer_to x key ask p)
answer_whole x key ask reply.Simple = tt
answer_whole x key ask (reply.Complex o) = tt
answer_whole x key ask (reply.Error class code) = tt

-- that of a request of one APDU sends no segments
whole_sends_all : (W : ℕ) (ask : Ask) (phase : Phase) (up : Up) (down : Down) → ask.whole ≡ true → ClientFits W ask phase up down → HasSentAll phase
whole_sends_all W ask (SegmentedRequest out b) up down whole c = let cut = c.in_pieces in absurd cc
whole_sends_all W ask AwaitConfirmation up down whole c = tt
whole_sends_all W ask (SegmentedConf inc) up down whole c = tt
whole_sends_all W ask Idle up down whole c = tt

reply_was : (x : Rules) (key : Key) (number m choice : ℕ) (ask : Ask) (log : List Fact) (p : Reply)
    → IsKeptFor number ask (server.reply_apdu (server_context x key m) choice p) log → WasPerformed number ask p log
reply_was x key number m choice ask log reply.Simple h = h.0
reply_was x key number m choice ask log (reply.Complex o) h = h.0
reply_was x key number m choice ask log (reply.Error class code) h = h.0

kept_was : (W number : ℕ) (ask : Ask) (kept : Apdu) (up : Up) (down : Down) (log : List Fact) → StateFits W number ask (Done kept) up down log
    → IsKeptFor number ask kept log
kept_was W number ask kept up Unsent log s = s.1
kept_was W number ask kept up (Sent ps t n) log s = absurd s

-- what is known of a ticket in a net that was reached
abbrev pub SoundIn : ℕ → Net → Key → ClientTransaction → Up → Down → Type 0
SoundIn W n key t up down = Sound W (n.pieces key) key (moments_of n key) n.asks (n.numbers key) t (n.entries key) (one n key).copies n.log up down

-- an entry that is live, or was begun since the ask was made, was begun for it
begun_in : (W : ℕ) (n : Net) (key : Key) (t : ClientTransaction) (up : Up) (down : Down) → SoundIn W n key t up down → (e : ServerTransaction)
    → n.entries key ≡ Some e
    → (server.is_live (server_now n key) e ≡ true) → IsBegunFor W (moments_of n key) (n.numbers key) t.ask e up down n.log
begun_in W n key t up down s e at when = go (subst (λ (o : Option ServerTransaction). ServerFits W (moments_of n key)
    (n.numbers key) t.ask o up down n.log) at s.server) when
  where
    go : ServerFits W (moments_of n key) (n.numbers key) t.ask (Some e) up down n.log → (server.is_live (server_now n key) e ≡ true)
        → IsBegunFor W (moments_of n key) (n.numbers key) t.ask e up down n.log
    go (inr begun) y = begun
    go (inl past) live = let d = past.dead in absurd (grind (arith, nat_tests))

-- an answer ends a ticket that takes it
pub takes_ends : (x : Rules) (now : ℕ) (key : Key) (t : ClientTransaction) (p : Reply) → TakesAnswer t.phase → now - t.ask.first ≤ DEADLINE
    → FitsInOne x key t.ask p
    → client.client_on_apdu (client_context x key now) x.readable t (answer_to x key t.ask p) ≡ Ends [] (Answered p)
takes_ends x now key t p phase young fits = go phase
  where
    in_time : is_expired now t.ask ≡ false
    in_time = grind (arith, nat_tests)

    go : TakesAnswer t.phase → client.client_on_apdu (client_context x key now) x.readable t (answer_to x key t.ask p) ≡ Ends [] (Answered p)
    go (inl a) = answer_ends (client_context x key now) (server_context x key t.ask.first) x.readable t p a in_time fits.kind
    go (inr o) = answer_ends_sending (client_context x key now) (server_context x key t.ask.first) x.readable t p o.0 o.1 in_time fits.kind

-- in a net in which an entry is done for an ask, whose ticket is there, the ticket waits for the answer, once it has sent all
pub awaited_at : (W : ℕ) (x : Rules) (key : Key) (ask : Ask) (number begin : ℕ) (p : Reply) (made : ℕ) (n : Net) → NetSound W n
    → (h : IsKept x Any key number ask made begin (answer_to x key ask p) n) → client_now n key - ask.first ≤ DEADLINE → (ask.whole ≡ true)
    ⊎ HasSentAll h.there.ticket.phase
    → IsAwaited x Any key number ask made (answer_to x key ask p) (answer_whole x key ask p) n
awaited_at W x key ask number begin p made n s h young ready = record {
  there = h.there;
  phase = go ready;
  copies = λ k c at young. said_whole W (moments_of n key) (n.numbers key) c.moment k h.there.ticket.ask
      (answer_to x key ask p) known.0 known.1 n.log done c.apdu
      ((known.2).arriving k c at young).1;
  entry = inl (record { entry = h.entry; at = h.at; since = subst (λ (b : ℕ). BegunIn n key made b) (sym h.begun) h.since; state = h.state });
  runs = h.runs;
}
  where
    known : (up : Up) × (down : Down) × SoundIn W n key h.there.ticket up down
    known = sound_at W n key (Some h.there.ticket) h.there.at s

    first_is : h.there.ticket.ask.first ≡ ask.first
    first_is = ap (λ (a : Ask). a.first) h.there.is

    begun : IsBegunFor W (moments_of n key) (n.numbers key) h.there.ticket.ask h.entry known.0 known.1 n.log
    begun = begun_in W n key h.there.ticket known.0 known.1 known.2 h.entry h.at
        (alive n.pace n.now (n.client_clocks key.client) (n.server_clocks key.server) (n.restarted key.client) ask.first made h.runs (omega arith) h.entry
        (subst (λ (b : ℕ). BegunIn n key made b) (sym h.begun) h.since))

    done : StateFits W (n.numbers key) h.there.ticket.ask (Done (answer_to x key ask p)) known.0 known.1 n.log
    done = subst (λ (st : State). StateFits W (n.numbers key) h.there.ticket.ask st known.0 known.1 n.log) h.state begun.state

    by : HasSentAll h.there.ticket.phase → Awaits h.there.ticket.phase
    by all = awaits W (n.numbers key) h.there.ticket.ask (answer_to x key ask p) h.there.ticket.phase known.0 known.1 n.log all (known.2).client done

    go : (ask.whole ≡ true) ⊎ HasSentAll h.there.ticket.phase → Awaits h.there.ticket.phase
    go (inl whole) = by (whole_sends_all W h.there.ticket.ask h.there.ticket.phase known.0 known.1 (ap (λ (a : Ask). a.whole) h.there.is ∙ whole)
        (known.2).client)
    go (inr all) = by all

-- a free slot of a server that does not wait
pub room_is : {S : Type 0} (w : World S) (key : Key) (free : Bool) → free ≡ true → w.net.serves_from key.server ≤ server_now w.net key
    → is_room w.net key free ≡ true
room_is w key free slot serving =
    let waits : nat_lt (server_now w.net key) (w.net.serves_from key.server) ≡ false = grind (arith, nat_tests) in λ i. slot i && not (waits i)

module _ (S : Type 0) (model : StoreModel S) (opening : ℕ → S) (W : ℕ) (x : Rules) (bound : IsBounded W x) where
  -- what is known of a ticket in a world that was reached
  abbrev pub SoundWith : World S → Key → ClientTransaction → Up → Down → Type 0
  SoundWith w key t up down = SoundIn W w.net key t up down

  pub sound : (w : World S) → Kept S model opening W x bound w → (key : Key) (t : ClientTransaction) → w.net.tickets key ≡ Some t
      → (up : Up) × (down : Down) × SoundWith w key t up down
  sound w s key t at = sound_at W w.net key (Some t) at s.stands.net

  pub begun_for : (w : World S) (key : Key) (t : ClientTransaction) (up : Up) (down : Down) → SoundWith w key t up down → (e : ServerTransaction)
      → w.net.entries key ≡ Some e
      → (server.is_live (server_now w.net key) e ≡ true) → IsBegunFor W (moments_of w.net key) (w.net.numbers key) t.ask e up down w.net.log
  begun_for w key t up down s e at when = begun_in W w.net key t up down s e at when

  -- an answer on its way ends a ticket that takes it
  ends : (v : World S) (key : Key) (t : ClientTransaction) (p : Reply) (number : ℕ) (free : Bool) → IsOnItsWay x v.net key (answer_to x key t.ask p) number
      → v.net.tickets key ≡ Some t → TakesAnswer t.phase → client_now v.net key - t.ask.first ≤ DEADLINE → FitsInOne x key t.ask p
      → happens S model x v (Deliver number free) ≡ reacts S v key t (Ends [] (Answered p))
  ends v key t p number free m at phase young fits =
      answer_now S model x v key (answer_to x key t.ask p) number free (answer_not_from_client (server_context x key t.ask.first) t.ask.choice p) m
      ∙ ap (takes_at_client S x v key (answer_to x key t.ask p)) at
      ∙ ap (reacts S v key t) (takes_ends x (client_now v.net key) key t p phase young fits)

  -- where a live entry keeps the answer to an ask that is in time, its ticket has sent all segments
  abbrev pub SendsAll : Key → Ask → Reply → World S → Type 0
  SendsAll key ask p v =
      (t : ClientTransaction) → v.net.tickets key ≡ Some t → t.ask ≡ ask → client_now v.net key - ask.first ≤ DEADLINE
      → (e : ServerTransaction) → v.net.entries key ≡ Some e → server.is_live (server_now v.net key) e ≡ true → e.state ≡ Done (answer_to x key ask p)
      → HasSentAll t.phase

  -- from a world in which an entry is done for an ask, whose ticket is there
  module _ (key : Key) (ask : Ask) (number begin : ℕ) (p : Reply) (made : ℕ) (fits : FitsInOne x key ask p) where
    abbrev KeptIn : World S → Type 0
    KeptIn u = IsKept x Any key number ask made begin (answer_to x key ask p) u.net

    answered : (u : World S) → Kept S model opening W x bound u → Bounded u.net → WasMadeIn u.net key made → (StaysSince u.net key made → KeptIn u) → (ask.whole ≡ true)
        ⊎ SendsAll key ask p u
        → (events : List Event) → (let v = run S model x events u in StaysSince v.net key made → IsOpenInTime v.net key ask
        → (k : ℕ) → IsOnItsWay x v.net key (answer_to x key ask p) k → (free : Bool)
        → IsAnsweredNow S key number p v (happens S model x v (Deliver k free)))
    answered u s b was kept_since ready events stays o k m free = record {
      log = ap (λ (y : World S). y.net.log) path ∙ ap (λ (n : ℕ). Ended n (Answered p) ∷ v.net.log) there.there.number_is;
      over = ap (λ (y : World S). is_ended (y.net.tickets key)) path
          ∙ ap is_ended (set_same v.net.tickets key (Some (client.after v.net.now there.there.ticket (Ends [] (Answered p)))));
    }
      where
        v : World S
        v = run S model x events u

        on : Path x Any u.net v.net
        on = run_steps x S model events u b

        stays_u : StaysSince u.net key made
        stays_u = path_stays x Any u.net v.net on b key made was stays

        h : KeptIn u
        h = kept_since stays_u

        early : client_now u.net key - ask.first ≤ DEADLINE
        early = let later = here_path x Any key ask.first made u.net v.net on b stays h.runs in let y = o.in_time in omega arith

        is_ready : (ask.whole ≡ true) ⊎ SendsAll key ask p u → (ask.whole ≡ true) ⊎ HasSentAll h.there.ticket.phase
        is_ready (inl whole) = inl whole
        is_ready (inr all) = inr (all h.there.ticket h.there.at h.there.is early h.entry h.at
            (alive u.net.pace u.net.now (u.net.client_clocks key.client) (u.net.server_clocks key.server) (u.net.restarted key.client) ask.first made h.runs
            (let y = early in omega arith) h.entry
            (subst (λ (b : ℕ). BegunIn u.net key made b) (sym h.begun) h.since)) h.state)

        there : IsAwaited x Any key number ask made (answer_to x key ask p) (answer_whole x key ask p) v.net
        there = awaited_path x Any key number ask made (answer_to x key ask p) (answer_whole x key ask p) u.net v.net on b
            (awaited_at W x key ask number begin p made u.net s.stands.net h early (is_ready ready)) stays o.in_time

        same : o.ticket ≡ there.there.ticket
        same = some_is o.ticket there.there.ticket (sym o.at ∙ there.there.at)

        path : happens S model x v (Deliver k free) ≡ reacts S v key there.there.ticket (Ends [] (Answered p))
        path = ends v key there.there.ticket p k free
            (subst (λ (a : Ask). IsOnItsWay x v.net key (answer_to x key a p) k) (sym there.there.is) m) there.there.at
            (takes_awaited there.there.ticket.phase (subst (λ (t : ClientTransaction). is_idle t.phase ≡ false) same o.going) there.phase)
            (subst (λ (a : Ask). client_now v.net key - a.first ≤ DEADLINE) (sym there.there.is) o.in_time)
            (subst (λ (a : Ask). FitsInOne x key a p) (sym there.there.is) fits)

  -- a delivery performs the request, or finds it performed
  module _ (w : World S) (s : Kept S model opening W x bound w) (bounded : Bounded w.net) (key : Key) (t : ClientTransaction) (at : w.net.tickets key ≡ Some t)
      (p : Reply)
      (fits : FitsInOne x key t.ask p) where
    runs_in : IsTimed (moments_of w.net key) t.ask.first → StaysSince w.net key (w.net.made key) → MadeIn w.net key t.ask.first (w.net.made key)
    runs_in c stays = record {
      timely = c.timely;
      sent = bounded.sends key t at;
      client_told = c.client;
      server_told = c.server;
      stays = stays;
      since = (c.counts stays).since;
    }

    was_made : WasMadeIn w.net key (w.net.made key)
    was_made = record { by_now = bounded.made key; sent = bounded.sends key t at }

    begun_now : IsTimed (moments_of w.net key) t.ask.first → BegunIn w.net key (w.net.made key) (server_now w.net key)
    begun_now c = record {
      began = w.net.now;
      after = c.on;
      since = since_now w.net.pace w.net.now (w.net.server_clocks key.server) c.server;
    }

    -- an entry is done, and its answer was sent
    served_by : (e : ServerTransaction) (effect : Option server.Effect) → e.state ≡ Done (answer_to x key t.ask p) → BegunIn w.net key (w.net.made key) e.begin
        → Has (Performed (w.net.numbers key) (client.request_of t.ask) p) (performed (w.net.numbers key) effect w.net.log)
        → (number : ℕ) (free : Bool) → (t.ask.whole ≡ true) ⊎ SendsAll key t.ask p (happens S model x w (Deliver number free))
        → happens S model x w (Deliver number free)
        ≡ serves S model w key (record { entry = Some e; sends = answer_to x key t.ask p ∷ []; effect = effect })
        → IsServed S model x key t.ask p w (happens S model x w (Deliver number free))
    served_by e effect state since has number free ready path = record {
      performed = subst (λ (y : World S). Has (Performed (w.net.numbers key) (client.request_of t.ask) p) y.net.log) (sym path) has;
      sent = ap (λ (y : World S). y.net.posts) path;
      answered = answered key t.ask (w.net.numbers key) e.begin p (w.net.made key) fits u (event_kept S model opening W x bound w s (Deliver number free))
          (path_bounded x Any w.net u.net to_u bounded) (was_made_path x Any w.net u.net to_u key (w.net.made key) was_made) kept ready;
    }
      where
        u : World S
        u = happens S model x w (Deliver number free)

        to_u : Path x Any w.net u.net
        to_u = event_steps x S model w bounded (Deliver number free)

        kept : StaysSince u.net key (w.net.made key) → IsKept x Any key (w.net.numbers key) t.ask (w.net.made key) e.begin (answer_to x key t.ask p) u.net
        kept stays = subst (λ (y : World S). IsKept x Any key (w.net.numbers key) t.ask (w.net.made key) e.begin (answer_to x key t.ask p) y.net) (sym path)
            (record {
              there = record { ticket = t; at = at; is = refl; number_is = refl; made_is = refl };
              entry = e;
              at = set_same w.net.entries key (Some e);
              begun = refl;
              state = state;
              runs = runs_in (((sound w s key t at).2).clock) (path_stays x Any w.net u.net to_u bounded key (w.net.made key) was_made stays);
              since = since;
            })

    -- it was performed before: the entry was begun for the ask
    again : (request : Option Octets) → (h : HasPerformed x w.net key t.ask request p) → (a : Apdu) → is_from_client a ≡ true
        → (number : ℕ) (free : Bool) → (t.ask.whole ≡ true) ⊎ SendsAll key t.ask p (happens S model x w (Deliver number free))
        → IsOnItsWay x w.net key a number
        → (h.entry.choice ≡ t.ask.choice → server.server_on_apdu (server_context x key (server_now w.net key)) (service_of S model w key) (Some h.entry)
        (is_room w.net key free) a
        ≡ answers_again h.entry (answer_to x key t.ask p))
        → IsServed S model x key t.ask p w (happens S model x w (Deliver number free))
    again request h a up number free ready m gets =
        served_by h.entry None h.state (record { began = begun.begun.began; after = begun.begun.after; since = begun.begun.since })
        (reply_was x key (w.net.numbers key) t.ask.first t.ask.choice t.ask w.net.log p
        (kept_was W (w.net.numbers key) t.ask (answer_to x key t.ask p) known.0 known.1 w.net.log
        (subst (λ (st : State). StateFits W (w.net.numbers key) t.ask st known.0 known.1 w.net.log) h.state begun.state)))
        number free ready
        (request_now S model x w key a number free up m
        ∙ ap (λ (o : Option ServerTransaction). serves S model w key
        (server.server_on_apdu (server_context x key (server_now w.net key)) (service_of S model w key) o (is_room w.net key free) a)) h.at
        ∙ ap (serves S model w key) (gets begun.choice))
      where
        known : (up : Up) × (down : Down) × SoundWith w key t up down
        known = sound w s key t at

        begun : IsBegunFor W (moments_of w.net key) (w.net.numbers key) t.ask h.entry known.0 known.1 w.net.log
        begun = begun_for w key t known.0 known.1 known.2 h.entry h.at h.live

    -- a request of one APDU
    pub trip : t.ask.whole ≡ true → (free : Bool)
        → CanPerform S model w key t.ask free p ⊎ HasPerformed x w.net key t.ask (Some (join t.ask.pieces)) p
        → (number : ℕ) → IsOnItsWay x w.net key (request_to x key t.ask) number
        → IsServed S model x key t.ask p w (happens S model x w (Deliver number free))
    trip whole free (inr h) number m = again (Some (join t.ask.pieces)) h (request_to x key t.ask) refl number free (inl whole) m
        (λ choice. serves_again (server_context x key (server_now w.net key)) (client_context x key t.ask.first) (service_of S model w key) h.entry
        (is_room w.net key free) t.ask
        (answer_to x key t.ask p) h.live h.state choice h.request_is)
    trip whole free (inl c) number m = served_by
        (performed_entry (server_now w.net key) (client_context x key t.ask.first) t.ask (answer_to x key t.ask p))
        (Some (record { request = client.request_of t.ask; reply = p })) refl (begun_now (((sound w s key t at).2).clock)) (inl refl) number free (inl whole)
        (request_now S model x w key (request_to x key t.ask) number free refl m
        ∙ ap (λ b. serves S model w key (server.server_on_apdu (server_context x key (server_now w.net key)) (service_of S model w key) (w.net.entries key) b
        (request_to x key t.ask))) (room_is w key free c.slot c.serving)
        ∙ ap (serves S model w key) (serves_new (server_context x key (server_now w.net key)) (client_context x key t.ask.first) (service_of S model w key)
        (w.net.entries key) t.ask p c.none c.outcome fits.way)
        ∙ ap (λ (a : Apdu). serves S model w key (answers_first (performed_entry (server_now w.net key) (client_context x key t.ask.first) t.ask a) t.ask p a))
        (answer_any_time x key (server_now w.net key) t.ask.first t.ask.choice p))

    -- a segment of a request that was performed
    pub trip_of_segment : HasPerformed x w.net key t.ask None p → (number piece : ℕ) (free : Bool)
        → SendsAll key t.ask p (happens S model x w (Deliver number free)) → IsOnItsWay x w.net key (segment_to x key t.ask piece) number
        → IsServed S model x key t.ask p w (happens S model x w (Deliver number free))
    trip_of_segment h number piece free all m = again None h (segment_to x key t.ask piece) refl number free (inr all) m
        (λ choice. serves_segment (server_context x key (server_now w.net key)) (client_context x key t.ask.first) (service_of S model w key) h.entry
        (is_room w.net key free) t.ask
        (answer_to x key t.ask p) h.live h.state h.request_is piece)

  module _ (pace : Pace) (timely : IsTimely pace) (clocks : ℕ → ℕ) where
    pub reached : (events : List Event) → Kept S model opening W x bound (run S model x events (start S pace clocks opening))
    reached events = run_kept S model opening W x bound events (start S pace clocks opening) (start_kept S model opening W x bound pace timely clocks)

    pub bounded_in : (events : List Event) → Bounded (run S model x events (start S pace clocks opening)).net
    bounded_in events = path_bounded x Any (start S pace clocks opening).net (run S model x events (start S pace clocks opening)).net
        (run_steps x S model events (start S pace clocks opening) (bounded_start pace clocks)) (bounded_start pace clocks)

    pub round_trips : (events : List Event) → RoundTripSuffices S model x (run S model x events (start S pace clocks opening))
    round_trips events key t at whole p fits free can number m =
        trip (run S model x events (start S pace clocks opening)) (reached events) (bounded_in events) key t at p fits whole free can number m
