-- What a tick that is due makes of a transaction, and what a run in which each copy is delivered once makes of that.
use Rattle.std.proofs.Common.{◌≡◌, ℕ, ◌+◌, ◌-◌, ◌*◌, ◌<◌, ◌≤◌, true, false, List, [], ◌∷◌, ◌++◌, map, length, Option, Some, None, if◌then◌else◌, nat_le, nat_eq}
use Rattle.std.proofs.Common.{refl, sym, ap, subst, inl, inr, ◌∙◌, arith}
use Rattle.std.proofs.lemmas.Bool.Decides.{nat_tests}
use Rattle.bac_apdu.specs.Apdu.{Apdu}
use Rattle.bac_segment.specs.Pieces.{join}
use Rattle.bac_segment.specs.Window.{Outgoing, again}
use Rattle.bac_protocol.specs.declared.times.TheConstants.{T_SEG}
use Rattle.bac_protocol.specs.Context.{Context}
use Rattle.bac_protocol.specs.Service.{Reply as reply, Ending}
use Rattle.bac_protocol.specs.Service.Reply.{Simple, Complex}
use Rattle.bac_protocol.specs.Service.Ending.{Answered}
use Rattle.bac_protocol.specs.Client as client
use Rattle.bac_protocol.specs.Client.{Ask, ClientTransaction, is_idle, request_of}
use Rattle.bac_protocol.specs.Server as server
use Rattle.bac_protocol.specs.Server.{State, ServerTransaction, live_entry, is_live}
use Rattle.bac_protocol.specs.Server.State.{Done, SegmentedResponse}
use Rattle.bac_protocol.specs.Server.Transfer.{Running}
use Rattle.bac_protocol.specs.Log.{Fact, Has, StoreModel}
use Rattle.bac_protocol.specs.Log.Fact.{Performed, Ended}
use Rattle.bac_protocol.specs.Transaction.{Key, Rules, client_context, server_context, ended}
use Rattle.bac_protocol.specs.World.{World, happens, post_of, reacts, serves, ticks_ticket, client_now, server_now}
use Rattle.bac_protocol.specs.World.Event.{Tick}
use Rattle.bac_protocol.specs.Claims.{IsBounded}
use Rattle.bac_protocol.specs.Straight.{Straight, Stops, way_count, way_to, request_count}
use Rattle.bac_protocol.proofs.Headline.{Kept}
use Rattle.bac_protocol.proofs.Keys.{set_same}
use Rattle.bac_protocol.proofs.Sound.{Up, Down, IsKeptFor, StateFits}
use Rattle.bac_protocol.proofs.Sound.Down.{Unsent, Sent}
use Rattle.bac_protocol.proofs.Queue.{Nows, TransactionPair}
use Rattle.bac_protocol.proofs.Follow.{Shows}
use Rattle.bac_liveness.specs.AfterPast.{IsAnsweredIn}
use Rattle.bac_liveness.proofs.Deliveries.{Starts, starts_follow}
use Rattle.bac_liveness.proofs.RoundTrips.{sound, begun_for}

-- What was performed, as the log says.

pub kept_performed : (number : ℕ) (ask : Ask) (d : Context) (log : List Fact) (p : reply) → IsKeptFor number ask (server.reply_apdu d ask.choice p) log
    → Has (Performed number (request_of ask) p) log
kept_performed number ask d log Simple h = h.0
kept_performed number ask d log (Complex octets) h = h.0
kept_performed number ask d log (reply.Error class code) h = h.0

done_fits : (W number : ℕ) (ask : Ask) (kept : Apdu) (up : Up) (down : Down) (log : List Fact) → StateFits W number ask (Done kept) up down log
    → IsKeptFor number ask kept log
done_fits W number ask kept up Unsent log h = h.1
done_fits W number ask kept up (Sent ps a b) log h = absurd h

module _ (S : Type 0) (model : StoreModel S) (opening : ℕ → S) (W : ℕ) (x : Rules) (bound : IsBounded W x) (w : World S)
    (kept_in : Kept S model opening W x bound w) (key : Key) (t : ClientTransaction) (at : w.net.tickets key ≡ Some t) where
  abbrev now : Nows
  now = record { real = w.net.now; here = client_now w.net key; there = server_now w.net key }

  abbrev number : ℕ
  number = w.net.numbers key

  state_fits : (e : ServerTransaction) → w.net.entries key ≡ Some e → is_live now.there e ≡ true → (st : State) → e.state ≡ st
      → (up : Up) × (down : Down) × StateFits W number t.ask st up down w.net.log
  state_fits e entry live st is =
      let known = sound S model opening W x bound w kept_in key t at in
      let begun = begun_for S model opening W x bound w key t known.0 known.1 known.2 e entry live in
      (known.0, known.1, subst (λ (y : State). StateFits W number t.ask y known.0 known.1 w.net.log) is begun.state)

  pub done_performed : (e : ServerTransaction) → w.net.entries key ≡ Some e → is_live now.there e ≡ true → (kept : Apdu) → e.state ≡ Done kept → (p : reply)
      → kept ≡ server.reply_apdu (server_context x key now.there) t.ask.choice p → Has (Performed number (request_of t.ask) p) w.net.log
  done_performed e entry live kept is p same =
      let f = state_fits e entry live (Done kept) is in
      kept_performed number t.ask (server_context x key now.there) w.net.log p
      (subst (λ (a : Apdu). IsKeptFor number t.ask a w.net.log) same (done_fits W number t.ask kept f.0 f.1 w.net.log f.2))

  pub reply_performed : (e : ServerTransaction) → w.net.entries key ≡ Some e → is_live now.there e ≡ true
      → (out : Outgoing) (transfer : server.Transfer) (since : ℕ)
      → e.state ≡ SegmentedResponse out transfer since → (p : reply) → p ≡ Complex (join out.pieces)
      → Has (Performed number (request_of t.ask) p) w.net.log
  reply_performed e entry live out transfer since is p same =
      let f = state_fits e entry live (SegmentedResponse out transfer since) is in
      subst (λ (q : reply). Has (Performed number (request_of t.ask) q) w.net.log) (sym same) (f.2).performed

  -- The tick of the client.

  pub ticked : w.net.serves_from key.server ≤ now.there → (r : client.Reaction) (q : TransactionPair S)
      → client.client_ticks (client_context x key now.here) t ≡ r → client.after now.here t r ≡ q.ticket
      → client.sends_of r ≡ q.pending → client.ending_of r ≡ None → w.stores ≡ q.stores → w.net.log ≡ q.log
      → live_entry now.there (w.net.entries key) ≡ live_entry now.there q.entry
      → Shows S model x now number key (happens S model x w (Tick (key ∷ []) [])) q (length w.net.posts)
  ticked serving r q is ticket sends none stores log entry =
      subst (λ (v : World S). Shows S model x now number key v q (length w.net.posts))
      (sym (ap (ticks_ticket S x w key) at ∙ ap (reacts S w key t) is))
      (record {
        ticket = set_same w.net.tickets key (Some (client.after now.here t r)) ∙ ap Some ticket;
        entry = entry;
        number_is = refl;
        old = w.net.posts;
        posts = ap (λ (xs : List Apdu). w.net.posts ++ map (post_of key now.real) xs) sends;
        count = refl;
        stores = stores;
        log = ap (λ (o : Option Ending). ended number o w.net.log) none ∙ log;
        moment = refl;
        here = refl;
        there = refl;
        opens = serving;
      })

  -- The tick of the server: the window of a reply is sent again.

  pub server_ticked : w.net.serves_from key.server ≤ now.there → (e : ServerTransaction) → w.net.entries key ≡ Some e → is_live now.there e ≡ true
      → (out : Outgoing) (since : ℕ)
      → e.state ≡ SegmentedResponse out Running since → T_SEG ≤ now.there - since → 0 < out.retries → (q : TransactionPair S) → q.ticket ≡ t
      → q.entry ≡ Some (record e { state = SegmentedResponse (record out { retries = out.retries - 1 }) Running now.there })
      → q.pending ≡ server.reply_window (server_context x key now.there) e.choice (record out { retries = out.retries - 1 })
      → q.stores ≡ w.stores → q.log ≡ w.net.log
      → Shows S model x now number key (happens S model x w (Tick [] (key ∷ []))) q (length w.net.posts)
  server_ticked serving e entry live out since is due left q ticket entry_is pending stores log =
      subst (λ (v : World S). Shows S model x now number key v q (length w.net.posts)) (sym (ap (serves S model w key) ticks))
      (record {
        ticket = at ∙ ap Some (sym ticket);
        entry = ap (live_entry now.there) (set_same w.net.entries key (Some next) ∙ sym entry_is);
        number_is = refl;
        old = w.net.posts;
        posts = ap (λ (xs : List Apdu). w.net.posts ++ map (post_of key now.real) xs) (sym pending);
        count = refl;
        stores = sym stores;
        log = sym log;
        moment = refl;
        here = refl;
        there = refl;
        opens = serving;
      })
    where
      d : Context
      d = server_context x key now.there

      next : ServerTransaction
      next = record e { state = SegmentedResponse (record out { retries = out.retries - 1 }) Running now.there }

      late : nat_le T_SEG (now.there - since) ≡ true
      late = grind (arith, nat_tests)

      some : nat_eq out.retries 0 ≡ false
      some = grind (arith, nat_tests)

      ticks : server.server_ticks d (w.net.entries key) ≡ server.sends_reply_window d e (record out { retries = out.retries - 1 })
      ticks = ap (server.server_ticks d) entry
          ∙ ap (λ b. if b then server.live_ticks d e e.state else server.rests (Some e) []) live
          ∙ ap (λ (st : State). server.live_ticks d e st) is
          ∙ ap (λ b. if b then server.sends_reply_again d e out since (again out) else server.rests (Some e) []) late
          ∙ ap (λ b. server.sends_reply_again d e out since (if b then None else Some (record out { retries = out.retries - 1 }))) some

  -- The run after it.

  -- so many deliveries end the ticket with that reply, with which its request was performed
  pub record Finishes (most : ℕ) (p : reply) (from : TransactionPair S) : Type 0 where
    pub end : TransactionPair S
    pub idle : is_idle end.ticket.phase ≡ true
    pub before : List Fact
    pub log_is : end.log ≡ Ended number (Answered p) ∷ before
    pub performed : Has (Performed number (request_of t.ask) p) before
    pub reaches : Starts S model x now number key most from end

  pub finish : (p : reply) (most : ℕ) (u v : World S) (q : TransactionPair S) (count : ℕ) → Shows S model x now number key u q (length w.net.posts)
      → Finishes most p q → most ≤ 3 * request_count t.ask.whole t.ask.pieces + 3 * way_count (way_to x key p)
      → Straight S (λ u e y. y ≡ happens S model x u e) key true count (length w.net.posts) u v → Stops S key (length w.net.posts + count) v
      → IsAnsweredIn S x key t number p count v
  finish p most u v q count shows h le run stops =
      let f = starts_follow S model x now number key most count (length w.net.posts) u v q h.end h.reaches h.idle shows run stops in
      let counts = f.counts in
      let starts = h.reaches in
      let few = starts.most_is in
      let log : v.net.log ≡ Ended number (Answered p) ∷ h.before = (f.shows).log ∙ h.log_is in
      record {
        ended = subst (λ (lg : List Fact). Has (Ended number (Answered p)) lg) (sym log) (inl refl);
        performed = subst (λ (lg : List Fact). Has (Performed number (request_of t.ask) p) lg) (sym log) (inr h.performed);
        cheap = omega arith;
      }
