-- A turn of either end, and the run after it.
use Rattle.std.proofs.Common.{◌≡◌, ℕ, suc, ◌+◌, true, List, [], ◌∷◌, length, Option, Some, None, refl, sym, ap, subst, inl, inr, ◌∙◌}
use Rattle.bac_segment.specs.Pieces.{join}
use Rattle.bac_protocol.specs.Service.{Reply as reply}
use Rattle.bac_protocol.specs.Service.Outcome.{Replies}
use Rattle.bac_protocol.specs.Client.{Ask, ClientTransaction}
use Rattle.bac_protocol.specs.Server.{State, ServerTransaction, live_entry}
use Rattle.bac_protocol.specs.Server.State.{Done, SegmentedResponse, Dropped}
use Rattle.bac_protocol.specs.Server.Transfer.{Running, Stopped, Finished}
use Rattle.bac_protocol.specs.Log.{StoreModel}
use Rattle.bac_protocol.specs.Transaction.{Key, Rules}
use Rattle.bac_protocol.specs.World.{World, Event, happens, run, start, client_now, server_now}
use Rattle.bac_protocol.specs.World.Event.{Tick}
use Rattle.bac_protocol.specs.Claims.{IsBounded}
use Rattle.bac_protocol.specs.Straight.{AreStraight, Straight, Stops, is_ended}
use Rattle.bac_protocol.specs.Pace.{Pace, IsTimely}
use Rattle.bac_protocol.proofs.Queue.{Nows}
use Rattle.bac_protocol.proofs.Headline.{Kept, run_kept, start_kept}
use Rattle.bac_liveness.specs.AfterPast.{TransferIsDue, ServerIsDue, Keeps, Gives, CanStill, IsTurn, IsAnsweredIn, RunsOut, InStepIsAnswered}
use Rattle.bac_liveness.specs.InStep.{IsCutFor, AreInStep}
use Rattle.bac_liveness.proofs.Deliveries.{follows_start}
use Rattle.bac_liveness.proofs.Turned.{finish}
use Rattle.bac_liveness.proofs.Answering.{Ready, client_turn, server_turn}

module _ (S : Type 0) (model : StoreModel S) (opening : ℕ → S) (W : ℕ) (x : Rules) (bound : IsBounded W x) (w : World S)
    (kept_in : Kept S model opening W x bound w) (key : Key) (t : ClientTransaction) (at : w.net.tickets key ≡ Some t) (good : AreStraight x key) (p : reply)
    (can : CanStill S model x w key t p) where
  abbrev now : Nows
  now = record { real = w.net.now; here = client_now w.net key; there = server_now w.net key }

  abbrev number : ℕ
  number = w.net.numbers key

  abbrev ask : Ask
  ask = t.ask

  abbrev Outcome : Type 0
  Outcome = model.outcome (w.stores key.server) ask.choice (join ask.pieces) ≡ Replies p

  abbrev ReadyIn : World S → Type 0
  ReadyIn u = Ready S model opening W x bound w kept_in key t at good p can u

  abbrev exact : World S → Event → World S → Type 0
  exact u e y = y ≡ happens S model x u e

  ready_answers : (u : World S) → ReadyIn u → (count : ℕ) (v : World S) → Straight S exact key true count (length w.net.posts) u v
      → Stops S key (length w.net.posts + count) v → IsAnsweredIn S x key t number p count v
  ready_answers u z count v run stops =
      finish S model opening W x bound w kept_in key t at p z.most u v z.q count z.shows z.fin z.cheap run stops

  abbrev after : List Key → List Key → World S
  after as_client as_server = happens S model x w (Tick as_client as_server)

  server_ready_in : (o : Option ServerTransaction) → live_entry now.there (w.net.entries key) ≡ o → AreInStep x key ask t.phase o → ServerIsDue now.there o
      → Gives S model x w key t p o
      → ReadyIn (after [] (key ∷ []))
  server_ready_in None entry step due gives = absurd due
  server_ready_in (Some e) entry step due gives = by_state e.state refl due gives (step.entry).cut
    where
      by_state : (st : State) → e.state ≡ st → TransferIsDue now.there st → Keeps x key now.there t p st Outcome → IsCutFor x key st
          → ReadyIn (after [] (key ∷ []))
      by_state (SegmentedResponse reply_out Running since) state due keeps cut =
          server_turn S model opening W x bound w kept_in key t at good p can e entry step.entry reply_out since state due.0 due.1 keeps cut t.phase refl
          can.going step.stand
      by_state (SegmentedResponse reply_out Stopped since) state due keeps cut = absurd due
      by_state (SegmentedResponse reply_out Finished since) state due keeps cut = absurd due
      by_state (State.SegmentedRequest inc since) state due keeps cut = absurd due
      by_state (Done kept) state due keeps cut = absurd due
      by_state Dropped state due keeps cut = absurd due

  ready_runs : (u : World S) → ReadyIn u → RunsOut S model x key t number p (length w.net.posts) u
  ready_runs u z =
      let h = (z.fin).reaches in
      let f = follows_start S model x now number key z.most (length w.net.posts) u z.q (z.fin).end h z.shows in
      let over : is_ended (f.new.net.tickets key) ≡ true = ap is_ended (f.shows).ticket ∙ (z.fin).idle in
      record { count = suc h.count; last = f.new; run = f.run; over = over; answered = ready_answers u z (suc h.count) f.new f.run (inl over) }

  turn_ready : AreInStep x key ask t.phase (live_entry now.there (w.net.entries key)) → (as_client as_server : List Key)
      → IsTurn S w key t as_client as_server → ReadyIn (after as_client as_server)
  turn_ready step as_client as_server (inl turn) =
      let same : after as_client as_server ≡ after (key ∷ []) [] = λ i. after (turn.2 i) (turn.3 i) in
      subst ReadyIn (sym same)
      (client_turn S model opening W x bound w kept_in key t at good p can t.phase refl turn.0
      (live_entry now.there (w.net.entries key)) refl turn.1 step can.gives)
  turn_ready step as_client as_server (inr turn) =
      let same : after as_client as_server ≡ after [] (key ∷ []) = λ i. after (turn.1 i) (turn.2 i) in
      subst ReadyIn (sym same) (server_ready_in (live_entry now.there (w.net.entries key)) refl step turn.0 can.gives)

  pub in_step_answers : AreInStep x key ask t.phase (live_entry now.there (w.net.entries key)) → (as_client as_server : List Key)
      → IsTurn S w key t as_client as_server → (count : ℕ) (v : World S)
      → Straight S exact key true count (length w.net.posts) (after as_client as_server) v → Stops S key (length w.net.posts + count) v
      → IsAnsweredIn S x key t number p count v
  in_step_answers step as_client as_server turn = ready_answers (after as_client as_server) (turn_ready step as_client as_server turn)

  pub in_step_runs : AreInStep x key ask t.phase (live_entry now.there (w.net.entries key)) → (as_client as_server : List Key)
      → IsTurn S w key t as_client as_server → RunsOut S model x key t number p (length w.net.posts) (after as_client as_server)
  in_step_runs step as_client as_server turn = ready_runs (after as_client as_server) (turn_ready step as_client as_server turn)

pub in_step_is_answered : (S : Type 0) (model : StoreModel S) (opening : ℕ → S) (W : ℕ) (x : Rules) → IsBounded W x → (pace : Pace) → IsTimely pace
    → (clocks : ℕ → ℕ) → (events : List Event)
    → InStepIsAnswered S model x (run S model x events (start S pace clocks opening))
in_step_is_answered S model opening W x bound pace timely clocks events key t at step good p can as_client as_server turn count v straight stops =
    in_step_answers S model opening W x bound (run S model x events (start S pace clocks opening))
    (run_kept S model opening W x bound events (start S pace clocks opening)
    (start_kept S model opening W x bound pace timely clocks)) key t at good p can step as_client as_server turn count
    v straight stops
