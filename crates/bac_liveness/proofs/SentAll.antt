-- While an ask is in time and its server keeps its reply, its client has sent all segments; so the answer ends its ticket.
use Rattle.std.proofs.Common.{◌≡◌, ℕ, ◌-◌, ◌≤◌, List, [], ◌∷◌, ◌++◌, Option, Some, refl, sym, ap, subst, ◌∙◌}
use Rattle.bac_apdu.specs.Apdu.{Apdu}
use Rattle.bac_protocol.specs.declared.times.TheConstants.{DEADLINE}
use Rattle.bac_protocol.specs.Service.{Reply}
use Rattle.bac_protocol.specs.Client.{Ask, Phase}
use Rattle.bac_protocol.specs.Client.Phase.{SegmentedRequest, AwaitConfirmation, SegmentedConf, Idle}
use Rattle.bac_protocol.specs.Server.{State, ServerTransaction, live_entry}
use Rattle.bac_protocol.specs.Server.State.{Done}
use Rattle.bac_protocol.specs.Own.{lesser_window}
use Rattle.bac_protocol.specs.Log.{StoreModel}
use Rattle.bac_protocol.specs.Transaction.{Key, Rules}
use Rattle.bac_protocol.specs.World.{World, Event, happens, run, start, client_now, server_now}
use Rattle.bac_protocol.specs.World.Event.{Deliver}
use Rattle.bac_protocol.specs.Claims.{IsBounded}
use Rattle.bac_protocol.specs.Pace.{Pace, IsTimely}
use Rattle.bac_liveness.specs.RoundTrip.{answer_to, RoundTripSufficesInSegments}
use Rattle.bac_liveness.specs.Runs.{HasWindows}
use Rattle.bac_liveness.specs.InStep.{StandsSending, Stands}
use Rattle.bac_liveness.proofs.RoundTrips.{HasSentAll, SendsAll, trip_of_segment, bounded_in, reached}
use Rattle.bac_liveness.proofs.There.{live_self}
use Rattle.bac_liveness.proofs.Standing.{stands_in_step}

all_beside : (actual : ℕ) (ask : Ask) (phase : Phase) (e : ServerTransaction) (kept : Apdu) → e.state ≡ Done kept → Stands actual ask phase (Some e)
    → HasSentAll phase
all_beside actual ask (SegmentedRequest out all) e kept state h = subst (λ (st : State). StandsSending actual ask.pieces out all st) state h.2
all_beside actual ask AwaitConfirmation e kept state h = tt
all_beside actual ask (SegmentedConf inc) e kept state h = tt
all_beside actual ask Idle e kept state h = tt

module _ (S : Type 0) (model : StoreModel S) (opening : ℕ → S) (W : ℕ) (x : Rules) (bound : IsBounded W x)
    (pace : Pace) (timely : IsTimely pace) (clocks : ℕ → ℕ) where
  abbrev SentIn : Key → Ask → Reply → World S → Type 0
  SentIn key ask p v = SendsAll S model opening W x bound key ask p v

  sends_all : (events : List Event) (key : Key) → HasWindows x key → (ask : Ask) (p : Reply)
      → SentIn key ask p (run S model x events (start S pace clocks opening))
  sends_all events key windows ask p t there is young e at live state =
      let v = run S model x events (start S pace clocks opening) in
      let in_time : client_now v.net key - t.ask.first ≤ DEADLINE = subst (λ (a : Ask). client_now v.net key - a.first ≤ DEADLINE) (sym is) young in
      let entry : live_entry (server_now v.net key) (v.net.entries key) ≡ Some e = ap (live_entry (server_now v.net key)) at
      ∙ live_self (server_now v.net key) e live in
      let step = stands_in_step S model opening W x bound pace timely clocks events key windows t there
      (λ none. absurd (let z = sym at ∙ none in cc)) in_time in
      all_beside (lesser_window x key) t.ask t.phase e (answer_to x key ask p) state
      (subst (λ (y : Option ServerTransaction). Stands (lesser_window x key) t.ask t.phase y) entry step.stand)

  run_join : (before after : List Event) (w : World S) → run S model x (before ++ after) w ≡ run S model x after (run S model x before w)
  run_join [] after w = refl
  run_join (e ∷ before) after w = run_join before after (happens S model x w e)

  pub round_trips_in_segments : (events : List Event) → RoundTripSufficesInSegments S model x (run S model x events (start S pace clocks opening))
  round_trips_in_segments events key windows t at p fits h number piece free =
      trip_of_segment S model opening W x bound (run S model x events (start S pace clocks opening))
      (reached S model opening W x bound pace timely clocks events)
      (bounded_in S model opening W x bound pace timely clocks events) key t at p fits h
      number piece free
      (subst (SentIn key t.ask p) (run_join events (Deliver number free ∷ []) (start S pace clocks opening))
      (sends_all (events ++ Deliver number free ∷ []) key windows t.ask p))
