-- A stopped reply goes on as its request comes.
use Rattle.std.proofs.Common.{◌≡◌, ℕ, Bool, true, List, Option, Some, None, refl, sym, ap, subst, ◌∙◌}
use Rattle.bac_apdu.specs.Apdu.{Apdu}
use Rattle.bac_segment.specs.Pieces.{join}
use Rattle.bac_segment.specs.Window.{Outgoing, resume}
use Rattle.bac_protocol.specs.Service.{Octets}
use Rattle.bac_protocol.specs.Wire.{is_from_client}
use Rattle.bac_protocol.specs.Client.{ClientTransaction}
use Rattle.bac_protocol.specs.Server as server
use Rattle.bac_protocol.specs.Server.{ServerTransaction}
use Rattle.bac_protocol.specs.Server.State.{SegmentedResponse}
use Rattle.bac_protocol.specs.Server.Transfer.{Running}
use Rattle.bac_protocol.specs.Log.{StoreModel}
use Rattle.bac_protocol.specs.Transaction.{Key, Rules, client_context, server_context}
use Rattle.bac_protocol.specs.World.{World, Event, is_room, serves, service_of, happens, run, start, server_now}
use Rattle.bac_protocol.specs.World.Event.{Deliver}
use Rattle.bac_protocol.specs.Claims.{IsBounded}
use Rattle.bac_protocol.specs.Pace.{Pace, IsTimely}
use Rattle.bac_protocol.proofs.Headline.{Kept}
use Rattle.bac_protocol.proofs.Keys.{set_same}
use Rattle.bac_liveness.specs.Runs.{IsOnItsWay}
use Rattle.bac_liveness.specs.RoundTrip.{request_to, segment_to}
use Rattle.bac_liveness.specs.Stopped.{HasStopped, GoesOnWith, StoppedGoesOn}
use Rattle.bac_liveness.proofs.Endings.{request_now}
use Rattle.bac_liveness.proofs.RoundTrips.{sound, begun_for, reached}
use Rattle.bac_liveness.proofs.Serving.{serves_stopped, serves_stopped_segment}

module _ (S : Type 0) (model : StoreModel S) (opening : ℕ → S) (W : ℕ) (x : Rules) (bound : IsBounded W x) where
  module _ (w : World S) (s : Kept S model opening W x bound w) (key : Key) (t : ClientTransaction) (at : w.net.tickets key ≡ Some t) (request : Option Octets)
      (out : Outgoing) (h : HasStopped w.net key request out) where
    choice : h.entry.choice ≡ t.ask.choice
    choice =
        let known = sound S model opening W x bound w s key t at in
        (begun_for S model opening W x bound w key t known.0 known.1 known.2 h.entry h.at h.live).choice

    on : (number : ℕ) (free : Bool) (a : Apdu) → is_from_client a ≡ true → IsOnItsWay x w.net key a number
        → server.server_on_apdu (server_context x key (server_now w.net key)) (service_of S model w key) (Some h.entry) (is_room w.net key free) a
        ≡ server.becomes h.entry (SegmentedResponse (resume out) Running (server_now w.net key))
        (server.reply_window (server_context x key (server_now w.net key)) t.ask.choice (resume out))
        → GoesOnWith x key t.ask.choice h.entry out w.net (happens S model x w (Deliver number free)).net
    on number free a up m gets = subst (λ (u : World S). GoesOnWith x key t.ask.choice h.entry out w.net u.net) (sym path)
        (record { sent = refl; entry_is = set_same w.net.entries key v.entry; log = refl })
      where
        v : server.Reaction
        v = server.becomes h.entry (SegmentedResponse (resume out) Running (server_now w.net key))
            (server.reply_window (server_context x key (server_now w.net key)) t.ask.choice (resume out))

        path : happens S model x w (Deliver number free) ≡ serves S model w key v
        path = request_now S model x w key a number free up m
            ∙ ap (λ (o : Option ServerTransaction). serves S model w key
            (server.server_on_apdu (server_context x key (server_now w.net key)) (service_of S model w key) o (is_room w.net key free) a)) h.at
            ∙ ap (serves S model w key) gets

  pub stopped_go_on : (pace : Pace) → IsTimely pace → (clocks : ℕ → ℕ) → (events : List Event)
      → StoppedGoesOn S model x (run S model x events (start S pace clocks opening))
  stopped_go_on pace timely clocks events = record {
    whole = λ key t at out h number free m.
        on w (reached S model opening W x bound pace timely clocks events) key t at (Some (join t.ask.pieces)) out h number free (request_to x key t.ask) refl m
        (serves_stopped (server_context x key (server_now w.net key)) (client_context x key t.ask.first) (service_of S model w key) h.entry
        (is_room w.net key free) t.ask out h.since
        h.live (choice w (reached S model opening W x bound pace timely clocks events) key t at (Some (join t.ask.pieces)) out h) h.state h.request_is);
    segment = λ key t at out h number piece free m.
        on w (reached S model opening W x bound pace timely clocks events) key t at None out h number free (segment_to x key t.ask piece) refl m
        (serves_stopped_segment (server_context x key (server_now w.net key)) (client_context x key t.ask.first) (service_of S model w key) h.entry
        (is_room w.net key free) t.ask out h.since
        h.live (choice w (reached S model opening W x bound pace timely clocks events) key t at None out h) h.state h.request_is piece);
  }
    where
      w : World S
      w = run S model x events (start S pace clocks opening)
