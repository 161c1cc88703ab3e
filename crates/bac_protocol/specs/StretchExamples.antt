-- Nodes that restart with other settings, as runs that are computed.
use Rattle.std.specs.Prelude.{◌≡◌, ℕ, Bool, true, false, List, [], ◌∷◌, ◌++◌, None, Some, nat_eq, if◌then◌else◌}
use Rattle.bac_apdu.specs.Apdu.{Apdu}
use Rattle.bac_apdu.specs.Apdu.Apdu.{Abort, ComplexAck, ConfirmedRequest, SegmentAck}
use Rattle.bac_protocol.specs.Context.{Settings}
use Rattle.bac_protocol.specs.Service.{Octets}
use Rattle.bac_protocol.specs.Service.Reply.{Complex}
use Rattle.bac_protocol.specs.Service.Ending.{Aborted, Answered}
use Rattle.bac_protocol.specs.Log.Fact.{Asked, Ended, Performed, Restarted}
use Rattle.bac_protocol.specs.Pace.{one_clock}
use Rattle.bac_protocol.specs.Transaction.{Rules}
use Rattle.bac_protocol.specs.World.{Event, start}
use Rattle.bac_protocol.specs.World.Event.{Deliver, MakeAsk, RestartClient, RestartServer}
use Rattle.bac_protocol.specs.Examples.{Seen, seen, append, append_apdu, ask_append, elapse, limits, other_key, rules}
use Rattle.bac_protocol.specs.Edges.{alike, append_request, counted, first_done}
use Rattle.bac_protocol.specs.Stretches.{Stretch, run_in, stretch}

abbrev pub shows_in : List Stretch → Seen
shows_in stretches = seen (run_in ℕ counted stretches (start ℕ one_clock (λ node. 0) (λ node. 0)))

-- that node is set so; all others take replies in segments, and have windows of 32
abbrev pub set_so : (node : ℕ) → Settings → Rules
set_so node s = record (rules 32) { settings = λ m. if nat_eq m node then s else (rules 32).settings m }

-- a segment of a reply, from an end with that window, and a client's SegmentACK that grants so much
abbrev pub gives : Bool → (number window : ℕ) → Octets → Apdu
gives more number window octets = ComplexAck 0 (Some (record { more = more; number = number; window = window })) 7 octets

abbrev pub grants : (nak : Bool) → (number window : ℕ) → Apdu
grants nak number window = SegmentAck false 0 (record { nak = nak; number = number; window = window })

-- Another window.

-- node 0 asks, and has the first of two segments of its reply
abbrev pub in_first_life : List Event
in_first_life = ask_append ∷ Deliver 0 true ∷ Deliver 1 true ∷ []

-- Then its server restarts, and its SegmentACK finds no entry. The segment comes a second time. Node 2 asks the server once that waits no more.
abbrev pub in_second_life : List Event
in_second_life = RestartServer 1 0 None ∷ Deliver 2 true ∷ Deliver 1 true ∷ elapse 65001 ∷ MakeAsk (other_key 0) 7 true append [] ∷ Deliver 4 true ∷ Deliver 5 true
    ∷ Deliver 6 true ∷ Deliver 7 true ∷ []

-- what is seen where the server has windows of that size from its restart on
abbrev pub seen_with : (window : ℕ) → Seen
seen_with window = record {
  sent = append_apdu ∷ gives true 0 32 (alike 45 0) ∷ grants false 0 32 ∷ grants true 0 32 ∷ append_apdu ∷ gives true 0 window (alike 45 1)
      ∷ grants false 0 window ∷ gives false 1 window (alike 15 1) ∷ grants false 1 window ∷ [];
  log = Ended 1 (Answered (Complex (alike 60 1))) ∷ Performed 1 append_request (Complex (alike 60 1)) ∷ Asked 1 2 1 append_request ∷ Restarted 1 None ∷ first_done;
  effects = 2;
}

-- A server restarts with windows of 2 in place of 32: the reassembly that its client has keeps its window, and the next one has the new one. With windows of 32
-- again it is what it is in one stretch.
pub record OtherWindow : Type 0 where
  pub lesser : shows_in (stretch (rules 32) in_first_life
      ∷ stretch (set_so 1 (record { limits = limits true 7; window = 2 })) in_second_life ∷ []) ≡ seen_with 2
  pub same : shows_in (stretch (rules 32) in_first_life ∷ stretch (rules 32) in_second_life ∷ []) ≡ seen_with 32
  pub in_one : shows_in (stretch (rules 32) (in_first_life ++ in_second_life) ∷ []) ≡ seen_with 32

-- Other limits.

-- A client asks, and restarts so that it takes no segments. The request from its life before still gets a reply in segments, which nobody takes. Its next ask
-- is refused for that: it says what its client takes now.
abbrev pub OtherLimits : Type 0
OtherLimits =
    shows_in (stretch (rules 32) (ask_append ∷ []) ∷ stretch (set_so 0 (record { limits = limits false 7; window = 32 }))
    (RestartClient 0 0 ∷ Deliver 0 true ∷ Deliver 1 true ∷ elapse 75001 ∷ ask_append ∷ Deliver 2 true ∷ Deliver 3 true ∷ []) ∷ [])
    ≡ record {
      sent = append_apdu ∷ gives true 0 32 (alike 45 0) ∷ ConfirmedRequest (limits false 7) 0 None 7 append ∷ Abort true 0 4 ∷ [];
      log = Ended 1 (Aborted 4) ∷ Asked 1 0 1 append_request ∷ first_done;
      effects = 1;
    }
