-- A request for an entry that is done: whether it is the entry's own decides.
use Rattle.std.proofs.Common.{◌≡◌, ℕ, Bool, true, false, not, [], ◌∷◌, Option, Some, None, is_some, if◌then◌else◌, refl}
use Rattle.bac_apdu.specs.Apdu.{Apdu, Limits, Segment}
use Rattle.bac_apdu.specs.Apdu.Apdu.{ConfirmedRequest}
use Rattle.bac_segment.specs.Window.{Outgoing}
use Rattle.bac_protocol.specs.Context.{Context}
use Rattle.bac_protocol.specs.Service.{Octets, OTHER}
use Rattle.bac_protocol.specs.Server.{ServerTransaction, Transfer, rests, server_abort, done_on_apdu, resumes, segmented_response_on_apdu}
use Rattle.bac_responder.specs.Segments.{is_repeated}

pub done_on_request : (c : Context) (e : ServerTransaction) (kept : Apdu) (limits : Limits) (invoke_id : ℕ) (segment : Option Segment) (choice : ℕ) (octets : Octets)
    → done_on_apdu c e kept (ConfirmedRequest limits invoke_id segment choice octets)
    ≡ rests (Some e) ((if is_repeated e segment choice octets then kept else server_abort c OTHER) ∷ [])
done_on_request c e kept limits invoke_id None choice octets = refl
done_on_request c e kept limits invoke_id (Some segment) choice octets = go (is_some e.request)
  where
    go : (b : Bool) → rests (Some e) ((if b then server_abort c OTHER else kept) ∷ []) ≡ rests (Some e) ((if not b then kept else server_abort c OTHER) ∷ [])
    go true = refl
    go false = refl

pub segmented_response_on_request : (c : Context) (e : ServerTransaction) (out : Outgoing) (transfer : Transfer) (since : ℕ) (limits : Limits) (invoke_id : ℕ)
    (segment : Option Segment) (choice : ℕ) (octets : Octets)
    → segmented_response_on_apdu c e out transfer since (ConfirmedRequest limits invoke_id segment choice octets)
    ≡ (if is_repeated e segment choice octets then resumes c e out transfer else rests (Some e) (server_abort c OTHER ∷ []))
segmented_response_on_request c e out transfer since limits invoke_id None choice octets = refl
segmented_response_on_request c e out transfer since limits invoke_id (Some segment) choice octets = go (is_some e.request)
  where
    go : (b : Bool) → (if b then rests (Some e) (server_abort c OTHER ∷ []) else resumes c e out transfer)
        ≡ (if not b then resumes c e out transfer else rests (Some e) (server_abort c OTHER ∷ []))
    go true = refl
    go false = refl
