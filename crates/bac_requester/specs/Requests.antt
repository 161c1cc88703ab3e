-- Requests that can go to their peer.
use Rattle.std.specs.Prelude.{ℕ, Bool, true, false, List, [], ◌∷◌}
use Rattle.bac_protocol.specs.Service.{Octets}
use Rattle.bac_protocol.specs.Client.{Ask}
use Rattle.bac_segment.specs.Pieces.{pieces_of}
use Rattle.bac_requester.specs.declared.outgoing_request.RequestWay.{RequestWay}
use Rattle.bac_requester.specs.declared.outgoing_request.RequestWay.TheVariants as way

-- a request that can go: its service choice, whether its service data go in one APDU, and their pieces
pub record OutgoingRequest : Type 0 where
  pub choice : ℕ
  pub whole : Bool
  pub pieces : List Octets

-- it is asked at that moment
abbrev pub ask_at : ℕ → OutgoingRequest → Ask
ask_at now r = record { first = now; choice = r.choice; whole = r.whole; pieces = r.pieces }

-- the request that goes that way (clause 5.2)
abbrev pub request_by : (choice : ℕ) → Octets → RequestWay → OutgoingRequest
request_by choice octets way.InOne = record { choice = choice; whole = true; pieces = octets ∷ [] }
request_by choice octets (way.InSegments size) = record { choice = choice; whole = false; pieces = pieces_of size octets }
