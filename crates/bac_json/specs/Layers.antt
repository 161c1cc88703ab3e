-- The layers of a datagram as JSON, under the names that their lines have.
use Rattle.std.specs.Prelude.{ℕ, Bool, List, codes, Option, Some, None}
use Rattle.bac_apdu.specs.Apdu.{Limits, Segment, Apdu, ConfirmedRequest, UnconfirmedRequest, SimpleAck, ComplexAck, SegmentAck}
use Rattle.bac_apdu.specs.Apdu.{Error, Reject, Abort}
use Rattle.bac_npdu.specs.Npdu.{NpduView, DestinationView, MessageView}
use Rattle.bac_npdu.specs.Peers.{RouteView}
use Rattle.bac_value_text.specs.Reasons.{abort_text, error_text, reject_text}
use Rattle.serde_json.specs.Data.{Data, boolean, member, no_members, null, number, object, string, unsigned}
use Rattle.bac_json.specs.Forms.{octets_form, optional_number}

-- ---- an NPDU

abbrev pub optional_destination : Option DestinationView → Data
optional_destination None = null
optional_destination (Some d) =
    object (member (codes "address") (octets_form d.address) (member (codes "hops") (number (unsigned d.hops))
    (member (codes "network") (number (unsigned d.network)) no_members)))

abbrev pub optional_source : Option RouteView → Data
optional_source None = null
optional_source (Some r) =
    object (member (codes "address") (octets_form r.address) (member (codes "network") (number (unsigned r.network)) no_members))

abbrev pub optional_message : (contents : List ℕ) → Option MessageView → Data
optional_message contents None = null
optional_message contents (Some m) =
    object (member (codes "octets") (octets_form contents) (member (codes "type") (number (unsigned m.kind))
    (member (codes "vendor") (optional_number m.vendor) no_members)))

abbrev pub npdu_form : NpduView → Data
npdu_form n =
    object (member (codes "expecting") (boolean n.expecting) (member (codes "from") (optional_source n.source)
    (member (codes "message") (optional_message n.contents n.message) (member (codes "priority") (number (unsigned n.priority))
    (member (codes "to") (optional_destination n.destination) no_members)))))

-- ---- an APDU

abbrev pub optional_segment : Option Segment → Data
optional_segment None = null
optional_segment (Some s) =
    object (member (codes "more") (boolean s.more) (member (codes "seq") (number (unsigned s.number))
    (member (codes "win") (number (unsigned s.window)) no_members)))

abbrev pub request_apdu_form : Limits → (id : ℕ) → Option Segment → (choice : ℕ) → (service : List ℕ) → Data
request_apdu_form limits id segment choice service =
    object (member (codes "apdu") (number (unsigned limits.max_apdu)) (member (codes "choice") (number (unsigned choice))
    (member (codes "data") (octets_form service) (member (codes "id") (number (unsigned id))
    (member (codes "kind") (string (codes "confirmed-request")) (member (codes "sa") (boolean limits.takes_segments)
    (member (codes "segment") (optional_segment segment) (member (codes "segs") (number (unsigned limits.max_segments)) no_members))))))))

abbrev pub segment_ack_form : (nak server : Bool) → (id place window : ℕ) → Data
segment_ack_form nak server id place window =
    object (member (codes "id") (number (unsigned id)) (member (codes "kind") (string (codes "segment-ack"))
    (member (codes "nak") (boolean nak) (member (codes "seq") (number (unsigned place)) (member (codes "srv") (boolean server)
    (member (codes "win") (number (unsigned window)) no_members))))))

-- an Error, a Reject and an Abort, also in words
abbrev pub error_apdu_form : (id choice class code : ℕ) → Data
error_apdu_form id choice class code =
    object (member (codes "choice") (number (unsigned choice)) (member (codes "class") (number (unsigned class))
    (member (codes "code") (number (unsigned code)) (member (codes "id") (number (unsigned id))
    (member (codes "kind") (string (codes "error")) (member (codes "text") (string (error_text class code)) no_members))))))

abbrev pub reject_apdu_form : (id reason : ℕ) → Data
reject_apdu_form id reason =
    object (member (codes "id") (number (unsigned id)) (member (codes "kind") (string (codes "reject"))
    (member (codes "reason") (number (unsigned reason)) (member (codes "text") (string (reject_text reason)) no_members))))

abbrev pub abort_apdu_form : (server : Bool) → (id reason : ℕ) → Data
abort_apdu_form server id reason =
    object (member (codes "id") (number (unsigned id)) (member (codes "kind") (string (codes "abort"))
    (member (codes "reason") (number (unsigned reason)) (member (codes "srv") (boolean server)
    (member (codes "text") (string (abort_text reason)) no_members)))))

abbrev pub apdu_form : Apdu → Data
apdu_form (ConfirmedRequest limits id segment choice service) = request_apdu_form limits id segment choice service
apdu_form (UnconfirmedRequest choice service) =
    object (member (codes "choice") (number (unsigned choice)) (member (codes "data") (octets_form service)
    (member (codes "kind") (string (codes "unconfirmed-request")) no_members)))
apdu_form (SimpleAck id choice) =
    object (member (codes "choice") (number (unsigned choice)) (member (codes "id") (number (unsigned id))
    (member (codes "kind") (string (codes "simple-ack")) no_members)))
apdu_form (ComplexAck id segment choice service) =
    object (member (codes "choice") (number (unsigned choice)) (member (codes "data") (octets_form service)
    (member (codes "id") (number (unsigned id)) (member (codes "kind") (string (codes "complex-ack"))
    (member (codes "segment") (optional_segment segment) no_members)))))
apdu_form (SegmentAck server id k) = segment_ack_form k.nak server id k.number k.window
apdu_form (Error id choice class code) = error_apdu_form id choice class code
apdu_form (Reject id reason) = reject_apdu_form id reason
apdu_form (Abort server id reason) = abort_apdu_form server id reason
