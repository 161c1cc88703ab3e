-- The server's machine of a node that lets clients use an invoke ID again as soon as its transaction is over (clause 5.4). All that is not said here is as in
-- Server. A read is a request that changes no store.
use Rattle.std.specs.Prelude.{ℕ, Bool, true, false, ◌&&◌, ◌||◌, not, [], ◌∷◌, Option, Some, None, is_some, if◌then◌else◌, nat_eq}
use Rattle.bac_apdu.specs.Apdu.{Apdu, Limits}
use Rattle.bac_apdu.specs.Apdu.Apdu.{Abort, ConfirmedRequest, SegmentAck}
use Rattle.bac_segment.specs.Window.{Outgoing, acknowledged, is_finished}
use Rattle.bac_protocol.specs.Context.{Context}
use Rattle.bac_protocol.specs.Service.{Octets, OTHER}
use Rattle.bac_protocol.specs.Server.{Reaction, ServerTransaction, Service, State, Transfer, begins, is_kept, is_live, is_none_live, performs, rests, server_abort}
use Rattle.bac_protocol.specs.Server.{idle_on_request, idle_on_segment, server_on_apdu}

-- which service choices are those of reads
abbrev pub Reads : Type 0
Reads = ℕ → Bool

-- the transfer of a reply in segments is over
abbrev pub is_transfer_over : Transfer → Bool
is_transfer_over Transfer.Running = false
is_transfer_over Transfer.Stopped = false
is_transfer_over Transfer.Finished = true

-- an entry is over: its reply of one APDU was sent, its reply in segments was acknowledged or aborted, or its request was given up
abbrev pub is_over : State → Bool
is_over (State.SegmentedRequest inc since) = false
is_over (State.Done kept) = true
is_over (State.SegmentedResponse out transfer since) = is_transfer_over transfer
is_over State.Dropped = true

-- a segment 0 is not that of the entry's request: where it began with a request without SEG, or keeps a first piece, and this one is another
abbrev pub is_other_first : ServerTransaction → (first : Option Octets) → (choice : ℕ) → Octets → Bool
is_other_first e None choice octets = is_some e.request
is_other_first e (Some first) choice octets = not (is_kept e (Some first) choice octets)

-- a state whose reply goes in segments
abbrev pub goes_in_segments : State → Bool
goes_in_segments (State.SegmentedRequest inc since) = false
goes_in_segments (State.Done kept) = false
goes_in_segments (State.SegmentedResponse out transfer since) = true
goes_in_segments State.Dropped = false

-- the last piece was acknowledged
abbrev pub is_all_acknowledged : Option Outgoing → Bool
is_all_acknowledged None = false
is_all_acknowledged (Some out) = is_finished out

-- a SegmentACK with that number finishes a transfer, whatever the windows are
abbrev pub is_finished_by_ack : Outgoing → Transfer → (number : ℕ) → Bool
is_finished_by_ack out Transfer.Running number = is_all_acknowledged (acknowledged 1 out number 1)
is_finished_by_ack out Transfer.Stopped number = false
is_finished_by_ack out Transfer.Finished number = false

-- it finishes that of a reply in segments
abbrev pub is_acknowledged_by : State → (number : ℕ) → Bool
is_acknowledged_by (State.SegmentedRequest inc since) number = false
is_acknowledged_by (State.Done kept) number = false
is_acknowledged_by (State.SegmentedResponse out transfer since) number = is_finished_by_ack out transfer number
is_acknowledged_by State.Dropped number = false

-- an entry of a read that came without SEG
abbrev pub is_of_whole_read : Reads → ServerTransaction → Bool
is_of_whole_read reads e = reads e.choice && is_some e.request

-- the entry of a read that came without SEG ends with its reply in segments: at the SegmentACK that finishes the transfer, and at an Abort of its client
abbrev pub ends_with_reply : Reads → ServerTransaction → Apdu → Bool
ends_with_reply reads e (SegmentAck false invoke_id ack) = is_of_whole_read reads e && is_acknowledged_by e.state ack.number
ends_with_reply reads e (Abort false invoke_id reason) = is_of_whole_read reads e && goes_in_segments e.state
ends_with_reply reads e _ = false

-- an entry that is over ends when a read comes, or a request without SEG that is not the kept one, or a segment 0 that is not that of its request; that of a
-- read ends also with its reply
abbrev pub is_ended_by : Reads → ServerTransaction → Apdu → Bool
is_ended_by reads e (ConfirmedRequest limits invoke_id None choice octets) = is_over e.state && (reads choice || not (is_kept e e.request choice octets))
is_ended_by reads e (ConfirmedRequest limits invoke_id (Some segment) choice octets) =
    is_over e.state && (nat_eq segment.number 0 && is_other_first e e.first choice octets)
is_ended_by reads e apdu = ends_with_reply reads e apdu

-- an APDU ends the entry of its key, if that is live
abbrev pub ends_entry : Reads → (now : ℕ) → Option ServerTransaction → Apdu → Bool
ends_entry reads now None apdu = false
ends_entry reads now (Some e) apdu = is_live now e && is_ended_by reads e apdu

-- the entry, unless the APDU ends it
abbrev pub entry_left : Reads → (now : ℕ) → Option ServerTransaction → Apdu → Option ServerTransaction
entry_left reads now entry apdu = if ends_entry reads now entry apdu then None else entry

abbrev pub has_transfer : Option ServerTransaction → Bool
has_transfer None = false
has_transfer (Some e) = goes_in_segments e.state

-- a read whose reply is one APDU begins no entry, and needs no free slot; one whose reply goes in segments is as any request
abbrev pub reads_so : Context → (dead : Option ServerTransaction) → (free : Bool) → Reaction → Reaction
reads_so c dead free r =
    if has_transfer r.entry then (if free then r else rests dead (server_abort c OTHER ∷ []))
    else record { entry = dead; sends = r.sends; effect = r.effect }

-- a read comes without SEG where no entry is live
abbrev pub idle_on_read : Context → Service → (dead : Option ServerTransaction) → (free : Bool) → (choice : ℕ) → Limits → Octets → Reaction
idle_on_read c service dead free choice limits octets = reads_so c dead free (performs c service (begins c choice limits (Some octets)) [] octets)

-- an APDU comes where no entry is live
abbrev pub idle_reusing : Context → Service → Reads → (dead : Option ServerTransaction) → (free : Bool) → Apdu → Reaction
idle_reusing c service reads dead free (ConfirmedRequest limits invoke_id None choice octets) =
    if reads choice then idle_on_read c service dead free choice limits octets else idle_on_request c service dead free choice limits octets
idle_reusing c service reads dead free (ConfirmedRequest limits invoke_id (Some segment) choice octets) =
    idle_on_segment c service dead free choice limits segment octets
idle_reusing c service reads dead free _ = rests dead []

-- an APDU comes for the entry that is left of its peer and invoke ID
abbrev pub left_on_apdu : Context → Service → Reads → Option ServerTransaction → (free : Bool) → Apdu → Reaction
left_on_apdu c service reads entry free apdu =
    if is_none_live c.now entry then idle_reusing c service reads entry free apdu else server_on_apdu c service entry free apdu

-- an APDU comes: an entry that it ends counts as none; free says whether, without that entry, a slot of the reply table has no live one
abbrev pub reusing_on_apdu : Context → Service → Reads → Option ServerTransaction → (free : Bool) → Apdu → Reaction
reusing_on_apdu c service reads entry free apdu = left_on_apdu c service reads (entry_left reads c.now entry apdu) free apdu

-- the machine of either setting of a node
abbrev pub server_hears : (reuse : Bool) → Context → Service → Reads → Option ServerTransaction → (free : Bool) → Apdu → Reaction
server_hears true c service reads entry free apdu = reusing_on_apdu c service reads entry free apdu
server_hears false c service reads entry free apdu = server_on_apdu c service entry free apdu
