-- What contracts see of the types in code.
use Rattle.std.specs.Prelude.{Bool, true, false, List, [], ◌∷◌, Result, Ok, Err}
use Rattle.bac_segment.specs.Pieces.{join, pieces_of}
use Rattle.bac_segment.specs.Window.{Outgoing}
use Rattle.bac_service.specs.Views.{owned_reply_view}
use Rattle.bac_protocol.specs.Service.{Octets}
use Rattle.bac_protocol.specs.Sizes as sizes
use Rattle.bac_protocol.specs.Client as client
use Rattle.bac_transaction.specs.Ends as ends
use Rattle.bac_transaction.specs.Meanings as meanings
use Rattle.bac_requester.specs.declared.transaction.RequestState.{RequestState}
use Rattle.bac_requester.specs.declared.transaction.Phase.{Phase}
use Rattle.bac_requester.specs.declared.transaction.Phase.TheVariants as phase
use Rattle.bac_requester.specs.declared.transaction_slot.TransactionSlot.{TransactionSlot}
use Rattle.bac_requester.specs.declared.transaction_slot.TransactionSlot.TheVariants as held
use Rattle.bac_requester.specs.declared.ending.Ending.{Ending}
use Rattle.bac_requester.specs.declared.ending.Ending.TheVariants as ending
use Rattle.bac_requester.specs.declared.outgoing_request.RequestFault.{RequestFault}
use Rattle.bac_requester.specs.declared.outgoing_request.RequestFault.TheVariants as fault
use Rattle.bac_requester.specs.declared.outgoing_request.RequestWay.{RequestWay}
use Rattle.bac_requester.specs.declared.outgoing_request.RequestWay.TheVariants as way

-- the pieces of a request whose sender has these: one, where it goes in one APDU
abbrev pub pieces_in : (whole : Bool) → List Octets → List Octets
pieces_in true pieces = join pieces ∷ []
pieces_in false pieces = pieces

abbrev pub ask_view : RequestState → client.Ask
ask_view c = record { first = c.first; choice = c.choice; whole = c.whole; pieces = pieces_in c.whole c.outgoing.pieces }

abbrev pub phase_view : Outgoing → Phase → client.Phase
phase_view sender (phase.SegmentedRequest all_sent) = client.Phase.SegmentedRequest sender all_sent
phase_view sender phase.AwaitConfirmation = client.Phase.AwaitConfirmation
phase_view sender (phase.SegmentedConf incoming) = client.Phase.SegmentedConf incoming

abbrev pub ticket_view : RequestState → Phase → client.ClientTransaction
ticket_view c p = record { ask = ask_view c; phase = phase_view c.outgoing p; repeats = c.repeats; since = c.since }

abbrev pub held_view : TransactionSlot → ends.TransactionSlot
held_view (held.Open t) = ends.TransactionSlot.Open t
held_view (held.Closed first) = ends.TransactionSlot.Closed first

abbrev pub ending_view : Ending → meanings.Ending
ending_view (ending.Answered r) = meanings.Ending.Answered (owned_reply_view r)
ending_view (ending.Rejected reason) = meanings.Ending.Rejected reason
ending_view (ending.Aborted reason) = meanings.Ending.Aborted reason
ending_view ending.TimedOut = meanings.Ending.TimedOut
ending_view ending.Expired = meanings.Ending.Expired

abbrev pub fault_view : RequestFault → sizes.RequestFault
fault_view fault.NeedsSegments = sizes.RequestFault.NeedsSegments
fault_view fault.TooLong = sizes.RequestFault.TooLong

-- the way that those service data go, or why they can't
abbrev pub way_view : Octets → Result RequestWay RequestFault → sizes.Way sizes.RequestFault
way_view octets (Ok way.InOne) = sizes.Way.InOne
way_view octets (Ok (way.InSegments size)) = sizes.Way.InSegments (pieces_of size octets)
way_view octets (Err why) = sizes.Way.Refused (fault_view why)
