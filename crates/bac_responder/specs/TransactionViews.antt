-- What contracts see of the types in code.
use Rattle.std.specs.Prelude.{ℕ, true, Option, None}
use Rattle.std.specs.Option.{option_map}
use Rattle.bac_apdu.specs.Apdu.{Apdu}
use Rattle.bac_apdu.specs.Views.{limits_view}
use Rattle.bac_service.specs.Views.{owned_request_view, owned_reply_view}
use Rattle.bac_protocol.specs.Service as machine
use Rattle.bac_protocol.specs.Server as server
use Rattle.bac_protocol.specs.Short.{IsShort}
use Rattle.bac_transaction.specs.Segments.{ArePiecesShort}
use Rattle.bac_transaction.specs.Services.{Performed}
use Rattle.bac_responder.specs.declared.effect.Effect.{Effect}
use Rattle.bac_responder.specs.declared.server_transaction.Origin.{Origin}
use Rattle.bac_responder.specs.declared.server_transaction.Reassembly.{Reassembly}
use Rattle.bac_responder.specs.declared.server_transaction.ReplyTransfer.{ReplyTransfer}
use Rattle.bac_responder.specs.declared.server_transaction.State as state
use Rattle.bac_responder.specs.declared.server_transaction.State.TheVariants as state_case
use Rattle.bac_responder.specs.declared.server_transaction.Transfer as transfer
use Rattle.bac_responder.specs.declared.server_transaction.Transfer.TheVariants as transfer_case
use Rattle.bac_responder.specs.declared.kept_reply.SpelledReply as reply
use Rattle.bac_responder.specs.declared.kept_reply.SpelledReply.TheVariants as reply_case
use Rattle.bac_responder.specs.declared.kept_reply.KeptReply as kept
use Rattle.bac_responder.specs.declared.kept_reply.KeptReply.TheVariants as kept_case

abbrev pub effect_view : Effect → Performed
effect_view e = record { request = owned_request_view e.request; reply = owned_reply_view e.reply }

abbrev pub performed_view : Option Effect → Option Performed
performed_view e = option_map effect_view e

abbrev pub spelled_view : reply.SpelledReply → machine.Reply
spelled_view reply_case.Simple = machine.Reply.Simple
spelled_view (reply_case.Complex octets) = machine.Reply.Complex octets.items
spelled_view (reply_case.Error class code) = machine.Reply.Error class code

-- the APDU that a kept reply is
abbrev pub kept_reply_view : (invoke_id choice : ℕ) → kept.KeptReply → Apdu
kept_reply_view invoke_id choice (kept_case.Reply reply_case.Simple) = Apdu.SimpleAck invoke_id choice
kept_reply_view invoke_id choice (kept_case.Reply (reply_case.Complex octets)) = Apdu.ComplexAck invoke_id None choice octets.items
kept_reply_view invoke_id choice (kept_case.Reply (reply_case.Error class code)) = Apdu.Error invoke_id choice class code
kept_reply_view invoke_id choice (kept_case.Reject reason) = Apdu.Reject invoke_id reason
kept_reply_view invoke_id choice (kept_case.Abort reason) = Apdu.Abort true invoke_id reason

abbrev pub transfer_view : transfer.Transfer → server.Transfer
transfer_view transfer_case.Running = server.Transfer.Running
transfer_view transfer_case.Stopped = server.Transfer.Stopped
transfer_view transfer_case.Finished = server.Transfer.Finished

-- a reassembly and a transfer as states of the machine
abbrev pub reassembly_state : Reassembly → server.State
reassembly_state r = server.State.SegmentedRequest r.incoming r.since

abbrev pub transfer_state : ReplyTransfer → server.State
transfer_state r = server.State.SegmentedResponse r.outgoing (transfer_view r.transfer) r.since

abbrev pub state_view : (choice : ℕ) → state.State → server.State
state_view choice (state_case.SegmentedRequest r) = reassembly_state r
state_view choice (state_case.Done invoke_id k) = server.State.Done (kept_reply_view invoke_id choice k)
state_view choice (state_case.SegmentedResponse r) = transfer_state r
state_view choice state_case.Dropped = server.State.Dropped

-- the most octets in a segment of a reply: with the five in front of them they fill the longest APDU (clauses 20.1.2.5 and 20.1.5)
abbrev pub LONGEST_PIECE : ℕ
LONGEST_PIECE = 1471

-- what an entry keeps can be sent
abbrev pub IsSendable : (choice : ℕ) → state.State → Type 0
IsSendable choice (state_case.SegmentedRequest r) = Unit {0}
IsSendable choice (state_case.Done invoke_id k) = IsShort (kept_reply_view invoke_id choice k)
IsSendable choice (state_case.SegmentedResponse r) = ArePiecesShort LONGEST_PIECE r.outgoing
IsSendable choice state_case.Dropped = Unit {0}

-- an entry of this origin in a state
abbrev pub entry_of : Origin → server.State → server.ServerTransaction
entry_of o s =
    record {
      begin = o.begin;
      choice = o.terms.choice;
      limits = limits_view o.terms.limits;
      request = option_map (λ v. v.items) o.request;
      first = option_map (λ v. v.items) o.first;
      state = s;
    }

abbrev pub entry_view : Origin → state.State → server.ServerTransaction
entry_view o s = entry_of o (state_view o.terms.choice s)
