-- What a log says of a datagram and of what was sent for it.
use Rattle.std.specs.Prelude.{◌≡◌, ◌==◌, ℕ, List, [], ◌∷◌, ◌++◌, codes, decimal, Option, Some, None, Result, Ok, Err, if◌then◌else◌}
use Rattle.bac_apdu.specs.Apdu.{Apdu, Segment, ConfirmedRequest, UnconfirmedRequest, SimpleAck, ComplexAck, SegmentAck, Error, Reject, Abort}
use Rattle.bac_npdu.specs.Faults.{fault_number}
use Rattle.bac_npdu.specs.declared.fault.Dropped.{Dropped}
use Rattle.bac_npdu.specs.declared.fault.Dropped.TheVariants as why
use Rattle.bac_npdu.specs.declared.fault.FrameFault.{FrameFault}
use Rattle.bac_text.specs.Faults.{frame_reason}
use Rattle.bac_value.specs.declared.fault.Fault.{Fault}
use Rattle.bac_service.specs.Services.{complex_at}
use Rattle.bac_service.specs.Values.{Complex}
use Rattle.bac_service.specs.Replies as reply
use Rattle.bac_transaction.specs.Sends.{Datagram}
use Rattle.bac_world.specs.Node.{Cause}
use Rattle.bac_world.specs.Node.Cause.{NoFrame, NoApdu, OwnLink}
use Rattle.bac_world.specs.Services.{Performed}
use Rattle.bac_service_text.specs.Answers.{AreReplyWords}
use Rattle.bac_service_text.specs.Dispatch.{AreRequestWords}
use Rattle.bac_service_text.specs.Reasons as reasons
use Rattle.bac_service_text.specs.ServiceData.{AreRequestDataWords}
use Rattle.bac_server.specs.Frames.{apdu_in}

-- ---- why a datagram was dropped

-- the layer, and the number and the name of its fault
abbrev pub layer_words : (layer : List ℕ) → FrameFault → List ℕ
layer_words layer fault = layer ++ (codes " " ++ (decimal (fault_number fault) ++ (codes " (" ++ (frame_reason fault ++ codes ")"))))

abbrev pub dropped_words : Dropped → List ℕ
dropped_words (why.Bvll fault) = layer_words (codes "bvll") fault
dropped_words (why.Npdu fault) = layer_words (codes "npdu") fault
dropped_words why.Routed = codes "to be routed"
dropped_words why.NetworkMessage = codes "network message"

abbrev pub cause_words : Cause → List ℕ
cause_words (NoFrame why) = dropped_words why
cause_words NoApdu = codes "invalid APDU"
cause_words OwnLink = codes "from its own link"

-- ---- what came

abbrev pub segment_words : (choice : ℕ) → Segment → List ℕ
segment_words choice s = codes "service " ++ (decimal choice ++ (codes " segment " ++ decimal s.number))

-- a request, or a segment of one
abbrev pub AreAskedWords : Option Segment → (choice : ℕ) → (service : List ℕ) → List ℕ → Type 0
AreAskedWords None choice service words = AreRequestDataWords choice service words
AreAskedWords (Some s) choice service words = words ≡ segment_words choice s

abbrev pub AreCameWords : Apdu → List ℕ → Type 0
AreCameWords (ConfirmedRequest limits invoke_id segment choice service) words = AreAskedWords segment choice service words
AreCameWords (UnconfirmedRequest choice service) words = words ≡ codes "unconfirmed-request " ++ decimal choice
AreCameWords (SimpleAck invoke_id choice) words = words ≡ codes "simple-ack"
AreCameWords (ComplexAck invoke_id segment choice service) words = words ≡ codes "complex-ack"
AreCameWords (SegmentAck server invoke_id ack) words = words ≡ codes "segment-ack " ++ decimal ack.number
AreCameWords (Error invoke_id choice class code) words = words ≡ codes "error"
AreCameWords (Reject invoke_id reason) words = words ≡ codes "reject"
AreCameWords (Abort server invoke_id reason) words = words ≡ reasons.abort_words reason

-- a request that was performed is printed whole, also where it came in segments
abbrev pub AreAskingWords : Option Performed → Apdu → List ℕ → Type 0
AreAskingWords None a words = AreCameWords a words
AreAskingWords (Some p) a words = AreRequestWords p.request words

-- ---- what was sent

abbrev pub complex_reply : Result Complex Fault → Option reply.Reply
complex_reply (Ok c) = Some (reply.Complex c)
complex_reply (Err fault) = None

abbrev pub part_reply : Option Segment → (choice : ℕ) → (service : List ℕ) → Option reply.Reply
part_reply None choice service = complex_reply (complex_at choice service)
part_reply (Some s) choice service = None

-- the answer that an APDU is; nothing was performed, so it was kept
abbrev pub kept_reply : Apdu → Option reply.Reply
kept_reply (SimpleAck invoke_id choice) = Some reply.Simple
kept_reply (ComplexAck invoke_id segment choice service) = part_reply segment choice service
kept_reply (Error invoke_id choice class code) = Some (reply.Error class code)
kept_reply _ = None

pub record AreRepeatWords (r : reply.Reply) (words : List ℕ) : Type 0 where
  pub answer : List ℕ
  pub are : AreReplyWords r answer
  pub is : words ≡ codes "repeat, " ++ answer

-- an Abort of reason 0 turns a request away; there is more to say of it
abbrev pub abort_words : (away : List ℕ) → (reason : ℕ) → List ℕ
abort_words away reason = reasons.aborted_words reason ++ (if reason == 0 then away else [])

-- any other APDU
abbrev pub other_words : (away : List ℕ) → Apdu → List ℕ
other_words away (ComplexAck invoke_id (Some s) choice service) = codes "segment " ++ decimal s.number
other_words away (SegmentAck server invoke_id ack) = codes "segment-ack " ++ decimal ack.number
other_words away (Reject invoke_id reason) = reasons.rejected_words reason
other_words away (Abort server invoke_id reason) = abort_words away reason
other_words away _ = codes "sent"

abbrev pub AreReplyOrWords : Option reply.Reply → (other : List ℕ) → List ℕ → Type 0
AreReplyOrWords None other words = words ≡ other
AreReplyOrWords (Some r) other words = AreRepeatWords r words

-- by the first datagram
abbrev pub AreSentWords : (away : List ℕ) → Option Apdu → List ℕ → Type 0
AreSentWords away None words = words ≡ codes "sent"
AreSentWords away (Some a) words = AreReplyOrWords (kept_reply a) (other_words away a) words

-- what was performed is printed by its reply
abbrev pub AreDoneWords : (away : List ℕ) → Option Performed → (sends : List Datagram) → List ℕ → Type 0
AreDoneWords away (Some p) sends words = AreReplyWords p.reply words
AreDoneWords away None [] words = words ≡ codes "nothing"
AreDoneWords away None (d ∷ ds) words = AreSentWords away (apdu_in d.octets) words
