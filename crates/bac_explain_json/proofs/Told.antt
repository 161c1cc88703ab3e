-- What the object of a transaction says, and that of a frame.
use Rattle.std.proofs.Common.{◌≡◌, ℕ, List, Option, Some}
use Rattle.bac_apdu.specs.Reading.{apdu_at}
use Rattle.bac_explain.specs.Keys.{Key}
use Rattle.bac_explain.specs.Sent.{SentView}
use Rattle.bac_explain.specs.Tables.{ClosedView}
use Rattle.bac_explain.specs.declared.finding.Finding.{Finding}
use Rattle.bac_explain_report.specs.AnswerWords as answer
use Rattle.bac_explain_report.specs.RequestWords as request
use Rattle.bac_explain_report.specs.declared.unread.Unread.{Unread}
use Rattle.bac_json_report.specs.TimeForms.{IsTimeForm}
use Rattle.bac_moment.specs.Times.{IsTextOf}
use Rattle.serde_json.specs.Data.{Data}
use Rattle.bac_explain_json.specs.Carried.{IsAnswerIn, IsAskedIn}
use Rattle.bac_explain_json.specs.Lines.{IsFinding, IsUnread, finding_form, unread_form}
use Rattle.bac_explain_json.specs.Objects.{AnsweredMembers, AreAnswered, AreAnsweredIn, AreAsked, AskedMembers, IsObject, answered_members, asked_members}
use Rattle.bac_explain_json.specs.Objects.{end_members, peer_members, transaction_object}

pub asked_told : (s : SentView) (asked : Data) (words : List ℕ) (time : Option (List ℕ)) (m : AskedMembers) → IsAskedIn (apdu_at s.octets) asked
    → request.AreOctetsWords s.octets words → IsTextOf (Some s.moment) time → m ≡ asked_members s asked words time → AreAsked s m
asked_told s asked words time m is_asked are time_of is =
    record { asked = asked; is_asked = is_asked; words = words; are = are; time = time; time_of = time_of; is = is }

pub answered_told : (after : ℕ) (s : SentView) (told : Data) (words : List ℕ) (m : AnsweredMembers) → IsAnswerIn (apdu_at s.octets) told
    → answer.AreOctetsWords s.octets words → m ≡ answered_members after s told words → AreAnswered after s m
answered_told after s told words m is_told are is = record { told = told; is_told = is_told; words = words; are = are; is = is }

pub object_told : (c : ClosedView) (asked : AskedMembers) (answered : AnsweredMembers) (d : Data) → AreAsked c.transaction.request asked
    → AreAnsweredIn c.transaction.request.moment c.transaction.answer answered
    → d ≡ transaction_object (peer_members c.key) asked answered (end_members c.transaction) → IsObject c d
object_told c asked answered d are_asked are_answered is =
    record { asked = asked; are_asked = are_asked; answered = answered; are_answered = are_answered; is = is }

pub unread_told : (frame : ℕ) (moment : Option ℕ) (why : Unread) (time d : Data) → IsTimeForm moment time → d ≡ unread_form frame moment time why
    → IsUnread frame moment why d
unread_told frame moment why time d of is = record { time = time; time_of = of; is = is }

pub finding_told : (frame : ℕ) (moment : Option ℕ) (k : Key) (finding : Finding) (time d : Data) → IsTimeForm moment time
    → d ≡ finding_form frame moment time k finding → IsFinding frame moment k finding d
finding_told frame moment k finding time d of is = record { time = time; time_of = of; is = is }
