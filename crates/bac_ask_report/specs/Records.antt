-- An ask, and how it ended.
use Rattle.std.specs.Prelude.{ℕ, List, Option}
use Rattle.bac_npdu.specs.Peers.{PeerView}
use Rattle.bac_npdu.specs.Views.{peer_view}
use Rattle.bac_service.specs.Replies.{Reply}
use Rattle.bac_service.specs.Values.{Request}
use Rattle.bac_service.specs.Views.{reply_view, request_view}
use Rattle.bac_ask_report.specs.declared.record.AskRecord as code_record
use Rattle.bac_ask_report.specs.declared.record.LineName as code_name
use Rattle.bac_ask_report.specs.declared.record.LineName.TheVariants as line_name
use Rattle.bac_ask_report.specs.declared.record.Outcome as code
use Rattle.bac_ask_report.specs.declared.record.Outcome.TheVariants as outcome

pub data Outcome : Type 0 where
  Answered : Reply → Outcome
  Rejected : (reason : ℕ) → Outcome
  Aborted : (reason : ℕ) → Outcome
  TimedOut : Outcome
  Expired : Outcome
  Refused : (fault : ℕ) → Outcome
  NoEnding : Outcome
  NoLink : Outcome

abbrev pub outcome_view : code.Outcome → Outcome
outcome_view (outcome.Answered r) = Answered (reply_view r)
outcome_view (outcome.Rejected reason) = Rejected reason
outcome_view (outcome.Aborted reason) = Aborted reason
outcome_view outcome.TimedOut = TimedOut
outcome_view outcome.Expired = Expired
outcome_view (outcome.Refused fault) = Refused fault
outcome_view outcome.NoEnding = NoEnding
outcome_view outcome.NoLink = NoLink

-- of the line that asks: no line of the list has one, or none of it asks; it has none, and another has one; or it has this one
pub data LineName : Type 0 where
  Unnamed : LineName
  Without : LineName
  Named : (name : List ℕ) → LineName

abbrev pub name_view : code_name.LineName → LineName
name_view line_name.Unnamed = Unnamed
name_view line_name.Without = Without
name_view (line_name.Named name) = Named name.now

-- the time of day in milliseconds, and how it ended in words
pub record AskRecord : Type 0 where
  pub time : Option ℕ
  pub line : Option ℕ
  pub name : LineName
  pub round : Option ℕ
  pub peer : PeerView
  pub request : Request
  pub outcome : Outcome
  pub words : List ℕ

abbrev pub record_view : code_record.AskRecord → AskRecord
record_view r = record {
  time = r.time;
  line = r.line;
  name = name_view r.name;
  round = r.round;
  peer = peer_view r.peer;
  request = request_view r.request;
  outcome = outcome_view r.outcome;
  words = r.words.now;
}
