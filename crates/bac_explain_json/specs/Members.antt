-- The members of an object, in code.
use Rattle.serde_json.specs.View.{view}
use Rattle.bac_explain_json.specs.Objects as plain
use Rattle.bac_explain_json.specs.declared.members.AnsweredMembers.{AnsweredMembers}
use Rattle.bac_explain_json.specs.declared.members.AskedMembers.{AskedMembers}
use Rattle.bac_explain_json.specs.declared.members.EndMembers.{EndMembers}
use Rattle.bac_explain_json.specs.declared.members.PeerMembers.{PeerMembers}

abbrev pub peers_view : PeerMembers → plain.PeerMembers
peers_view m = record { client = view m.client; invoke_id = view m.invoke_id; server = view m.server }

abbrev pub asked_view : AskedMembers → plain.AskedMembers
asked_view m = record {
  asked_at = view m.asked_at;
  request = view m.request;
  request_text = view m.request_text;
  requests = view m.requests;
  segments = view m.segments;
  time = view m.time;
}

abbrev pub answered_view : AnsweredMembers → plain.AnsweredMembers
answered_view m = record {
  after = view m.after;
  answer = view m.answer;
  answer_segments = view m.answer_segments;
  answer_text = view m.answer_text;
  answers = view m.answers;
}

abbrev pub end_view : EndMembers → plain.EndMembers
end_view m = record {
  findings = view m.findings;
  frames = view m.frames;
  given_up = view m.given_up;
  negative_acks = view m.negative_acks;
  status = view m.status;
  unanswered = view m.unanswered;
}
