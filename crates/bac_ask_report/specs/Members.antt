-- The members of an object, in code.
use Rattle.serde_json.specs.View.{view}
use Rattle.bac_ask_report.specs.Objects as plain
use Rattle.bac_ask_report.specs.declared.members.AnswerMembers.{AnswerMembers}
use Rattle.bac_ask_report.specs.declared.object.AskedMembers.{AskedMembers}
use Rattle.bac_ask_report.specs.declared.object.EndMembers.{EndMembers}

abbrev pub answer_members_view : AnswerMembers → plain.AnswerMembers
answer_members_view m = record {
  class = view m.class;
  code = view m.code;
  end = view m.end;
  octets = view m.octets;
  position = view m.position;
  reason = view m.reason;
  values = view m.values;
}

abbrev pub asked_members_view : AskedMembers → plain.AskedMembers
asked_members_view m = record {
  index = view m.index;
  line = view m.line;
  named = view m.named;
  peer = view m.peer;
  property = view m.property;
  request = view m.request;
}

abbrev pub end_members_view : EndMembers → plain.EndMembers
end_members_view m = record {
  moment = view m.moment;
  round = view m.round;
  status = view m.status;
  text = view m.text;
  time = view m.time;
}
