-- The members of a line of the log, in code.
use Rattle.serde_json.specs.View.{view}
use Rattle.bac_log_json.specs.Logs as plain
use Rattle.bac_log_json.specs.declared.log.EventMembers.{EventMembers}

abbrev pub members_view : EventMembers → plain.EventMembers
members_view m = record {
  change = view m.change;
  count = view m.count;
  id = view m.id;
  peer = view m.peer;
  reply = view m.reply;
  request = view m.request;
  text = view m.text;
  wait = view m.wait;
  what = view m.what;
}
