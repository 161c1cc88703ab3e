-- The members of a line of what came of an event, in code.
use Rattle.serde_json.specs.View.{view}
use Rattle.bac_log_json.specs.Events as plain
use Rattle.bac_log_json.specs.Events.{nulls}
use Rattle.bac_log_json.specs.declared.event.DatagramMembers.{DatagramMembers}
use Rattle.bac_log_json.specs.declared.event.EventMembers.{EventMembers}
use Rattle.bac_log_json.specs.declared.event.WordMembers.{WordMembers}

abbrev pub words_view : WordMembers → plain.EventMembers
words_view w = record nulls {
  ask = view w.ask;
  fault = view w.fault;
  id = view w.id;
  node = view w.node;
  pace = view w.pace;
  peer = view w.peer;
  text = view w.text;
}

abbrev pub datagram_view : DatagramMembers → plain.EventMembers
datagram_view d = record nulls { from = view d.from; number = view d.number; octets = view d.octets; to = view d.to }

abbrev pub members_view : EventMembers → plain.EventMembers
members_view m = record {
  ask = view m.words.ask;
  fault = view m.words.fault;
  from = view m.datagram.from;
  id = view m.words.id;
  node = view m.words.node;
  number = view m.datagram.number;
  octets = view m.datagram.octets;
  pace = view m.words.pace;
  peer = view m.words.peer;
  text = view m.words.text;
  to = view m.datagram.to;
}
