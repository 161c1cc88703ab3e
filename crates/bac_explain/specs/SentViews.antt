-- The abstract values of requests and replies that were seen, and of transactions.
use Rattle.bac_explain.specs.declared.sent.Sent.{Sent}
use Rattle.bac_explain.specs.Sent.{SentView}

abbrev pub sent_view : Sent → SentView
sent_view s = record {
  moment = s.moment;
  octets = s.octets.items;
  times = s.times;
  segments = s.segments;
  number = s.number;
  index = s.index;
  last = s.last;
  whole = s.whole;
  grant = s.grant;
}
