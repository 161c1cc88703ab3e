use Rattle.std.proofs.Common.{◌≡◌, ◌≤◌, map, take}
use Rattle.bac_driver.specs.Turns.{counted, call_of, with_calls}
use Rattle.bac_driver.proofs.sending.send_all.Given as goal

abbrev pub invariant-loop-datagram : goal.invariant-loop-datagram
invariant-loop-datagram g l = record {
  most : l.lost ≤ l.datagram-index;
  count : g.L.Link.failures l.link ≡ counted (g.L.Link.failures l.initial.link) l.lost;
  order : g.L.Link.calls l.link ≡ with_calls (g.L.Link.calls l.initial.link) (map call_of (take l.datagram-index l.sends));
}
