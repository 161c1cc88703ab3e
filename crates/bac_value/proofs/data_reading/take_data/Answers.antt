use Rattle.std.proofs.Common.{◌≡◌, ◌-◌, ◌∙◌, ap, arith, length, take}
use Rattle.bac_value.proofs.Forests.{data_taken, data_refused}
use Rattle.bac_value.proofs.data_reading.take_data.Goals as goal

pub returns-in-Ok-clause-found : goal.returns-in-Ok-clause-found
returns-in-Ok-clause-found g c =
    let bytes = g.O.Octets.octets c.args.octets in
    let rest = g.O.Octets.octets c.in-Ok.rest in
    let count : c.len-all.result - c.len.result ≡ length bytes - length rest = omega (arith, c.len-all.ensures.count, c.len.ensures.count) in
    data_taken bytes (g.O.Octets.octets c.front.result) rest c.len-all.ensures.each (c.front.ensures ∙ ap (λ n. take n bytes) count) c.in-Ok.ensures.1

pub returns-in-Err-clause-refused : goal.returns-in-Err-clause-refused
returns-in-Err-clause-refused g c = record {
  none = data_refused (g.O.Octets.octets c.args.octets) c.in-Err.fault.kind c.in-Err.ensures.1;
  exact = c.in-Err.ensures.1;
  place = c.in-Err.ensures.0;
  at_fault = c.in-Err.ensures.2;
}
