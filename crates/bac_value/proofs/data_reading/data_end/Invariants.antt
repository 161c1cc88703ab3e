use Rattle.std.proofs.Common.{IsTrue, ◌≡◌, ◌<◌, ◌≤◌, ℕ, suc, [], length, reverse}
use Rattle.bac_value.specs.Reading.{data_at, data_of, fault_rest, IsOver}
use Rattle.bac_value.proofs.data_reading.data_end.Given as goal

abbrev pub invariant-loop-opened : goal.invariant-loop-opened
invariant-loop-opened g l =
    let octets = g.O.Octets.octets in
    record {
      fewer : length (octets l.rest) ≤ length (octets l.fn.octets);
      same : (steps : ℕ) × (length (octets l.rest) < steps) × (data_at steps (reverse l.opened.items) (octets l.rest) ≡ data_of (octets l.fn.octets))
          × (fault_rest steps (reverse l.opened.items) (octets l.rest) ≡ fault_rest (suc (length (octets l.fn.octets))) [] (octets l.fn.octets));
      over : IsTrue l.is_over → IsOver (reverse l.opened.items) (octets l.rest);
    }

abbrev pub decreases-loop-opened : goal.decreases-loop-opened
decreases-loop-opened g l = length (g.O.Octets.octets l.rest)
