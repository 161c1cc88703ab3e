-- The sum of the remaining words, added to the sum so far, is the sum of all.
use Rattle.std.proofs.Common.{◌≡◌, ◌-◌, ◌≤◌, length, drop}
use Rattle.bac_capture.specs.Sums.{sum_from}
use Rattle.bac_capture.proofs.sum.sum_of.Given as goal

abbrev pub invariant-loop-place : goal.invariant-loop-place
invariant-loop-place l = record {
  same : sum_from l.sum (drop l.place l.octets) ≡ sum_from 0 l.octets;
  word : l.sum ≤ 65535;
  within : l.place ≤ length l.octets;
}

abbrev pub decreases-loop-place : goal.decreases-loop-place
decreases-loop-place l = length l.octets - l.place
