-- The remaining options have the same result as all options.
use Rattle.std.proofs.Common.{◌≡◌, ◌-◌}
use Rattle.bac_capture.specs.Moments.{resolution_in}
use Rattle.bac_capture.proofs.moment.resolution_in.Given as goal

abbrev pub invariant-loop : goal.invariant-loop
invariant-loop l = resolution_in l.limit l.order l.options ≡ resolution_in (l.limit - l.counter) l.order l.left
