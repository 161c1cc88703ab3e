-- Consequences of the limits.
use Rattle.std.proofs.Common.{◌≡◌, ◌≤◌, ◌+◌, ◌++◌, ℕ, List, length, refl, arith}
use Rattle.std.specs.Prelude.{replicate}
use Rattle.std.specs.List.{concat}
use Rattle.std.proofs.lemmas.List.{take_all}
use Rattle.bac_capture.specs.declared.moment.TheConstants.{OPTION_LIMIT}
use Rattle.bac_capture.specs.declared.order.Order.TheVariants.{Big}
use Rattle.bac_capture.specs.Moments.{resolution_in}
use Rattle.bac_capture.specs.Options.{comment, end_of_options, nanoseconds}
use Rattle.bac_capture.specs.Runs.{RUN_LIMIT, kept}

pub longest_kept : (run : List ℕ) → length run ≤ 16 + 22 + 40 + 65535 → kept run ≡ run
longest_kept run short = take_all RUN_LIMIT run (omega (arith, short))

pub last_option : resolution_in OPTION_LIMIT Big (concat (replicate 63 comment) ++ nanoseconds) ≡ 9
unfolding resolution_in
last_option = refl

pub option_beyond : resolution_in OPTION_LIMIT Big (concat (replicate 64 comment) ++ nanoseconds) ≡ 6
unfolding resolution_in
option_beyond = refl

pub options_ended : resolution_in OPTION_LIMIT Big (end_of_options ++ nanoseconds) ≡ 6
unfolding resolution_in
options_ended = refl
