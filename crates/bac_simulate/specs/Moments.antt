-- Moments of a world in whole milliseconds of real time: where nodes have clocks of their own, a world counts them in millionths of one.
use Rattle.std.specs.Prelude.{ℕ, ◌/◌}
use Rattle.bac_journal.specs.Clocks.{parts_of}
use Rattle.bac_network.specs.Histories.{WorldView}

-- how many parts of a moment a millisecond has
abbrev pub parts_in : WorldView → ℕ
parts_in w = parts_of w.time.own

-- the present one
abbrev pub ms_now : WorldView → ℕ
ms_now w = w.time.moment / parts_in w
