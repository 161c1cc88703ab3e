-- The first n slots are equal.
use Rattle.std.proofs.Common.{◌≡◌, ℕ, ◌<◌, slice_get}
use Rattle.std.specs.Option.{option_map}
use Rattle.bac_slots.specs.Slots.{slot_seen}
use Rattle.bac_slots.proofs.comparing.same_tables.Given as goal

abbrev pub invariant-loop-n : goal.invariant-loop-n
invariant-loop-n g l =
    (k : ℕ) → k < l.n → option_map (slot_seen g.K.Same.seen g.T.Same.seen) (slice_get (g.S.SlotTable.slots l.one) k)
    ≡ option_map (slot_seen g.K.Same.seen g.T.Same.seen) (slice_get (g.S.SlotTable.slots l.other) k)
