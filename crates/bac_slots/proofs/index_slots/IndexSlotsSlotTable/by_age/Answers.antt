-- The key and the entry at a place make the slot there.
use Rattle.std.proofs.Common.{◌<◌, length, refl, arith}
use Rattle.std.proofs.lemmas.Option.{slice_get_read}
use Rattle.bac_slots.proofs.Joined.{joined_get, joined_past}
use Rattle.bac_slots.proofs.index_slots.IndexSlotsSlotTable.by_age.Goals as goal

pub returns-in_err-key : goal.returns-in_err-key
returns-in_err-key g c =
    let past : c.args.n < length c.self.inside.keys.items → ⊥ =
    λ l. let e = c.in_err-key.ensures.variant.1 (omega (arith, l, c.self.inside.keys.ok.0)) in cc in
    rw (c.from_residual.ensures, ← c.self.view_is) (joined_past c.self.inside.keys.items c.self.inside.entries.items c.args.n c.self.invariant.7
    (omega (arith, past)))

pub returns : goal.returns
returns g c =
    let key = c.in_ok-key.ensures in
    let entry = c.in_ok-entry.ensures in
    rw (← c.self.view_is) (joined_get c.self.inside.keys.items c.self.inside.entries.items c.args.n c.in_ok-key.key.now c.in_ok-entry.entry.now
    (slice_get_read c.self.inside.keys.items _ c.args.n c.in_ok-key.key.now refl (omega (arith, key.variant.0 refl, c.self.inside.keys.ok.0)) key.lookup)
    (slice_get_read c.self.inside.entries.items _ c.args.n c.in_ok-entry.entry.now refl
    (omega (arith, entry.variant.0 refl, c.self.inside.entries.ok.0)) entry.lookup))
