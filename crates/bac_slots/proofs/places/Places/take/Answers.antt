-- The first place is removed, or another one.
use Rattle.std.proofs.Common.{arith}
use Rattle.bac_slots.specs.Indexes.{rank_at}
use Rattle.bac_slots.proofs.Numbers.{from_zero, took_first, took_other}
use Rattle.bac_slots.proofs.places.Places.take.Goals as goal

pub invariant_of-self : goal.invariant_of-self
invariant_of-self c =
    let once = rw (← c.self.view_is) at c.requires.once in
    let i = c.self.inside in (
      omega (arith, c.if-self-lt-MOST_PLACES.true),
      (took_first i.gone i.numbers.0 c.remove-is_closed.new.self.0 (rank_at i.numbers.2 c.args.spot.block c.args.spot.at) c.args.place c.self.invariant.1 c.remove-is_closed.ensures.numbers c.if-place-eq0.true once).0,
    )

pub invariant_of-self-else-place-eq0 : goal.invariant_of-self-else-place-eq0
invariant_of-self-else-place-eq0 c =
    (omega arith, from_zero c.settle.new.self.0)

pub returns-then-self-lt-MOST_PLACES-clause-places : goal.returns-then-self-lt-MOST_PLACES-clause-places
returns-then-self-lt-MOST_PLACES-clause-places c =
    let once = rw (← c.self.view_is) at c.requires.once in
    let i = c.self.inside in
    rw (← c.self.view_is)
    ((took_first i.gone i.numbers.0 c.remove-is_closed.new.self.0 (rank_at i.numbers.2 c.args.spot.block c.args.spot.at) c.args.place c.self.invariant.1 c.remove-is_closed.ensures.numbers c.if-place-eq0.true once).1)

pub returns-else-place-eq0-clause-places : goal.returns-else-place-eq0-clause-places
returns-else-place-eq0-clause-places c =
    let i = c.self.inside in
    rw (← c.self.view_is)
    (took_other i.gone i.numbers.0 c.remove-is_closed.new.self.0 c.settle.new.self.0 (rank_at i.numbers.2 c.args.spot.block c.args.spot.at) c.args.place c.remove-is_closed.ensures.numbers
    c.settle.ensures.numbers)
