-- One more number.
use Rattle.std.proofs.Common.{◌+◌, ◌∙◌, ap, sym, subst, arith}
use Rattle.bac_slots.specs.Indexes.{places_of, rank_at, AllFrom}
use Rattle.bac_slots.proofs.Numbers.{from_insert, places_insert}
use Rattle.bac_slots.proofs.places.Places.insert.Goals as goal

pub invariant_of-self : goal.invariant_of-self
invariant_of-self c =
    let i = c.self.inside in (
      c.self.invariant.0,
      subst (λ l. AllFrom i.gone l) (sym c.insert.ensures.numbers)
          (from_insert i.gone i.numbers.0 (rank_at i.numbers.2 c.args.spot.block c.args.spot.at) (c.args.place + i.gone) c.self.invariant.1 (omega arith)),
    )

pub returns-clause-places : goal.returns-clause-places
returns-clause-places c =
    let i = c.self.inside in
    rw (← c.self.view_is) (ap (λ l. places_of i.gone l) c.insert.ensures.numbers ∙ places_insert i.gone i.numbers.0 (rank_at i.numbers.2 c.args.spot.block c.args.spot.at) c.args.place)
