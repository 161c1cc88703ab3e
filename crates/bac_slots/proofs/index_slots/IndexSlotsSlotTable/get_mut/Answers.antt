-- The slot has whatever value the borrow left.
use Rattle.std.proofs.Common.{sym, refl, length-set}
use Rattle.bac_slots.proofs.Slots.{with_value-none}
use Rattle.bac_slots.proofs.Joined.{joined_absent, joined_set, joined_value}
use Rattle.bac_slots.proofs.index_slots.IndexSlotsSlotTable.get_mut.Goals as goal

pub returns-in-Err : goal.returns-in-Err
returns-in-Err g c =
    let absent = joined_absent g.K.PartialEq.eq c.args.key.now c.self.inside.keys.items c.self.inside.entries.items c.in-Err.ensures.2 in
    rw (← c.self.view_is) (
      (refl, (λ w. (sym (with_value-none g.K.PartialEq.eq c.args.key.now w _ absent), refl)), (refl, refl)),
      record { writes_back = tt; value = sym absent },
    )

pub invariant_of-self-lent : goal.invariant_of-self-lent
invariant_of-self-lent g c = λ w.
    let i = c.self.invariant in (i.0, i.1, i.2, i.3, i.4, i.5, i.6, simp length-set (i.7))

pub returns-in-Ok : goal.returns-in-Ok
returns-in-Ok g c =
    rw (← c.self.view_is) (
      (
        refl,
        (λ w. (
          joined_set g.K.PartialEq.eq c.args.key.now w w c.in-Ok.seen.place c.self.inside.keys.items c.self.inside.entries.items c.index_mut.result.now
              c.self.invariant.7 c.in-Ok.ensures.3 c.index_mut.ensures.value refl,
          refl,
        )),
        (refl, refl),
      ),
      record {
        writes_back = tt;
        value = sym (joined_value g.K.PartialEq.eq c.args.key.now c.in-Ok.seen.place c.self.inside.keys.items c.self.inside.entries.items
            c.index_mut.result.now c.self.invariant.7 c.in-Ok.ensures.3 c.index_mut.ensures.value);
      },
    )
