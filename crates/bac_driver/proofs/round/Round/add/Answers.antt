use Rattle.std.proofs.Common.{◌∙◌, ◌||◌, arith, ap, map}
use Rattle.bac_driver.specs.Views.{turn_view}
use Rattle.bac_driver.proofs.ChangesOfTurns.{changed_one_more, counted_one_more, few_performed}
use Rattle.bac_driver.proofs.round.Round.add.Goals as goal

pub overflow_add-self : goal.overflow_add-self
overflow_add-self g c =
    let few = few_performed (map turn_view c.args.self.now.turns.items) in
    omega (arith, few, c.requires, c.args.self.now.counted, c.effects-more.ensures.few)

pub invariant_of-self : goal.invariant_of-self
invariant_of-self g c =
    record {
      room = omega (arith, c.args.self.now.room, c.push_reserved.ensures.capacity);
      counted =
          counted_one_more turn_view c.args.self.now.turns.items c.push_reserved.new.self.items c.args.turn _ c.effects-more.result c.args.self.now.counted
          c.effects-more.ensures.number c.push_reserved.ensures.items;
      changed =
          changed_one_more turn_view c.args.self.now.turns.items c.push_reserved.new.self.items c.args.turn c.args.self.now.is_changed
          c.either-is_changed.result c.args.self.now.changed
          (c.either-is_changed.ensures ∙ ap (λ b. c.args.self.now.is_changed || b) c.changes_store.ensures) c.push_reserved.ensures.items;
    }
