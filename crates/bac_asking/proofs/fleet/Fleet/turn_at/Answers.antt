-- The node at that place took the turn.
use Rattle.std.proofs.Common.{◌<◌, ◌∙◌, Some, IfOk, length, refl, sym, ap, slice_set, subst}
use Rattle.std.proofs.lemmas.Option.{slice_get_read}
use Rattle.bac_asking.specs.Fleets.{Fleet, IsTurnAt, Leaving}
use Rattle.bac_asking.proofs.Fleets.{turn_there}
use Rattle.bac_asking.proofs.fleet.Fleet.turn_at.Goals as goal

pub returns : goal.returns
returns g c =
    let fields = c.self.inside in
    let node = c.leaving.inside in
    let within : c.args.at < length fields.leaving.items = subst (λ (f : Fleet). c.args.at < length f.leaving) (sym c.self.view_is) c.requires in
    let after : Fleet =
    record {
      number = fields.number;
      leaving = slice_set fields.leaving.items c.args.at (record { number = node.number; bound_node = c.turn_before.new.self });
    } in
    record {
      taken =
          subst
          (λ (f : Fleet).
          IfOk c.turn_before.result
          (λ t.
          IsTurnAt c.args.at c.args.wait_limit.now t (g.C.Clock.told c.args.clock.now) (g.C.Clock.told c.turn_before.new.clock) f after))
          c.self.view_is
          (turn_there c.args.at c.args.wait_limit.now c.turn_before.result _ _ (record { number = fields.number; leaving = fields.leaving.items }) after
          (record { number = node.number; bound_node = node.bound_node }) c.turn_before.new.self
          (slice_get_read fields.leaving.items _ c.args.at c.index_mut-leaving.result.now refl within c.index_mut-leaving.ensures.value
          ∙ ap (λ (l : Leaving). Some l) (sym c.leaving.view_is))
          refl c.turn_before.ensures.taken);
    }
