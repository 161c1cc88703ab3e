-- The node that is started has the store of the copies.
use Rattle.std.proofs.Common.{rules, map, ap, ◌∙◌}
use Rattle.bac_store.specs.Views.{object_view}
use Rattle.bac_c.specs.Devices.{IsIdle}
use Rattle.bac_c.specs.Starting.{IsReady, listed_in, makes}
use Rattle.bac_c.proofs.Starts.{bad_passed, started_with}
use Rattle.bac_c.proofs.device.Device.start.Goals as goal

pub returns-clause-started : goal.returns-clause-started
returns-clause-started c =
    started_with (makes c.args.rule) (listed_in c.args.self.now) (map object_view c.in-Ok.objects.items) c.in_ok-store.store
    (c.in-Ok.ensures ∙ ap (map object_view) c.deref.ensures.value) c.in_ok-store.ensures.made c.args.settings.now c.in_ok-config.config c.args.restart
    c.in_ok-node.node c.in_ok-config.ensures.says c.in_ok-node.ensures.made

pub returns-in_err-store-clause-fault : goal.returns-in_err-store-clause-fault
returns-in_err-store-clause-fault c =
    let idle : IsIdle c.args.self.now = search rules in
    record {
      again = search rules;
      settings = search rules;
      duplicate = search rules;
      bad =
          bad_passed c.args.rule (listed_in c.args.self.now) (map object_view c.in-Ok.objects.items) c.store.result c.from_residual-in_err-store.result
          c.in_err-store.field-0.0 (IsReady c.args.settings.now c.args.self.now) (c.in-Ok.ensures ∙ ap (map object_view) c.deref.ensures.value)
          (idle, c.in_ok-config.ensures.right) c.in_err-store.was c.from_residual-in_err-store.ensures.1 c.store.ensures.bad;
      not_closed = search rules;
    }
