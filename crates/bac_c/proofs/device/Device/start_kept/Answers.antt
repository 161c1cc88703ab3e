-- The node that is started has the cells over the store of the copies.
use Rattle.std.proofs.Common.{rules, map, ap, ◌∙◌}
use Rattle.bac_store.specs.Views.{object_view}
use Rattle.bac_c.specs.Devices.{IsIdle}
use Rattle.bac_c.specs.Kept.{cells_in}
use Rattle.bac_c.specs.Starting.{IsReady, listed_in, makes}
use Rattle.bac_c.proofs.Starts.{bad_passed, restored_with}
use Rattle.bac_c.proofs.device.Device.start_kept.Goals as goal

pub returns-clause-started : goal.returns-clause-started
returns-clause-started c =
    restored_with (makes c.args.rule) (listed_in c.args.self.now) (map object_view c.in-Ok.objects.items) c.in_ok-document.document
    (c.in-Ok.ensures ∙ ap (map object_view) c.deref.ensures.value) c.in_ok-document.ensures.made c.args.settings.now c.in_ok-config.config c.args.now
    (cells_in c.args.self.now.kept) c.in_ok-node.node c.in_ok-config.ensures.says c.in_ok-node.ensures.fit c.in_ok-node.ensures.made _ c.run.ensures.node

pub returns-in_err-document-clause-fault : goal.returns-in_err-document-clause-fault
returns-in_err-document-clause-fault c =
    let idle : IsIdle c.args.self.now = search rules in
    record {
      again = search rules;
      settings = search rules;
      duplicate = search rules;
      bad =
          bad_passed c.args.rule (listed_in c.args.self.now) (map object_view c.in-Ok.objects.items) c.store.result c.from_residual-in_err-document.result
          c.in_err-document.field-0.0 (IsReady c.args.settings.now c.args.self.now) (c.in-Ok.ensures ∙ ap (map object_view) c.deref.ensures.value)
          (idle, c.in_ok-config.ensures.right) c.in_err-document.was c.from_residual-in_err-document.ensures.1 c.store.ensures.bad;
      not_closed = search rules;
    }
