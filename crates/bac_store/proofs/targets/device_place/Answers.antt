use Rattle.std.proofs.Common.{◌≡◌, ◌∙◌, false, sym, ap, subst, arith}
use Rattle.bac_store.specs.Kept.{IsKept}
use Rattle.bac_store.specs.Targets.{is_lister}
use Rattle.bac_store.specs.Views.{entry_view}
use Rattle.bac_store.proofs.Orders.{kept_at}
use Rattle.bac_store.proofs.Viewed.{each_more}
use Rattle.bac_store.proofs.targets.device_place.Goals as goal

pub is_described_device-requires : goal.is_described_device-requires
is_described_device-requires c =
    subst (λ e. IsKept (entry_view e)) (sym c.index-objects-at.is)
    (kept_at c.args.objects.now c.requires.each c.loop-at.at c.index-objects-at.result (omega arith))
