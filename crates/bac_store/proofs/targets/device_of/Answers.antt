use Rattle.std.proofs.Common.{Some, ◌∙◌, sym, ap, subst}
use Rattle.bac_store.specs.Kept.{IsKept}
use Rattle.bac_store.specs.Views.{entry_view}
use Rattle.bac_store.proofs.Orders.{kept_at}
use Rattle.bac_store.proofs.ReadTargets.{listed_device, no_device}
use Rattle.bac_store.proofs.targets.device_of.Goals as goal

pub returns-in-Some-clause-found : goal.returns-in-Some-clause-found
returns-in-Some-clause-found c =
    ap (λ e. Some (entry_view e)) c.index-objects-at.is
    ∙ sym (listed_device c.args.objects.now c.requires c.in-Some.at c.in-Some.ensures c.index-objects-at.result)

pub returns-in-Some-clause-kept : goal.returns-in-Some-clause-kept
returns-in-Some-clause-kept c =
    subst (λ e. IsKept (entry_view e)) (sym c.index-objects-at.is)
    (kept_at c.args.objects.now c.requires.each c.in-Some.at c.index-objects-at.result c.in-Some.ensures.within)

pub returns-in-None-clause-found : goal.returns-in-None-clause-found
returns-in-None-clause-found c = sym (no_device c.args.objects.now c.in-None.ensures)
