use Rattle.std.proofs.Common.{Some, sym, ap, subst}
use Rattle.bac_value.specs.Views.{object_identifier_view}
use Rattle.bac_store.specs.Kept.{IsKept}
use Rattle.bac_store.specs.Stores.{is_object}
use Rattle.bac_store.specs.Views.{entry_view}
use Rattle.bac_store.proofs.Orders.{kept_at}
use Rattle.bac_store.proofs.Places.{first_that-none, first_that-only}
use Rattle.bac_store.proofs.lookups.entry_of.Goals as goal

pub returns-in-Some-clause-found : goal.returns-in-Some-clause-found
returns-in-Some-clause-found c =
    rw (first_that-only entry_view (is_object (object_identifier_view c.args.id)) c.args.objects.now c.in-Some.at c.index-objects-at.result c.in-Some.ensures)
    (ap (λ e. Some (entry_view e)) c.index-objects-at.is)

pub returns-in-Some-clause-kept : goal.returns-in-Some-clause-kept
returns-in-Some-clause-kept c =
    subst (λ e. IsKept (entry_view e)) (sym c.index-objects-at.is)
    (kept_at c.args.objects.now c.requires.each c.in-Some.at c.index-objects-at.result c.in-Some.ensures.within)

pub returns-in-None-clause-found : goal.returns-in-None-clause-found
returns-in-None-clause-found c = sym (first_that-none entry_view (is_object (object_identifier_view c.args.id)) c.args.objects.now c.in-None.ensures)
