use Rattle.std.proofs.Common.{map, take, arith}
use Rattle.std.proofs.lemmas.Option.{MatchOption-at_none, MatchOption-at_some}
use Rattle.bac_store.specs.Views.{object_view}
use Rattle.bac_store.proofs.Viewed.{each_more}
use Rattle.bac_c.specs.Taking.{IsRefusedAfter, IsTakenAfter}
use Rattle.bac_c.proofs.Takes.{first_refused, none_refused}
use Rattle.bac_c.proofs.taking.first_refusal.Goals as goal

pub returns-in-Some : goal.returns-in-Some
returns-in-Some c =
    let before = map object_view (take c.loop-at.at c.args.objects.now) in
    let here = object_view c.index-objects-at.result in
    first_refused c.args.objects.now c.loop-at.at c.index-objects-at.result c.in-Some.property c.in-Some.why (omega arith) c.index-objects-at.is
    c.loop-at.invariant (MatchOption-at_some (IsTakenAfter before here) (λ w. IsRefusedAfter before here w.0 w.1) (c.in-Some.property, c.in-Some.why) c.in-Some.is
    c.in_ok-property.ensures)

pub loop-at-preserved : goal.loop-at-preserved
loop-at-preserved c =
    let os = c.args.objects.now in
    let before = map object_view (take c.loop-at.at os) in
    let here = object_view c.index-objects-at.result in
    each_more (λ i o. IsTakenAfter (map object_view (take i os)) (object_view o)) os c.loop-at.at c.index-objects-at.result (omega arith)
    (MatchOption-at_none (IsTakenAfter before here) (λ w. IsRefusedAfter before here w.0 w.1) c.in_default.is c.in_ok-property.ensures)
    c.index-objects-at.is c.loop-at.invariant

pub returns : goal.returns
returns c = none_refused c.args.objects.now c.loop-at.at (omega arith) c.loop-at.invariant
