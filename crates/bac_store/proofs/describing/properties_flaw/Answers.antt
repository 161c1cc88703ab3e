use Rattle.std.proofs.Common.{map, take, arith}
use Rattle.std.proofs.lemmas.List.{length-map}
use Rattle.bac_store.specs.Described.{IsNextProperty}
use Rattle.bac_store.specs.Views.{property_view}
use Rattle.bac_store.proofs.Viewed.{each_more, each_viewed, one_viewed}
use Rattle.bac_store.proofs.describing.properties_flaw.Goals as goal

pub returns-in-Some : goal.returns-in-Some
returns-in-Some c = λ all.
    let ps = c.args.properties.now in
    let x = c.index-properties-at.result in
    c.in-Some.ensures (one_viewed property_view ps (IsNextProperty c.args.kind) c.loop-at.at x (property_view x) (omega arith) c.index-properties-at.is
    (all c.loop-at.at (property_view x) (omega (arith, length-map ps property_view))))

pub loop-at-preserved : goal.loop-at-preserved
loop-at-preserved c =
    let ps = c.args.properties.now in
    let x = c.index-properties-at.result in
    each_more (λ i p. IsNextProperty c.args.kind (map property_view (take i ps)) (property_view p)) ps c.loop-at.at x (omega arith) c.in_default.ensures
    c.index-properties-at.is c.loop-at.invariant

pub returns : goal.returns
returns c = λ i d l.
    let ps = c.args.properties.now in
    each_viewed property_view ps (IsNextProperty c.args.kind) c.loop-at.at (omega arith) c.loop-at.invariant i d (omega (arith, length-map ps property_view))
