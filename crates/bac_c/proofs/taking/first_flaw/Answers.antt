use Rattle.std.proofs.Common.{◌≡◌, None, map, take, sym, ◌∙◌, arith}
use Rattle.bac_store.specs.Views.{property_view}
use Rattle.bac_store.proofs.Viewed.{each_more}
use Rattle.bac_c.specs.Taking.{property_flaw}
use Rattle.bac_c.proofs.Takes.{first_flawed, no_flaw}
use Rattle.bac_c.proofs.taking.first_flaw.Goals as goal

pub returns-in-Some : goal.returns-in-Some
returns-in-Some c =
    first_flawed c.args.kind c.args.properties.now c.loop-at.at c.index-properties-at.result c.in-Some.flaw (omega arith) c.index-properties-at.is
    c.loop-at.invariant (sym c.in_ok-flaw.ensures ∙ c.in-Some.is)

pub loop-at-preserved : goal.loop-at-preserved
loop-at-preserved c =
    let ps = c.args.properties.now in
    each_more (λ i p. property_flaw c.args.kind (map property_view (take i ps)) (property_view p) ≡ None) ps c.loop-at.at c.index-properties-at.result
    (omega arith) (sym c.in_ok-flaw.ensures ∙ c.in_default.is) c.index-properties-at.is c.loop-at.invariant

pub returns : goal.returns
returns c = no_flaw c.args.kind c.args.properties.now c.loop-at.at (omega arith) c.loop-at.invariant
