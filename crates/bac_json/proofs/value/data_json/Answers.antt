use Rattle.std.proofs.Common.{rules, ◌≡◌, ◌<◌, ◌++◌, [], ◌∷◌, length, map, arith}
use Rattle.std.proofs.lemmas.Grind.{common_steps}
use Rattle.serde_json.specs.View.{view}
use Rattle.bac_json.proofs.Elements.{all_taken, one_more, shorter}
use Rattle.bac_json.proofs.value.data_json.Goals as goal

pub loop-element-smaller : goal.loop-element-smaller
loop-element-smaller c =
    let less : length c.in-Some.more.octets.now < length c.loop-element.rest.octets.now = shorter _ _ _ c.in-Some.ensures.0 c.in-Some.ensures.1 in
    omega arith

pub loop-element-preserved : goal.loop-element-preserved
loop-element-preserved c =
    let items : map view c.push.new.self.items ≡ map view c.loop-element.elements.items ++ (view c.in_ok-element_json.field-0 ∷ [])
    = grind (arith, common_steps) in
    λ more are. rw items (one_more _ _ _ _ _ _ c.loop-element.invariant c.in-Some.ensures.0 c.in-Some.ensures.1 c.in_ok-element_json.ensures more are)

pub returns : goal.returns
returns c = all_taken _ c.loop-element.rest.octets.now _ c.loop-element.invariant (search rules)
