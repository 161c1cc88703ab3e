use Rattle.std.proofs.Common.{rules, ◌≡◌, ◌<◌, ◌++◌, [], ◌∷◌, length, map, arith}
use Rattle.std.proofs.lemmas.Grind.{common_steps}
use Rattle.bac_point_text.proofs.ListTexts.{all_taken, one_more, shorter}
use Rattle.bac_point_text.proofs.list_alone.texts_alone.Goals as goal

pub loop-element-smaller : goal.loop-element-smaller
loop-element-smaller c =
    let less : length c.in-Some.more.octets.now < length c.loop-element.rest.octets.now = shorter _ _ _ c.in-Some.ensures.0 c.in-Some.ensures.1 in
    omega arith

pub loop-element-preserved : goal.loop-element-preserved
loop-element-preserved c =
    let items : map (λ t. t.items) c.push.new.self.items ≡ map (λ t. t.items) c.loop-element.texts.items ++ (c.in_ok-element_alone.field-0.items ∷ [])
    = grind (arith, common_steps) in
    λ more are. rw items
    (one_more _ _ _ _ _ _ _ c.loop-element.invariant c.in-Some.ensures.0 c.in-Some.ensures.1 c.in_ok-element_alone.ensures more are)

pub returns : goal.returns
returns c = all_taken _ _ c.loop-element.rest.octets.now _ c.loop-element.invariant (search rules)
