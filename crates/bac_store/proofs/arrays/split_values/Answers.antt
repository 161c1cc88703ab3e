use Rattle.std.proofs.Common.{◌∙◌, ◌+◌, ◌-◌, ◌==◌, ◌∷◌, ◌++◌, [], length, sym, ap, Some, arith, if◌then◌else◌}
use Rattle.std.proofs.lemmas.List.{length-append}
use Rattle.std.specs.Option.{option_map}
use Rattle.bac_store.specs.Arrays.{counted}
use Rattle.bac_store.proofs.ArrayLaws.{after, all_counted, at_end, last_value, no_more, one_more, too_many}
use Rattle.bac_store.proofs.arrays.split_values.Goals as goal

pub returns-then-is_empty : goal.returns-then-is_empty
returns-then-is_empty c =
    let i = c.loop.invariant in
    let end = at_end c.loop.rest.now (length c.args.octets.now - c.loop.counter) (grind (arith, c.is_empty.ensures, c.if-is_empty.true)) in
    all_counted _ i.before c.args.at c.loop.values.count _ (i.all ∙ ap (after i.before) end) i.count i.chosen

pub returns-in_default : goal.returns-in_default
returns-in_default c =
    let i = c.loop.invariant in
    let none = no_more c.loop.rest.now (length c.args.octets.now - c.loop.counter) (grind (arith, c.is_empty.ensures, c.if-is_empty.false))
    (sym c.in_default.ensures) in
    sym (ap (option_map (counted c.args.at)) (i.all ∙ ap (after i.before) none))

pub loop-preserved : goal.loop-preserved
loop-preserved c =
    let i = c.loop.invariant in
    let v = c.in-Some.value.octets.now in
    let at = c.args.at in
    record {
      before = i.before ++ v ∷ [];
      all = i.all ∙ one_more i.before v c.in-Some.left.now c.loop.rest.now (length c.args.octets.now - c.loop.counter)
          (length c.args.octets.now - (c.loop.counter + 1)) (grind (arith, c.is_empty.ensures, c.if-is_empty.false)) (sym c.in-Some.ensures) (omega arith);
      count = omega (arith, c.with_value-values.ensures.count, i.count, length-append i.before (v ∷ []));
      chosen = c.with_value-values.ensures.chosen
          ∙ ap (λ n. if at == n then Some v else option_map (λ d. d.octets.now) c.loop.values.chosen) i.count
          ∙ ap (λ x. if at == length i.before then Some v else x) i.chosen
          ∙ sym (last_value i.before v at);
      each = omega (arith, c.with_value-values.ensures.count, i.each);
    }

pub returns-then-is_empty-2 : goal.returns-then-is_empty-2
returns-then-is_empty-2 c =
    let i = c.loop.invariant in
    let end = at_end c.loop.rest.now (length c.args.octets.now - c.loop.counter) (grind (arith, c.is_empty-2.ensures, c.if-is_empty-2.true)) in
    all_counted _ i.before c.args.at c.loop.values.count _ (i.all ∙ ap (after i.before) end) i.count i.chosen

pub returns-else-is_empty-2 : goal.returns-else-is_empty-2
returns-else-is_empty-2 c =
    let i = c.loop.invariant in
    let none = too_many c.loop.rest.now (length c.args.octets.now - c.loop.counter) (grind (arith, c.is_empty-2.ensures, c.if-is_empty-2.false))
    (omega (arith, c.loop-test.false)) in
    sym (ap (option_map (counted c.args.at)) (i.all ∙ ap (after i.before) none))
