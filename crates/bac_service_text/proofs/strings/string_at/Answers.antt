use Rattle.std.proofs.Common.{rules, ◌≡◌}
use Rattle.bac_value.specs.declared.tag.Class.TheVariants.{Application}
use Rattle.bac_value.specs.Views.{tag_view}
use Rattle.bac_service_text.proofs.TakenStrings.{string_front, string_onward}
use Rattle.bac_service_text.proofs.strings.string_at.Goals as goal

pub returns-in-Ok-clause-is : goal.returns-in-Ok-clause-is
returns-in-Ok-clause-is c =
    let number : c.in-Ok.element.tag.number ≡ 6 = search rules in
    let class : c.in-Ok.element.tag.class ≡ Application = search rules in
    string_front c.args.run.now c.in-Ok.len (tag_view c.in-Ok.element.tag) c.in-Ok.element.contents.now number class c.in-Ok.ensures.found.1

pub returns-in-Ok-clause-onward : goal.returns-in-Ok-clause-onward
returns-in-Ok-clause-onward c = string_onward c.args.run.now c.in-Ok.len _ c.in-Ok.ensures.found.0 c.in-Ok.ensures.found.1
