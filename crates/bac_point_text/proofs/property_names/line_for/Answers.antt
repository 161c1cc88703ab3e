use Rattle.std.proofs.Common.{rules, tests}
use Rattle.std.proofs.lemmas.Iterator.Search.{find_from_yields_List}
use Rattle.std.proofs.lemmas.Iterator.Splits.{YieldsList-from_lines}
use Rattle.bac_point_text.specs.PropertyNames.{is_for}
use Rattle.bac_point_text.proofs.property_names.line_for.Goals as goal

pub returns : goal.returns
returns c =
    find_from_yields_List (is_for c.args.kind.now c.args.property.now) _ _ c.find.result c.find.ensures.ran (YieldsList-from_lines c.args.table.now c.lines.ensures.rest) (λ x b q k. search (rules, tests))
