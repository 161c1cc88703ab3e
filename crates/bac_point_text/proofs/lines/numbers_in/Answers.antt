use Rattle.std.proofs.Common.{rules, tests}
use Rattle.std.proofs.lemmas.Iterator.{items_from_collect}
use Rattle.std.proofs.lemmas.Iterator.Consumers.{YieldsList-from_filter_map}
use Rattle.std.proofs.lemmas.Iterator.Splits.{YieldsList-from_lines}
use Rattle.bac_point_text.specs.Lines.{number_part}
use Rattle.bac_point_text.proofs.lines.numbers_in.Goals as goal

pub returns : goal.returns
returns c = items_from_collect _ c.collect.ensures.ran (YieldsList-from_filter_map _ number_part (YieldsList-from_lines c.args.table.now (cc)) c.filter_map.ensures.closure (λ x r q k. search (rules, tests)))
