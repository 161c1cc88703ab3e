-- A text is cut at its first comma.
use Rattle.std.proofs.Common.{Some, None, arith}
use Rattle.std.proofs.lemmas.Str.Pattern.{split_once_first}
use Rattle.bac_guard.proofs.Parts.{first_of, only_part}
use Rattle.bac_guard.proofs.sources_reading.first_part.Goals as goal

pub returns-in-Some : goal.returns-in-Some
returns-in-Some c =
    let cut = split_once_first 44 c.args.text.now (Some (c.in-Some.part, c.in-Some.others)) c.in-Some.ensures.cases (omega arith) in
    first_of c.args.text.now c.in-Some.part.now c.in-Some.others.now cut.0 cut.1 cut.2

pub returns-in-None : goal.returns-in-None
returns-in-None c = only_part c.args.text.now (split_once_first 44 c.args.text.now None c.in-None.ensures.cases (omega arith))
