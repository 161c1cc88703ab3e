use Rattle.std.proofs.Common.{◌+◌}
use Rattle.std.proofs.lemmas.List.{take_rest}
use Rattle.bac_environment.proofs.line_words.parts_around.Goals as goal

pub returns-clause-rest : goal.returns-clause-rest
returns-clause-rest c = take_rest c.args.text.now (c.args.end + 1)
