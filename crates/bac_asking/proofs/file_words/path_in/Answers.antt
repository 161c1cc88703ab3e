use Rattle.std.proofs.Common.{arith}
use Rattle.std.proofs.lemmas.Str.Pattern.{strip_prefix_char}
use Rattle.bac_asking.proofs.LastWords.{path_stripped}
use Rattle.bac_asking.proofs.file_words.path_in.Goals as goal

pub returns : goal.returns
returns c =
    path_stripped c.args.word.now c.strip_prefix.result (strip_prefix_char 64 c.args.word.now c.strip_prefix.result c.strip_prefix.ensures.cases (omega arith))
