-- The last of the words names a file, or none does.
use Rattle.bac_asking.proofs.LastWords.{named_in, none_named_in}
use Rattle.bac_asking.proofs.file_words.file_in.Goals as goal

pub returns-in_err-path : goal.returns-in_err-path
returns-in_err-path c =
    rw c.from_residual-in_err-path.ensures
    (none_named_in c.args.words.now c.in_ok-last.front.now c.in_ok-last.last.now c.path_in.result c.in_ok-last.ensures.cases c.path_in.ensures
    c.in_err-path.was)

pub returns : goal.returns
returns c =
    named_in c.args.words.now c.in_ok-last.front.now c.in_ok-last.last.now c.in_ok-path.path c.path_in.result c.in_ok-last.ensures.cases c.path_in.ensures
    c.in_ok-path.was
