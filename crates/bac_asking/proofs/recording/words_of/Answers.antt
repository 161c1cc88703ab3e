-- The line was printed over nothing.
use Rattle.std.proofs.Common.{rules}
use Rattle.bac_asking.proofs.Recorded.{words_told}
use Rattle.bac_asking.proofs.recording.words_of.Goals as goal

pub returns : goal.returns
returns c = words_told _ _ _ c.new-words.result.items _ _ _ (search rules) c.in_ok-succeeded.ensures c.take_end.ensures
