use Rattle.bac_shown.proofs.Showing.{harmless_unchanged, plain_unchanged}
use Rattle.bac_shown.proofs.laws.plain_texts_are_unchanged.Goals as goal

pub returns : goal.returns
returns c = record { ascii = plain_unchanged; harmless = harmless_unchanged }
