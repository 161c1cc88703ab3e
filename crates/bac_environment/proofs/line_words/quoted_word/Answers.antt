use Rattle.std.proofs.Common.{sym, ap, ◌∙◌, take}
use Rattle.bac_environment.specs.LineWords.{words_from}
use Rattle.bac_environment.specs.LineWords.Place.{Closed}
use Rattle.bac_environment.proofs.LineWords.{to_a_quote}
use Rattle.bac_environment.proofs.line_words.quoted_word.Goals as goal

pub returns-in-None : goal.returns-in-None
returns-in-None c =
    (to_a_quote c.args.text.now c.in-Some.end (sym c.quote_in.ensures ∙ c.in-Some.is)).1
    ∙ ap (words_from (Closed (take c.in-Some.end c.args.text.now))) (sym c.parts_around.ensures.rest)
    ∙ c.behind_quote.ensures.none c.in-None.is (take c.in-Some.end c.args.text.now)
