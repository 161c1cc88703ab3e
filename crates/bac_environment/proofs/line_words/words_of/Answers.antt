use Rattle.std.proofs.Common.{◌∷◌, [], ◌++◌, Bool, map, sym, ap, ◌∙◌, if◌then◌else◌}
use Rattle.std.proofs.lemmas.List.{map-append}
use Rattle.bac_environment.specs.LineWords.{after_words, words_of}
use Rattle.bac_environment.proofs.LineWords.{one_more_word}
use Rattle.bac_environment.proofs.line_words.words_of.Goals as goal

pub loop-words-preserved : goal.loop-words-preserved
loop-words-preserved c =
    one_more_word (map (λ w. w.now) c.loop-words.words.items) c.in-Word.word.now c.loop-words.rest.now c.in-Word.others.now _ c.loop-words.invariant
    c.in-Word.ensures.1
    ∙ ap (λ words. after_words words (words_of c.in-Word.others.now))
    (sym (ap (map (λ w. w.now)) (c.push.ensures.items
    ∙ ap (λ (b : Bool). if b then c.loop-words.words.items ++ c.in-Word.word ∷ [] else c.loop-words.words.items) c.if-is_err.ensures.negation) ∙ map-append (λ w. w.now) c.loop-words.words.items (c.in-Word.word ∷ [])))
