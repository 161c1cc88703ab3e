use Rattle.std.proofs.Common.{◌≡◌, ℕ, suc, ◌+◌, ◌∷◌, take, drop, List, sym, ap, ◌∙◌, arith}
use Rattle.bac_environment.specs.LineWords.{with_word, words_of}
use Rattle.bac_environment.proofs.LineWords.{to_a_blank}
use Rattle.bac_environment.proofs.line_words.plain_word.Goals as goal

pub returns-in-Some-clause-word : goal.returns-in-Some-clause-word
returns-in-Some-clause-word c =
    let end = c.in-Some.end in
    let found = to_a_blank c.args.octet c.args.others.now end (sym c.blank_in.ensures ∙ c.in-Some.is) in
    let one : end + 1 ≡ suc end = search arith in
    let word : take (end + 1) c.args.text.now ≡ c.args.octet ∷ take end c.args.others.now =
    ap (take (end + 1)) c.requires ∙ ap (λ (n : ℕ). take n (c.args.octet ∷ c.args.others.now)) one in
    found.1 ∙ ap (λ (w : List ℕ). with_word w (words_of (drop (end + 1) c.args.others.now))) (sym word)
    ∙ ap (λ (rest : List ℕ). with_word (take (end + 1) c.args.text.now) (words_of rest)) (sym c.parts_around.ensures.rest)
