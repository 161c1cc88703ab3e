-- The texts of elements, one element at a time.
use Rattle.std.proofs.Common.{◌≡◌, ◌<◌, ℕ, List, [], ◌∷◌, ◌++◌, length, arith, ap, sym, subst, append_assoc, append-nil, length-append}
use Rattle.bac_value.specs.Element.{Part, part_spelling, SpellsElement}
use Rattle.bac_value.specs.Spelling.{tag_spelling}
use Rattle.bac_value_text.specs.DataTexts.{AreElementTexts, IsElementText}

-- an element has at least one octet
pub some_octets : (p : Part) → SpellsElement p (part_spelling p) → 0 < length (part_spelling p)
unfolding tag_spelling
some_octets p s = omega (arith, ap length s.is)

pub shorter : (p : Part) (rest next : List ℕ) → SpellsElement p (part_spelling p) → rest ≡ part_spelling p ++ next → length next < length rest
shorter p rest next s is =
    let some = some_octets p s in
    omega (arith, some, ap length is, length-append (part_spelling p) next)

-- together with the texts of the remaining elements, these are the texts of all
abbrev pub AreTaken : List (List ℕ) → (rest run : List ℕ) → Type 0
AreTaken texts rest run = (more : List (List ℕ)) → AreElementTexts more rest → AreElementTexts (texts ++ more) run

pub one_more : (texts : List (List ℕ)) (text run rest next : List ℕ) (p : Part) → AreTaken texts rest run → SpellsElement p (part_spelling p)
    → rest ≡ part_spelling p ++ next → IsElementText p text → AreTaken (texts ++ (text ∷ [])) next run
one_more texts text run rest next p before spelled is text_of = λ more are.
    subst (λ (l : List (List ℕ)). AreElementTexts l run) (sym (append_assoc texts (text ∷ []) more))
    (before (text ∷ more) (record { element = p; others = next; spelled = spelled; is = is; text_of = text_of; more = are }))

pub all_taken : (texts : List (List ℕ)) (rest run : List ℕ) → AreTaken texts rest run → rest ≡ [] → AreElementTexts texts run
all_taken texts rest run taken none = subst (λ (l : List (List ℕ)). AreElementTexts l run) (append-nil texts) (taken [] none)
