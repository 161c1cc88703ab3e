-- The texts of elements, one element at a time.
use Rattle.std.proofs.Common.{◌≡◌, ◌<◌, ℕ, List, [], ◌∷◌, ◌++◌, length, Option, arith, ap, sym, subst, append_assoc, append-nil, length-append}
use Rattle.bac_value.specs.Element.{Part, part_spelling, SpellsElement}
use Rattle.bac_value.specs.Spelling.{tag_spelling}
use Rattle.bac_point_text.specs.Enumerations.{Names}
use Rattle.bac_point_text.specs.ListAlone.{AreAlone, IsElementAlone}

-- an element has at least one octet
some_octets : (p : Part) → SpellsElement p (part_spelling p) → 0 < length (part_spelling p)
unfolding tag_spelling
some_octets p s = omega (arith, ap length s.is)

pub shorter : (p : Part) (rest next : List ℕ) → SpellsElement p (part_spelling p) → rest ≡ part_spelling p ++ next → length next < length rest
shorter p rest next s is =
    let some = some_octets p s in
    omega (arith, some, ap length is, length-append (part_spelling p) next)

-- together with the texts of the remaining elements, these are the texts of all
abbrev pub AreTaken : Option Names → List (List ℕ) → (rest run : List ℕ) → Type 0
AreTaken names texts rest run = (more : List (List ℕ)) → AreAlone names more rest → AreAlone names (texts ++ more) run

pub one_more : (names : Option Names) (texts : List (List ℕ)) (text run rest next : List ℕ) (p : Part) → AreTaken names texts rest run
    → SpellsElement p (part_spelling p) → rest ≡ part_spelling p ++ next → IsElementAlone names p text
    → AreTaken names (texts ++ (text ∷ [])) next run
one_more names texts text run rest next p before spelled is text_of = λ more are.
    subst (λ (l : List (List ℕ)). AreAlone names l run) (sym (append_assoc texts (text ∷ []) more))
    (before (text ∷ more) (record { element = p; others = next; spelled = spelled; is = is; text_of = text_of; more = are }))

pub all_taken : (names : Option Names) (texts : List (List ℕ)) (rest run : List ℕ) → AreTaken names texts rest run → rest ≡ [] → AreAlone names texts run
all_taken names texts rest run taken none = subst (λ (l : List (List ℕ)). AreAlone names l run) (append-nil texts) (taken [] none)
