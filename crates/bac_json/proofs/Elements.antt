-- The JSON of elements, one element at a time.
use Rattle.std.proofs.Common.{◌≡◌, ◌<◌, ℕ, List, [], ◌∷◌, ◌++◌, length, arith, ap, sym, subst, append_assoc, append-nil, length-append}
use Rattle.bac_value.specs.Element.{Part, part_spelling, SpellsElement}
use Rattle.bac_value.specs.Spelling.{tag_spelling}
use Rattle.serde_json.specs.Data.{Data}
use Rattle.serde_json.specs.View.{items_of}
use Rattle.bac_json.specs.Values.{AreElementForms, IsElementForm}

-- an element has at least one octet
some_octets : (p : Part) → SpellsElement p (part_spelling p) → 0 < length (part_spelling p)
unfolding tag_spelling
some_octets p s = omega (arith, ap length s.is)

pub shorter : (p : Part) (rest next : List ℕ) → SpellsElement p (part_spelling p) → rest ≡ part_spelling p ++ next → length next < length rest
shorter p rest next s is =
    let some = some_octets p s in
    omega (arith, some, ap length is, length-append (part_spelling p) next)

-- together with the remaining elements, these are all
abbrev pub AreTaken : List Data → (rest run : List ℕ) → Type 0
AreTaken ds rest run = (more : List Data) → AreElementForms (items_of more) rest → AreElementForms (items_of (ds ++ more)) run

pub one_more : (ds : List Data) (d : Data) (run rest next : List ℕ) (p : Part) → AreTaken ds rest run → SpellsElement p (part_spelling p)
    → rest ≡ part_spelling p ++ next → IsElementForm p d → AreTaken (ds ++ (d ∷ [])) next run
one_more ds d run rest next p before spelled is form_of = λ more are.
    subst (λ (l : List Data). AreElementForms (items_of l) run) (sym (append_assoc ds (d ∷ []) more))
    (before (d ∷ more) (record { element = p; others = next; spelled = spelled; is = is; form_of = form_of; more = are }))

pub all_taken : (ds : List Data) (rest run : List ℕ) → AreTaken ds rest run → rest ≡ [] → AreElementForms (items_of ds) run
all_taken ds rest run taken none = subst (λ (l : List Data). AreElementForms (items_of l) run) (append-nil ds) (taken [] none)
