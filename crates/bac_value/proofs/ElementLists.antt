-- Data as a sequence of elements.
use Rattle.std.proofs.Common.{◌≡◌, ℕ, zero, suc, ◌<◌, List, [], ◌∷◌, ◌++◌, length, Ok, Err, refl, sym, ap, ◌∙◌, append_assoc, arith}
use Rattle.std.proofs.lemmas.Bool.{lt-ltb}
use Rattle.std.proofs.lemmas.List.{append-nil}
use Rattle.bac_value.specs.declared.fault.FaultKind.{FaultKind}
use Rattle.bac_value.specs.declared.tag.Class.TheVariants.{Context}
use Rattle.bac_value.specs.declared.tag.Form.TheVariants.{Opening, Closing}
use Rattle.bac_value.specs.Element.{Part, part_spelling, SpellsElement}
use Rattle.bac_value.specs.Data.{Forest, none, leaf, pair, opening, closing, spelling, IsWithin, IsData, AreElements, SomeElements}
use Rattle.bac_value.specs.Reading.{element_at}
use Rattle.bac_value.proofs.Steps.{ok_is, done}
use Rattle.bac_value.proofs.Elements.{element_again}

-- ---- elements after elements

then_elements : (ps : List Part) (a b : List ℕ) → AreElements ps a → SomeElements b → SomeElements (a ++ b)
unfolding AreElements
then_elements [] a b h s = rw h s
then_elements (p ∷ ps) a b h s =
    let t = then_elements ps h.0 b h.3 s in
    (p ∷ t.0, (h.0 ++ b, h.1, ap (λ (x : List ℕ). x ++ b) h.2 ∙ append_assoc (part_spelling p) h.0 b, t.1))

one_element : (p : Part) (rest : List ℕ) → SpellsElement p (part_spelling p) → SomeElements rest → SomeElements (part_spelling p ++ rest)
unfolding AreElements
one_element p rest h s = (p ∷ s.0, (rest, h, refl, s.1))

abbrev opener : ℕ → Part
opener n = record { mark = record { number = n; class = Context; form = Opening }; contents = [] }

abbrev closer : ℕ → Part
closer n = record { mark = record { number = n; class = Context; form = Closing }; contents = [] }

opener_spelled : (n : ℕ) → n < 255 → SpellsElement (opener n) (part_spelling (opener n))
opener_spelled n lt = record { tag = record { fits = lt-ltb n 255 lt; length_in = tt; is = refl }; contents = refl; is = refl }

closer_spelled : (n : ℕ) → n < 255 → SpellsElement (closer n) (part_spelling (closer n))
closer_spelled n lt = record { tag = record { fits = lt-ltb n 255 lt; length_in = tt; is = refl }; contents = refl; is = refl }

opens : (n : ℕ) (rest : List ℕ) → n < 255 → SomeElements rest → SomeElements (opening n ++ rest)
opens n rest lt s = let h = one_element (opener n) rest (opener_spelled n lt) s in rw append-nil at h

closes : (n : ℕ) (rest : List ℕ) → n < 255 → SomeElements rest → SomeElements (closing n ++ rest)
closes n rest lt s = let h = one_element (closer n) rest (closer_spelled n lt) s in rw append-nil at h

forest_elements : (f : Forest) (d : ℕ) → IsWithin d f → SomeElements (spelling f)
unfolding IsWithin spelling AreElements
forest_elements none d h = ([], refl)
forest_elements (leaf p f) d h = one_element p (spelling f) h.0.spelled (forest_elements f d h.1)
forest_elements (pair n inside f) zero h = absurd h
forest_elements (pair n inside f) (suc d) h =
    let within = forest_elements inside d h.1 in
    opens n (spelling inside ++ (closing n ++ spelling f)) h.0
    (then_elements within.0 (spelling inside) (closing n ++ spelling f) within.1 (closes n (spelling f) h.0 (forest_elements f (suc d) h.2)))

pub data_elements : (bytes : List ℕ) → IsData bytes → SomeElements bytes
data_elements bytes h = rw h.1.is (forest_elements h.0 8 h.1.within)

-- ---- one element more

pub no_element : (bytes : List ℕ) (e : FaultKind) → 0 < length bytes → element_at bytes ≡ Err e → SomeElements bytes → ⊥
unfolding AreElements
no_element bytes e some h ([], are) = absurd (omega (arith, ap length are))
no_element bytes e some h (p ∷ ps, are) =
    let read : element_at bytes ≡ Ok (p, are.0) = ap element_at are.2 ∙ element_again p (part_spelling p) are.0 are.1 in
    cc

pub elements_after : (bytes : List ℕ) (x : Part × List ℕ) → 0 < length bytes → element_at bytes ≡ Ok x → SomeElements bytes → SomeElements x.1
unfolding AreElements
elements_after bytes x some h ([], are) = absurd (omega (arith, ap length are))
elements_after bytes x some h (p ∷ ps, are) =
    let read : element_at bytes ≡ Ok (p, are.0) = ap element_at are.2 ∙ element_again p (part_spelling p) are.0 are.1 in
    let both : done FaultKind (p, are.0) ≡ done FaultKind x = sym read ∙ h in
    let same = ok_is (p, are.0) x both in
    let rest : are.0 ≡ x.1 = ap (λ (y : Part × List ℕ). y.1) same in
    rw (← rest) (ps, are.3)
