-- An element with correct contents of a kind has exactly one value.
use Rattle.std.proofs.Common.{◌≡◌, ℕ, false, List, length, Option, Some, None, Result, Ok, Err, refl, sym, ap, subst, ◌∙◌, IsTrue, not, ltb, eqb}
use Rattle.std.specs.Prelude.{is_some, OnErr}
use Rattle.std.proofs.lemmas.Bool.{and_parts, not-true, eqb-false}
use Rattle.bac_value.specs.declared.tag.Class.{Class}
use Rattle.bac_value.specs.declared.tag.Class.TheVariants.{Application}
use Rattle.bac_value.specs.declared.tag.Form.{Form}
use Rattle.bac_value.specs.declared.tag.Form.TheVariants.{Length}
use Rattle.bac_value.specs.Octets.{IsBytes}
use Rattle.bac_value.specs.Limits.{tag_fits}
use Rattle.bac_value.specs.Spelling.{Mark}
use Rattle.bac_value.specs.Value.{Datum, null, boolean, unsigned, signed, real, double, octets, characters, bits, enumerated, date, time}
use Rattle.bac_value.specs.Value.{object, kind_number, IsContents, form_of}
use Rattle.bac_value.specs.Reading.{length_in, flaw}
use Rattle.bac_value.specs.Meaning.{datum_in, IsValueOf}
use Rattle.bac_value.proofs.Tags.{length_number-lt}
use Rattle.bac_value.proofs.RightContents.{kind_meant}

form_is : (d : Datum) (k : ℕ) → (kind_number d ≡ 1 → ⊥) → form_of d k ≡ Length k
form_is null k h = refl
form_is (boolean b) k h = absurd (h refl)
form_is (unsigned n) k h = refl
form_is (signed z) k h = refl
form_is (real a) k h = refl
form_is (double a) k h = refl
form_is (octets a) k h = refl
form_is (characters set a) k h = refl
form_is (bits unused a) k h = refl
form_is (enumerated n) k h = refl
form_is (date a) k h = refl
form_is (time a) k h = refl
form_is (object i) k h = refl

abbrev made : ℕ → Class → Form → Mark
made n c f = record { number = n; class = c; form = f }

not_boolean : (n k : ℕ) → IsTrue (tag_fits n Application (Length k)) → n ≡ 1 → ⊥
not_boolean n k fits is = eqb-false n 1 (not-true (eqb n 1) (and_parts (ltb n 13) (not (eqb n 1)) fits).1) is

pub meant_is : (n : ℕ) (c : Class) (f : Form) (xs : List ℕ) (d : Datum) (k : ℕ) → IsTrue (tag_fits n c f) → c ≡ Application → f ≡ Length k → k ≡ length xs
    → IsBytes xs → IsTrue (length_in n (length xs)) → flaw n xs ≡ None
    → d ≡ datum_in n xs → IsValueOf d (record { mark = made n c f; contents = xs })
meant_is n c f xs d k fits is_class is_form len bytes right none same =
    let fit : IsTrue (tag_fits n Application (Length k)) =
    subst (λ (y : Form). IsTrue (tag_fits n Application y)) is_form (subst (λ (y : Class). IsTrue (tag_fits n y f)) is_class fits) in
    let h = kind_meant n xs (length_number-lt n k fit) bytes right none in
    let kind : kind_number d ≡ n = ap kind_number same ∙ h.0 in
    let form : form_of d (length xs) ≡ Length (length xs) = form_is d (length xs) (λ e. not_boolean n k fit (sym kind ∙ e)) in
    let number : n ≡ kind_number d = sym kind in
    let tail : f ≡ form_of d (length xs) = is_form ∙ ap Length len ∙ sym form in
    record {
      tag = ap (λ (y : ℕ). made y c f) number ∙ ap (λ (y : Class). made (kind_number d) y f) is_class
          ∙ ap (λ (y : Form). made (kind_number d) Application y) tail;
      contents = subst (λ (y : Datum). IsContents y xs) (sym same) h.1;
    }

pub is_none : {A : Type 0} (o : Option A) → is_some o ≡ false → o ≡ None
is_none None e = refl
is_none (Some x) e = absurd cc

pub on_err : {T E P : Type 0} (r : Result T E) → P → OnErr r P
on_err (Ok x) p = tt
on_err (Err e) p = p
