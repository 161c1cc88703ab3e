-- The kind of octets is that of the one value that they encode.
use Rattle.std.proofs.Common.{◌≡◌, ◌≢◌, ℕ, ◌<◌, ◌^◌, true, List, [], ◌∷◌, ◌++◌, length, Some, Result, Ok, Err, refl, sym, ap, subst, arith, ◌∙◌}
use Rattle.std.proofs.lemmas.Bool.Decides.{nat_tests}
use Rattle.std.proofs.lemmas.List.{append-nil}
use Rattle.bac_value.specs.declared.fault.FaultKind.{FaultKind}
use Rattle.bac_value.specs.declared.tag.Class.{Class}
use Rattle.bac_value.specs.declared.tag.Class.TheVariants.{Application, Context}
use Rattle.bac_value.specs.declared.tag.Form.{Form}
use Rattle.bac_value.specs.declared.tag.Form.TheVariants as form
use Rattle.bac_value.specs.Element.{IsAnnounced, Part, SpellsElement}
use Rattle.bac_value.specs.Octets.{IsBytes}
use Rattle.bac_value.specs.Limits.{tag_fits}
use Rattle.bac_value.specs.Reading.{element_at}
use Rattle.bac_value.specs.Spelling.{length_fits, tag_spelling}
use Rattle.bac_value.specs.Value.{Datum, null, boolean, unsigned, signed, real, double, octets, characters, bits, enumerated, date, time, object}
use Rattle.bac_value.specs.Value.{IsContents, SpellsValue, form_of, kind_number, mark_for}
use Rattle.bac_value.proofs.Elements.{element_again, element_takes}
use Rattle.bac_store.specs.Kinds.{IsOneValue, application_number, kind_before, kind_of, kind_read}
use Rattle.bac_store.proofs.ValueData.{element_of, part_of}

pub kind_of_value : (values : List ℕ) (k : ℕ) → IsOneValue k values → kind_of values ≡ Some k
kind_of_value values k one =
    let d = one.0 in
    let v : SpellsValue d values = one.2 in
    let e = element_of d v.contents v.are v.fits in
    let spelled : SpellsElement (part_of d v.contents) values = record { tag = e.tag; contents = e.contents; is = v.is } in
    let read = element_again (part_of d v.contents) values [] spelled in
    ap kind_read (rw append-nil at read) ∙ ap Some one.1

-- every tag but that of a Boolean contains a length
length_form : (d : Datum) (n k : ℕ) → kind_number d ≡ n → n ≢ 1 → form_of d k ≡ form.Length k
length_form null n k e ne = refl
length_form (boolean b) n k e ne = absurd (ne (sym e))
length_form (unsigned x) n k e ne = refl
length_form (signed x) n k e ne = refl
length_form (real x) n k e ne = refl
length_form (double x) n k e ne = refl
length_form (octets x) n k e ne = refl
length_form (characters s x) n k e ne = refl
length_form (bits s x) n k e ne = refl
length_form (enumerated x) n k e ne = refl
length_form (date x) n k e ne = refl
length_form (time x) n k e ne = refl
length_form (object x) n k e ne = refl

record IsMeant (n : ℕ) (f : Form) (xs : List ℕ) : Type 0 where
  meant : Datum
  kind : kind_number meant ≡ n
  contents : IsContents meant xs
  form_is : f ≡ form_of meant (length xs)
  few : length xs < 2 ^ 32

-- the contents after an application tag are those of a value
value_in : (n : ℕ) (f : Form) (xs : List ℕ) → tag_fits n Application f ≡ true → length_fits f → IsAnnounced Application n f xs → IsMeant n f xs
value_in n (form.Length j) xs fits few h =
    let ne : n ≢ 1 = grind (arith, nat_tests) in
    let d = h.1.0 in
    record {
      meant = d;
      kind = h.1.1;
      contents = h.1.2;
      form_is = sym (length_form d n (length xs) h.1.1 ne ∙ ap form.Length h.0);
      few = subst (λ l. l < 2 ^ 32) (sym h.0) few;
    }
value_in n (form.Boolean b) xs fits few h =
    let one : 1 ≡ n = grind (arith, nat_tests) in
    record { meant = boolean b; kind = one; contents = h; form_is = refl; few = subst (λ ys. length ys < 2 ^ 32) (sym h) (omega arith) }
value_in n form.Opening xs fits few h = cc
value_in n form.Closing xs fits few h = cc

module _ (values : List ℕ) (k : ℕ) (bytes : IsBytes values) where
  of_class : (p : Part) (c : Class) → element_at values ≡ Ok (p, []) → p.mark.class ≡ c → application_number c p.mark.number ≡ Some k → IsOneValue k values
  of_class p Context e is h = cc
  of_class p Application e is h =
      let t = element_takes values (p, []) bytes e in
      let xs = p.contents in
      let n = p.mark.number in
      let f = p.mark.form in
      let m : IsMeant n f xs = value_in n f xs (subst (λ c. tag_fits n c f ≡ true) is t.1.tag.fits) t.1.tag.length_in
      (subst (λ c. IsAnnounced c n f xs) is t.1.contents) in
      let same : n ≡ k = cc in
      let mark : p.mark ≡ mark_for m.meant (length xs) = λ i. record { number = sym m.kind i; class = is i; form = m.form_is i } in (
        m.meant,
        m.kind ∙ same,
        record { contents = xs; are = m.contents; fits = m.few; is = t.0.parts ∙ append-nil _ ∙ ap (λ q. tag_spelling q ++ xs) mark },
      )

  of_part : (p : Part) (rest : List ℕ) → element_at values ≡ Ok (p, rest) → kind_before p rest ≡ Some k → IsOneValue k values
  of_part p [] e h = of_class p p.mark.class e refl h
  of_part p (x ∷ xs) e h = cc

  of_read : (r : Result (Part × List ℕ) FaultKind) → element_at values ≡ r → kind_read r ≡ Some k → IsOneValue k values
  of_read (Ok x) e h = of_part x.0 x.1 e h
  of_read (Err f) e h = cc

  pub value_of_kind : kind_of values ≡ Some k → IsOneValue k values
  value_of_kind h = of_read (element_at values) refl h
