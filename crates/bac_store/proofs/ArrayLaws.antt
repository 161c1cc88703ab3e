-- The elements of arrays.
use Rattle.std.proofs.Common.{◌≡◌, ◌∙◌, ℕ, zero, suc, ◌-◌, ◌<◌, ◌≤◌, true, ◌==◌, List, [], ◌∷◌, ◌++◌, length}
use Rattle.std.proofs.Common.{Option, Some, None, Result, Ok, Err, OnErr, refl, sym, ap, subst, arith, if◌then◌else◌}
use Rattle.std.specs.List.{slice_get}
use Rattle.std.specs.Option.{option_map}
use Rattle.std.proofs.lemmas.Bool.Decides.{nat_tests}
use Rattle.std.proofs.lemmas.List.{append-nil, length-drop, length-take}
use Rattle.std.proofs.Common.{append_assoc}
use Rattle.bac_value.specs.declared.fault.FaultKind.{FaultKind}
use Rattle.bac_value.specs.declared.tag.Class.{Class}
use Rattle.bac_value.specs.declared.tag.Class.TheVariants.{Application, Context}
use Rattle.bac_value.specs.declared.tag.Form.{Form}
use Rattle.bac_value.specs.declared.tag.Form.TheVariants as form
use Rattle.bac_value.specs.Data.{none, leaf, IsData, IsPrimitiveForm, IsWithin, spelling}
use Rattle.bac_value.specs.Element.{Part, SpellsElement}
use Rattle.bac_value.specs.Limits.{tag_fits}
use Rattle.bac_value.specs.Reading.{element_at}
use Rattle.bac_store.specs.Arrays.{counted, each_after, first_value, only_application, parted, value_read, values_from}

-- what holds anyway holds after an error
pub on_any : {T E : Type 0} {P : Type 0} (r : Result T E) → P → OnErr r P
on_any (Ok x) p = tt
on_any (Err e) p = p

-- ---- values are data

primitive_class : (n : ℕ) (f : Form) → tag_fits n Application f ≡ true → IsPrimitiveForm f
primitive_class n (form.Length k) h = tt
primitive_class n (form.Boolean b) h = tt
primitive_class n form.Opening h = cc
primitive_class n form.Closing h = cc

pub application_is_data : (p : Part) (bytes : List ℕ) → p.mark.class ≡ Application → SpellsElement p bytes → IsData bytes
unfolding spelling IsWithin
application_is_data p bytes class s = (
  leaf p none,
  record {
    within = (
      record {
        form = primitive_class p.mark.number p.mark.form (subst (λ c. tag_fits p.mark.number c p.mark.form ≡ true) class s.tag.fits);
        spelled = record { tag = s.tag; contents = s.contents; is = refl };
      },
      tt,
    );
    is = s.is ∙ sym (append-nil _);
  },
)

-- ---- one value after the other

abbrev pub after : List (List ℕ) → Option (List (List ℕ)) → Option (List (List ℕ))
after before = option_map (λ vs. before ++ vs)

pub after_none : (x : Option (List (List ℕ))) → x ≡ after [] x
after_none None = refl
after_none (Some vs) = refl

after_one : (before : List (List ℕ)) (v : List ℕ) (x : Option (List (List ℕ))) → after before (option_map (λ vs. v ∷ vs) x) ≡ after (before ++ v ∷ []) x
after_one before v None = refl
after_one before v (Some vs) = ap Some (sym (append_assoc before (v ∷ []) vs))

pub one_more : (before : List (List ℕ)) (v rest bytes : List ℕ) (n m : ℕ) → 0 < length bytes → first_value bytes ≡ Some (v, rest) → n ≡ suc m
    → after before (values_from bytes n) ≡ after (before ++ v ∷ []) (values_from rest m)
unfolding values_from
one_more before v rest [] n m some e more = absurd (omega arith)
one_more before v rest (b ∷ bytes) n m some e more =
    rw more (ap (λ x. after before (each_after x (λ r. values_from r m))) e ∙ after_one before v (values_from rest m))

pub no_more : (bytes : List ℕ) (n : ℕ) → 0 < length bytes → first_value bytes ≡ None → values_from bytes n ≡ None
unfolding values_from
no_more [] n some e = absurd (omega arith)
no_more (b ∷ bytes) zero some e = refl
no_more (b ∷ bytes) (suc n) some e = ap (λ x. each_after x (λ r. values_from r n)) e

pub at_end : (bytes : List ℕ) (n : ℕ) → length bytes ≡ 0 → values_from bytes n ≡ Some []
unfolding values_from
at_end [] n e = refl
at_end (b ∷ bytes) n e = absurd (omega arith)

pub too_many : (bytes : List ℕ) (n : ℕ) → 0 < length bytes → n ≡ 0 → values_from bytes n ≡ None
unfolding values_from
too_many [] n some e = absurd (omega arith)
too_many (b ∷ bytes) n some e = rw e refl

-- the value at a place, if there is one more value
pub last_value : (before : List (List ℕ)) (v : List ℕ) (at : ℕ) → slice_get (before ++ v ∷ []) at ≡ (if at == length before then Some v else slice_get before at)
last_value [] v zero = refl
last_value [] v (suc at) = grind (arith, nat_tests)
last_value (x ∷ before) v zero = grind (arith, nat_tests)
last_value (x ∷ before) v (suc at) = grind (arith, nat_tests, last_value before v at)

pub all_counted : (x : Option (List (List ℕ))) (before : List (List ℕ)) (at count : ℕ) (chosen : Option (List ℕ)) → x ≡ after before (Some [])
    → count ≡ length before → chosen ≡ slice_get before at → Some (count, chosen) ≡ option_map (counted at) x
all_counted x before at count chosen e c h =
    rw (e, append-nil before, c, h) refl

-- ---- no element is longer than all of them

parts_short : (bytes : List ℕ) (r : Result (Part × List ℕ) FaultKind) (v : List ℕ × List ℕ) → value_read bytes r ≡ Some v
    → (length v.0 ≤ length bytes) × (length v.1 ≤ length bytes)
parts_short bytes (Err e) v h = cc
parts_short bytes (Ok r) v h = go r.0.mark.class h
  where
    go : (c : Class) → only_application c (parted (length bytes - length r.1) bytes) ≡ Some v → (length v.0 ≤ length bytes) × (length v.1 ≤ length bytes)
    go Context h = cc
    go Application h =
        let same : parted (length bytes - length r.1) bytes ≡ v = cc in
        subst (λ (w : List ℕ × List ℕ). (length w.0 ≤ length bytes) × (length w.1 ≤ length bytes)) same
        (simp length-take (omega arith), simp length-drop (omega arith))

pub value_short : (bytes : List ℕ) (n : ℕ) (vs : List (List ℕ)) → values_from bytes n ≡ Some vs → (at : ℕ) (v : List ℕ) → slice_get vs at ≡ Some v
    → length v ≤ length bytes
unfolding values_from
value_short [] n vs e at v h = let same : [] ≡ vs = cc in cc
value_short (b ∷ bytes) zero vs e at v h = cc
value_short (b ∷ bytes) (suc n) vs e at v h =
    go (first_value (b ∷ bytes)) refl e (λ left us g i u p. value_short left n us g i u p)
  where
    go : (x : Option (List ℕ × List ℕ)) → first_value (b ∷ bytes) ≡ x → each_after x (λ r. values_from r n) ≡ Some vs
        → ((left : List ℕ) (us : List (List ℕ)) → values_from left n ≡ Some us → (i : ℕ) (u : List ℕ) → slice_get us i ≡ Some u → length u ≤ length left)
        → length v ≤ length (b ∷ bytes)
    go None f g again = cc
    go (Some w) f g again = rest (values_from w.1 n) refl g
      where
        short : (length w.0 ≤ length (b ∷ bytes)) × (length w.1 ≤ length (b ∷ bytes))
        short = parts_short (b ∷ bytes) (element_at (b ∷ bytes)) w f

        placed : (ws : List (List ℕ)) → values_from w.1 n ≡ Some ws → (i : ℕ) → slice_get (w.0 ∷ ws) i ≡ Some v → length v ≤ length (b ∷ bytes)
        placed ws g zero p = let same : w.0 ≡ v = cc in subst (λ (u : List ℕ). length u ≤ length (b ∷ bytes)) same short.0
        placed ws g (suc i) p = omega (arith, again w.1 ws g i v p, short.1)

        rest : (y : Option (List (List ℕ))) → values_from w.1 n ≡ y → option_map (λ us. w.0 ∷ us) y ≡ Some vs → length v ≤ length (b ∷ bytes)
        rest None g q = cc
        rest (Some ws) g q = let same : vs ≡ w.0 ∷ ws = cc in placed ws g at (subst (λ us. slice_get us at ≡ Some v) same h)
