-- The laws of members: a tag with a class and number, and the contents after it.
use Rattle.std.proofs.Common.{◌≡◌, ℕ, ◌<◌, ◌^◌, Bool, true, false, cond, nat_eq, ◌++◌, length, []}
use Rattle.std.proofs.Common.{◌∷◌, Option, Some, None, Result, Ok, Err, IsTrue, refl, sym, ap, subst, ◌∙◌}
use Rattle.std.proofs.Common.{append_assoc}
use Rattle.std.proofs.lemmas.Bool.{eqb-true, eq-eqb}
use Rattle.bac_value.proofs.Steps.{bind_ok, ok_is}
use Rattle.bac_value.specs.declared.fault.FaultKind.{FaultKind}
use Rattle.bac_value.specs.declared.tag.Class.{Class}
use Rattle.bac_value.specs.declared.tag.Class.TheVariants.{Application, Context}
use Rattle.bac_value.specs.declared.tag.Form.{Form}
use Rattle.bac_value.specs.declared.tag.Form.TheVariants.{Length, Boolean, Opening, Closing}
use Rattle.bac_value.specs.Limits.{tag_fits}
use Rattle.bac_value.specs.Octets.{IsBytes}
use Rattle.bac_value.specs.Spelling.{Mark, tag_spelling, SpellsTag}
use Rattle.bac_value.specs.Reading.{tag_at}
use Rattle.bac_value.proofs.Tags.{tag_exact}
use Rattle.bac_service.specs.Members.{Octets, mark_of, Tagged}
use Rattle.bac_service.specs.Stops.{told_at}
use Rattle.bac_value.specs.Steps.{◌>>=◌}
use Rattle.bac_service.specs.Reading.{length_of, announced, next_tag, expected, head_at, member_at}
use Rattle.bac_service.proofs.Exact.{IsExact, Anything, bytes_behind}

pub told_ok : {A : Type 0} (bytes : Octets) (r : Result A FaultKind) (x : A) → told_at bytes r ≡ Ok x → r ≡ Ok x
told_ok bytes (Ok y) x e = ap Ok (ok_is y x e)
told_ok bytes (Err d) x e = absurd cc

-- the next tag is the tag in front
pub next_tag_ok : (bytes : Octets) (t : Mark × Octets) → next_tag bytes ≡ Ok t → tag_at bytes ≡ Ok t
unfolding next_tag
next_tag_ok [] t e = absurd cc
next_tag_ok (b ∷ bytes) t e = told_ok (b ∷ bytes) (tag_at (b ∷ bytes)) t e

pub next_tag_again : (bytes : Octets) (t : Mark × Octets) → tag_at bytes ≡ Ok t → next_tag bytes ≡ Ok t
unfolding next_tag tag_at
next_tag_again [] t e = absurd cc
next_tag_again (b ∷ bytes) t e = ap (told_at (b ∷ bytes)) e

pub some_is : {A : Type 0} (x y : A) → Some x ≡ Some y → x ≡ y
some_is x y e = cc

pub expected_ok : {A : Type 0} (bytes : Octets) (o : Option A) (x : A) → expected bytes o ≡ Ok x → o ≡ Some x
expected_ok bytes (Some y) x e = ap Some (ok_is y x e)
expected_ok bytes None x e = absurd cc

abbrev of : ℕ → Class → Form → Mark
of n c f = record { number = n; class = c; form = f }

length_is : (f : Form) (k : ℕ) → length_of f ≡ Some k → f ≡ Length k
length_is (Length j) k e = ap Length (some_is j k e)
length_is (Boolean b) k e = absurd cc
length_is Opening k e = absurd cc
length_is Closing k e = absurd cc

numbered : (number : ℕ) (class : Class) (n : ℕ) (f : Form) (k : ℕ) (b : Bool) → nat_eq number n ≡ b → cond b (length_of f) None ≡ Some k
    → of n class f ≡ mark_of class number k
numbered number class n f k true t e = rw (← eqb-true number n t, length_is f k e) refl
numbered number class n f k false t e = absurd cc

announced_fields : (class : Class) (number : ℕ) (c : Class) (n : ℕ) (f : Form) (k : ℕ) → announced class number (of n c f) ≡ Some k
    → of n c f ≡ mark_of class number k
unfolding announced
announced_fields Application number Application n f k e = numbered number Application n f k (nat_eq number n) refl e
announced_fields Application number Context n f k e = absurd cc
announced_fields Context number Application n f k e = absurd cc
announced_fields Context number Context n f k e = numbered number Context n f k (nat_eq number n) refl e

pub announced_is : (class : Class) (number : ℕ) (m : Mark) (k : ℕ) → announced class number m ≡ Some k → m ≡ mark_of class number k
announced_is class number m k e = announced_fields class number m.class m.number m.form k e

pub announced_again : (class : Class) (number k : ℕ) → announced class number (mark_of class number k) ≡ Some k
unfolding announced
announced_again Application number k = rw (eq-eqb number number refl) refl
announced_again Context number k = rw (eq-eqb number number refl) refl

-- a tag with another number is not accepted
pub announced_other : (number n k : ℕ) → nat_eq number n ≡ false → announced Context number (mark_of Context n k) ≡ None
unfolding announced
announced_other number n k t = rw t refl

-- a tag was read, followed by this many octets of contents
pub record TookHead (class : Class) (number : ℕ) (bytes : Octets) (k : ℕ) (rest : Octets) : Type 0 where
  pub is : bytes ≡ tag_spelling (mark_of class number k) ++ rest
  pub spelled : SpellsTag (mark_of class number k) (tag_spelling (mark_of class number k))

pub head_takes : (class : Class) (number : ℕ) (bytes : Octets) (x : ℕ × Octets) → IsBytes bytes → head_at class number bytes ≡ Ok x
    → TookHead class number bytes x.0 x.1
unfolding head_at
head_takes class number bytes x fits e =
    let t = bind_ok (next_tag bytes) (λ t. expected bytes (announced class number t.0) >>= λ k. Ok (k, t.1)) x e in
    let k = bind_ok (expected bytes (announced class number t.0.0)) (λ k. Ok (k, t.0.1)) x t.2 in
    let took = tag_exact.takes bytes t.0 fits (next_tag_ok bytes t.0 t.1) in
    let m = announced_is class number t.0.0 k.0 (expected_ok bytes (announced class number t.0.0) k.0 k.1) in
    let spelled : SpellsTag (mark_of class number k.0) took.0 = subst (λ (m : Mark). SpellsTag m took.0) m took.2 in
    let whole_is : bytes ≡ tag_spelling (mark_of class number k.0) ++ t.0.1 = took.1 ∙ ap (λ (s : Octets). s ++ t.0.1) spelled.is in
    let alone : SpellsTag (mark_of class number k.0) (tag_spelling (mark_of class number k.0)) =
    record { fits = spelled.fits; length_in = spelled.length_in; is = refl } in
    let made : TookHead class number bytes k.0 t.0.1 = record { is = whole_is; spelled = alone } in
    subst (λ (y : ℕ × Octets). TookHead class number bytes y.0 y.1) (ok_is (k.0, t.0.1) x k.2) made

pub head_again : (class : Class) (number k : ℕ) (rest : Octets) → IsTrue (tag_fits number class (Length k)) → k < 2 ^ 32
    → head_at class number (tag_spelling (mark_of class number k) ++ rest) ≡ Ok (k, rest)
unfolding head_at
head_again class number k rest fits short =
    let s : SpellsTag (mark_of class number k) (tag_spelling (mark_of class number k)) = record { fits = fits; length_in = short; is = refl } in
    let bytes = tag_spelling (mark_of class number k) ++ rest in
    let next = next_tag_again bytes (mark_of class number k, rest) (tag_exact.again (mark_of class number k) (tag_spelling (mark_of class number k)) rest s) in
    rw (next, announced_again class number k) refl

-- contents that are read together with their length
pub record IsContentsLaw {A : Type 0} (read : ℕ → Octets → Result (A × Octets) FaultKind) (Is : A → Octets → Type 0) : Type 0 where
  pub takes : (k : ℕ) (bytes : Octets) (x : A × Octets) → IsBytes bytes → read k bytes ≡ Ok x → (text : Octets) × (bytes ≡ text ++ x.1) × (length text ≡ k)
      × Is x.0 text
  pub again : (y : A) (text rest : Octets) → Is y text → read (length text) (text ++ rest) ≡ Ok (y, rest)

-- a tag of this class and number can announce any length of contents
abbrev pub Tags : Class → ℕ → Type 0
Tags class number = (k : ℕ) → IsTrue (tag_fits number class (Length k))

pub member_exact : {A : Type 0} → (class : Class) (number : ℕ) (read : ℕ → Octets → Result (A × Octets) FaultKind) (Is : A → Octets → Type 0)
    → Tags class number → IsContentsLaw read Is
    → IsExact Anything (member_at class number read) (λ y. Tagged class number (Is y))
unfolding member_at
member_exact {A = A} class number read Is fit law = record {
  takes = λ bytes x fits e.
      let h = bind_ok (head_at class number bytes) (λ h. told_at bytes (read h.0 h.1)) x e in
      let took = head_takes class number bytes h.0 fits h.1 in
      let c = law.takes h.0.0 h.0.1 x (bytes_behind (tag_spelling (mark_of class number h.0.0)) h.0.1 (subst IsBytes took.is fits))
      (told_ok bytes (read h.0.0 h.0.1) x h.2) in
      let head = tag_spelling (mark_of class number h.0.0) in
      let is : bytes ≡ (head ++ c.0) ++ x.1 = took.is ∙ ap (λ (r : Octets). head ++ r) c.1 ∙ sym (append_assoc head c.0 x.1) in
      let short : length c.0 < 2 ^ 32 = subst (λ (k : ℕ). k < 2 ^ 32) (sym c.2) took.spelled.length_in in
      let marked : head ≡ tag_spelling (mark_of class number (length c.0)) = ap (λ (k : ℕ). tag_spelling (mark_of class number k)) (sym c.2) in
      (head ++ c.0, is, record { contents = c.0; are = c.3; fits = short; is = ap (λ (s : Octets). s ++ c.0) marked });
  again = λ y text rest s follows.
      let head = tag_spelling (mark_of class number (length s.contents)) in
      let parts : text ++ rest ≡ head ++ (s.contents ++ rest) = ap (λ (t : Octets). t ++ rest) s.is ∙ append_assoc head s.contents rest in
      rw (parts, head_again class number (length s.contents) (s.contents ++ rest) (fit (length s.contents)) s.fits, law.again y s.contents rest s.are) refl;
}
